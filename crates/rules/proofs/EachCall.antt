-- What a put and a take keep, and a fresh state has, every call keeps, and every list of calls. Assumes nothing.
use Prim.Native.Nat.{ℕ}
use mathlib.Core.Path.{sym, subst}
use mathlib.Core.List.{List, [], ◌∷◌}
use Rattle.units.proofs.Bools.{if-ind}
use Rattle.rules.specs.State.{Rec, Setting, setup_of, State, any_holds}
use Rattle.rules.specs.Calls.{Call, Outcome, put, take, look, sets, lag, restart, put_refusal, put_of, do_put, picked, take_of, do_take, do_look, do_sets, fresh, do_restart, step}
use Rattle.rules.specs.Runs.{after}
use Rattle.rules.proofs.Keep.{look-same, lag-same}

module _ (P : State → Type 0) (begun : (gs : List Setting) → P (fresh gs))
    (puts : (s : State) (j : ℕ) (r : Rec) → P s → P (put_of s j r (put_refusal s j r)).state)
    (takes : (s : State) → P s → P (take_of s (picked s)).state)
  where
    pub each-call : (s : State) (c : Call) → P s → P (step s c).state
    unfolding step do_put do_take do_look do_sets do_restart
    each-call s (put j k m n) w = puts s j (record { train = k; mark = m; len = n }) w
    each-call s take w = takes s w
    each-call s look w = subst P (sym (look-same s (picked s))) w
    each-call s sets w = w
    each-call s (lag j) w = subst P (sym (lag-same s j)) w
    each-call s restart w = if-ind (λ (o : Outcome). P o.state) (any_holds s.lanes) _ _ (λ e. w) (λ e. begun (setup_of s))

    pub each-run : (s : State) (cs : List Call) → P s → P (after s cs)
    unfolding after
    each-run s [] w = w
    each-run s (c ∷ cs) w = each-run (step s c).state cs (each-call s c w)
