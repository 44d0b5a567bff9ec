-- No call changes the setup. Assumes nothing.
use Prim.Native.Nat.{ℕ}
use mathlib.Core.Path.{◌≡◌, refl, sym, ap, ◌∙◌}
use mathlib.Core.Option.{Option, none, some}
use mathlib.Core.List.{List, [], ◌∷◌}
use lib.ListN.{length, length-map, length-set}
use lib.Seq.{ext_get_or}
use Rattle.units.proofs.Bools.{if-ind}
use Rattle.rules.specs.State.{Rec, Setting, no_setting, Lane, no_lane, State, setting_at, holds, lane_at, setup_of, any_holds}
use Rattle.rules.specs.Calls.{Call, put, take, look, sets, lag, restart, Outcome, put_refusal, shifted, accept, put_of, do_put, serve, Pick, picked, take_of, do_take, do_look, do_sets, idle, fresh, do_restart, step}
use Rattle.rules.specs.Runs.{after}
use Rattle.rules.proofs.Lists.{get_d_map}
use Rattle.rules.proofs.Keep.{look-same, lag-same}
use Rattle.rules.proofs.Shift.{shifted-size}
use Rattle.rules.proofs.Queues.{step-passed}

put-size : (s : State) (j : ℕ) (r : Rec) (o : Option ℕ) → length (put_of s j r o).state.lanes ≡ length s.lanes
unfolding put_of accept
put-size s j r none =
    let u = shifted s in
    if-ind (λ (x : State). length x.lanes ≡ length s.lanes) (holds (lane_at u j)) _ _ (λ e. length-set u.lanes j _ ∙ shifted-size s) (λ e. length-set u.lanes j _ ∙ shifted-size s)
put-size s j r (some n) = refl

take-size : (s : State) (o : Option Pick) → length (take_of s o).state.lanes ≡ length s.lanes
unfolding take_of serve
take-size s none = refl
take-size s (some p) = length-set s.lanes p.lane _

restart-size : (s : State) → length (do_restart s).state.lanes ≡ length s.lanes
unfolding do_restart fresh
restart-size s =
    if-ind (λ (o : Outcome). length o.state.lanes ≡ length s.lanes) (any_holds s.lanes) _ _ (λ e. refl)
    (λ e. length-map (setup_of s) idle ∙ length-map s.lanes (λ (l : Lane). l.given))

pub step-size : (s : State) (c : Call) → length (step s c).state.lanes ≡ length s.lanes
unfolding step do_put do_take do_look do_sets
step-size s (put j k m n) = put-size s j (record { train = k; mark = m; len = n }) (put_refusal s j (record { train = k; mark = m; len = n }))
step-size s take = take-size s (picked s)
step-size s look = ap (λ (x : State). length x.lanes) (look-same s (picked s))
step-size s sets = refl
step-size s (lag j) = ap (λ (x : State). length x.lanes) (lag-same s j)
step-size s restart = restart-size s

pub setting-lane : (s : State) (k : ℕ) → setting_at (setup_of s) k ≡ (lane_at s k).given
setting-lane s k = get_d_map (λ (l : Lane). l.given) s.lanes k no_lane no_setting refl

pub same_setup : (s : State) (c : Call) → setup_of (step s c).state ≡ setup_of s
same_setup s c =
    let s' = (step s c).state in
    ext_get_or no_setting (setup_of s') (setup_of s)
    (length-map s'.lanes (λ (l : Lane). l.given) ∙ step-size s c ∙ sym (length-map s.lanes (λ (l : Lane). l.given)))
    (λ k h. setting-lane s' k ∙ (step-passed k s c).given ∙ sym (setting-lane s k))

pub setup_kept : (s : State) (cs : List Call) → setup_of (after s cs) ≡ setup_of s
unfolding after
setup_kept s [] = refl
setup_kept s (c ∷ cs) = setup_kept (step s c).state cs ∙ same_setup s c

pub fresh-setup : (gs : List Setting) → setup_of (fresh gs) ≡ gs
unfolding fresh idle
fresh-setup [] = refl
fresh-setup (g ∷ gs) = ap (λ (x : List Setting). g ∷ x) (fresh-setup gs)
