-- Laws of lists of calls: a list in two parts. Assumes nothing.
use Prim.Native.Nat.{ℕ}
use native.Mathlib.Omega.{arith}
use mathlib.Core.Path.{◌≡◌, refl, ap}
use mathlib.Core.List.{List, [], ◌∷◌, ◌++◌}
use Rattle.rules.specs.State.{State}
use Rattle.rules.specs.Calls.{Call, step}
use Rattle.rules.specs.Runs.{Event, after, trace}

pub after-append : (s : State) (a b : List Call) → after s (a ++ b) ≡ after (after s a) b
unfolding after
after-append s [] b = refl
after-append s (c ∷ cs) b = after-append (step s c).state cs b

pub trace-append : (s : State) (a b : List Call) → trace s (a ++ b) ≡ trace s a ++ trace (after s a) b
unfolding trace after
trace-append s [] b = refl
trace-append s (c ∷ cs) b = ap (λ (es : List Event). record { call = c; reply = (step s c).reply } ∷ es) (trace-append (step s c).state cs b)

-- a split of the events is a split of the calls
pub record Split (s : State) (past rest : List Event) : Type 0 where
  pub calls : List Call
  pub more : List Call
  pub past_is : trace s calls ≡ past
  pub rest_is : trace (after s calls) more ≡ rest

pub split : (s : State) (cs : List Call) (past rest : List Event) → trace s cs ≡ past ++ rest → Split s past rest
unfolding trace after
split s cs [] rest e = record { calls = []; more = cs; past_is = refl; rest_is = e }
split s [] (x ∷ past) rest e = let z : ◌≡◌ {A = ℕ} 0 1 = cc in absurd (omega arith)
split s (c ∷ cs) (x ∷ past) rest e =
    let h = split (step s c).state cs past rest (cc) in
    record { calls = c ∷ h.calls; more = h.more; past_is = cc h.past_is; rest_is = h.rest_is }
