-- The rules never answer 10: they know no bytes. Assumes nothing.
use Prim.Native.Nat.{ℕ}
use native.Mathlib.Omega.{arith}
use mathlib.Core.Path.{◌≡◌}
use mathlib.Core.Bool.{not, ◌||◌}
use mathlib.Core.Option.{Option, none, some}
use lib.Dec.{ltb}
use Rattle.units.proofs.Bools.{if-ind}
use Rattle.waiting.specs.Waiting.{full, known}
use Rattle.rules.specs.State.{Rec, State, lane_at, any_holds}
use Rattle.rules.specs.Calls.{Call, put, take, look, sets, lag, restart, Outcome, put_refusal, put_of, do_put, Pick, picked, take_of, do_take, look_of, do_look, do_sets, do_lag, do_restart, step}
pub use Rattle.rules.specs.Refusals.{NotTen}
use Rattle.rules.specs.Refusals.{RulesNotTen}

OtherThanTen : Option ℕ → Type 0
OtherThanTen none = Unit {0}
OtherThanTen (some n) = n ≡ 10 → ⊥

put_other : (s : State) (j : ℕ) (r : Rec) → OtherThanTen (put_refusal s j r)
unfolding put_refusal OtherThanTen
put_other s j r =
    if-ind OtherThanTen (ltb (lane_at s j).given.weight 1) _ _ (λ e q. omega arith) λ e.
    if-ind OtherThanTen (not (known (lane_at s j).waiting r.train)) _ _ (λ e q. omega arith) λ e.
    if-ind OtherThanTen (ltb r.len 1 || ltb (lane_at s j).given.longest r.len) _ _ (λ e q. omega arith) λ e.
    if-ind OtherThanTen (full (lane_at s j).waiting r.train) _ _ (λ e. if-ind (λ (n : ℕ). n ≡ 10 → ⊥) (lane_at s j).given.shared 71 13 (λ e q. omega arith) (λ e q. omega arith)) λ e. tt

put-not-ten : (s : State) (j : ℕ) (r : Rec) (o : Option ℕ) → OtherThanTen o → NotTen (put_of s j r o).reply
unfolding put_of OtherThanTen
put-not-ten s j r none h = tt
put-not-ten s j r (some n) h = h

take-not-ten : (s : State) (o : Option Pick) → NotTen (take_of s o).reply
unfolding take_of
take-not-ten s none = λ q. omega arith
take-not-ten s (some p) = tt

look-not-ten : (s : State) (o : Option Pick) → NotTen (look_of s o).reply
unfolding look_of
look-not-ten s none = λ q. omega arith
look-not-ten s (some p) = tt

pub step-not-ten : (s : State) (c : Call) → NotTen (step s c).reply
unfolding step do_put do_take do_look do_sets do_lag do_restart
step-not-ten s (put j k m n) = put-not-ten s j (record { train = k; mark = m; len = n }) (put_refusal s j (record { train = k; mark = m; len = n })) (put_other s j (record { train = k; mark = m; len = n }))
step-not-ten s take = take-not-ten s (picked s)
step-not-ten s look = look-not-ten s (picked s)
step-not-ten s sets = tt
step-not-ten s (lag j) = if-ind (λ (o : Outcome). NotTen o.reply) (ltb (lane_at s j).given.weight 1) _ _ (λ e q. omega arith) (λ e. tt)
step-not-ten s restart = if-ind (λ (o : Outcome). NotTen o.reply) (any_holds s.lanes) _ _ (λ e q. omega arith) (λ e. tt)

pub rules-not-ten : RulesNotTen
unfolding RulesNotTen
rules-not-ten = step-not-ten
