-- What is held, by the count over a list of events and in the state that it made, lane by lane and train by train. Assumes nothing.
use Prim.Native.Nat.{ℕ, ◌<◌}
use native.Mathlib.Omega.{arith}
use mathlib.Core.Path.{◌≡◌, refl, sym, ap, ◌∙◌}
use mathlib.Core.Bool.{Bool, true, false, false≢true}
use mathlib.Core.List.{List, ◌++◌}
use mathlib.Core.Option.{Option, none, some}
use lib.ListN.{length, length-append, get_or}
use borrow.Author.Tests.{ltb-true, lt-ltb}
use Rattle.units.specs.Plain.{any_below}
use Rattle.units.proofs.Bools.{not-passed}
use Rattle.waiting.proofs.Laws.{held_none, held-hand, queue-none}
use Rattle.rules.specs.State.{Rec, Lane, no_lane, State, first_of, some?, holds, lane_at, any_holds}
use Rattle.rules.specs.Runs.{Event, accepted_of, sent_of, of_train}
use Rattle.rules.specs.Fair.{Holding}
use Rattle.rules.specs.Even.{HoldingTrain}
use Rattle.rules.proofs.Lowest.{none-holds}
use Rattle.rules.proofs.Live.{some_holds}
use Rattle.rules.proofs.Queues.{held-inside, queue_at}
use Rattle.rules.proofs.Order.{of-append}
use Rattle.rules.proofs.GroupRule.{any_below-at, any_below-none}
use Rattle.rules.proofs.Counts.{accepted-append, sent-append}
use Rattle.rules.proofs.Moves.{not-idle}
use Rattle.pages.specs.Offers.{held_test}
use Rattle.pages.proofs.Parts.{Cleared, Part, part_count, part-order, sound}

-- ---- what is held, by the count and in the state

pub held-holds : (es : List Event) (s : State) (k : ℕ) → Part es s → Holding k es → holds (lane_at s k) ≡ true
held-holds es s k p h = go (first_of (lane_at s k)) refl
  where
    go : (o : Option Rec) → first_of (lane_at s k) ≡ o → holds (lane_at s k) ≡ true
    go none e = absurd (omega (arith, h, part_count es s p k, held_none (lane_at s k).given.longest (lane_at s k).waiting (sound es s p k) e))
    go (some r) e = ap some? e

pub holds-held : (es : List Event) (s : State) (k : ℕ) → Part es s → holds (lane_at s k) ≡ true → Holding k es
holds-held es s k p h = go (first_of (lane_at s k)) refl
  where
    go : (o : Option Rec) → first_of (lane_at s k) ≡ o → Holding k es
    go none e = absurd (false≢true (sym (ap some? e) ∙ h))
    go (some r) e = omega (arith, part_count es s p k, held-hand (lane_at s k).given.longest (lane_at s k).waiting r (sound es s p k) e)

inside : (ls : List Lane) (k : ℕ) (o : Option Rec) → first_of (get_or ls k no_lane) ≡ o → some? o ≡ true → k < length ls
inside ls k none e h = absurd (false≢true h)
inside ls k (some r) e h = held-inside ls k r e

pub any_held_lem : (es : List Event) (s : State) → Part es s → length s.lanes ≡ 64 → any_below (λ (k : ℕ). held_test k es) 64 ≡ any_holds s.lanes
unfolding held_test
any_held_lem es s p size = go (any_holds s.lanes) refl
  where
    go : (b : Bool) → any_holds s.lanes ≡ b → any_below (λ (k : ℕ). held_test k es) 64 ≡ any_holds s.lanes
    go false e =
        any_below-none (λ (k : ℕ). held_test k es) 64
        (λ k. not-passed (held_test k es) (λ t. false≢true (sym (none-holds s.lanes e k) ∙ held-holds es s k p (ltb-true (length (sent_of k es)) (length (accepted_of k es)) t))))
        ∙ sym e
    go true e =
        let o = some_holds s.lanes e in
        let k = o.0 in
        let lt : k < 64 = omega (arith, size, inside s.lanes k (first_of (lane_at s k)) refl o.1) in
        flip (any_below (λ (i : ℕ). held_test i es) 64) refl k lt (lt-ltb (length (sent_of k es)) (length (accepted_of k es)) (holds-held es s k p o.1)) ∙ sym e
      where
        flip : (b : Bool) → any_below (λ (i : ℕ). held_test i es) 64 ≡ b → (k : ℕ) → k < 64 → held_test k es ≡ true → any_below (λ (i : ℕ). held_test i es) 64 ≡ true
        flip true f k h t = f
        flip false f k h t = absurd (false≢true (sym (any_below-at (λ (i : ℕ). held_test i es) 64 k f h) ∙ t))

-- what is held after a list whose first part is cleared is held after the rest of it
pub cancel : (k : ℕ) (old t : List Event) → Cleared old → Holding k (old ++ t) → Holding k t
unfolding Cleared
cancel k old t even h =
    omega (
      arith,
      h,
      (even k).0,
      ap length (accepted-append k old t),
      ap length (sent-append k old t),
      length-append (accepted_of k old) (accepted_of k t),
      length-append (sent_of k old) (sent_of k t),
    )

-- the same of a train
pub cancel-train : (k t : ℕ) (old u : List Event) → Cleared old → HoldingTrain k t (old ++ u) → HoldingTrain k t u
unfolding Cleared
cancel-train k t old u even h =
    omega (
      arith,
      h,
      ap length ((even k).1 t),
      ap (λ (x : List Rec). length (of_train t x)) (accepted-append k old u),
      ap (λ (x : List Rec). length (of_train t x)) (sent-append k old u),
      ap length (of-append t (accepted_of k old) (accepted_of k u)),
      ap length (of-append t (sent_of k old) (sent_of k u)),
      length-append (of_train t (accepted_of k old)) (of_train t (accepted_of k u)),
      length-append (of_train t (sent_of k old)) (of_train t (sent_of k u)),
    )

-- a lane of which a train holds a record holds one
pub train-held : (es : List Event) (s : State) (k t : ℕ) → Part es s → HoldingTrain k t es → Holding k es
train-held es s k t p h =
    let l = lane_at s k in
    holds-held es s k p (not-idle l (λ e. omega (
      arith,
      h,
      ap length (part-order es s p k t),
      length-append (of_train t (sent_of k es)) (queue_at s k t),
      ap length (queue-none l.given.longest l.waiting (sound es s p k) e t),
    )))
