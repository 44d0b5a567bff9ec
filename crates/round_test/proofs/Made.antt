-- The records' marks do not count: a lane that is good with one choice of marks is good with any. Assumes nothing.
use Prim.Native.Nat.{ℕ, ◌≤◌, ◌<◌}
use native.Mathlib.Omega.{arith}
use native.Mathlib.Decide.{dec_lt}
use mathlib.Core.Path.{◌≡◌, sym, subst, ◌∙◌}
use Rattle.units.specs.Plain.{times}
use Rattle.rounds.specs.Round.{BareRec, no_train, in_turn, shared_held}
use Rattle.rounds.specs.Good.{GoodTrain, GoodShared}
use lib.ListN.{get_or, get_or-eq_default}
use Rattle.turns.specs.Turns.{head_of, place_in_train, trains_of, shared_of, round_of, Ordered}
use Rattle.turns.proofs.Train.{train-is, length-trains}
use Rattle.turns.proofs.Good.{good-once, good-each}
use Rattle.round_test.specs.Shared.{LengthsFit, TrainFine, SharedGood}
use Rattle.round_test.proofs.Lane.{fine-good, good-fine, held-is}

abbrev Within : ℕ → (ℕ → BareRec) → Type 0
Within L at = (p : ℕ) → p < 64 → (1 ≤ (at p).len) × ((at p).len ≤ L)

module _ (L r : ℕ) (at bt : ℕ → BareRec) (ts : ℕ → ℕ) (a : Within L at) (b : Within L bt) (same : (p : ℕ) → p < 64 → (at p).len ≡ (bt p).len) (g : GoodShared L (shared_of at ts r)) where
  near : (k : ℕ) → k < 8 → GoodTrain L (in_turn k (round_of r)) (times k (round_of r)) (get_or (trains_of bt ts) k no_train)
  near k h =
      let f = good-fine L at k (ts k) h a (times k (round_of r)) (in_turn k (round_of r)) (good-each L r at ts g k h) in
      let f' = subst (TrainFine L (times k (round_of r)) (in_turn k (round_of r)) (ts k)) (same (place_in_train k (head_of (ts k))) (omega arith)) f in
      rw (train-is ts bt k h) (fine-good L bt k (ts k) h b (times k (round_of r)) (in_turn k (round_of r)) (good-once L r at ts g k) f')

  far : (k : ℕ) → 8 ≤ k → GoodTrain L (in_turn k (round_of r)) (times k (round_of r)) (get_or (trains_of bt ts) k no_train)
  unfolding shared_of
  far k h =
      subst (GoodTrain L (in_turn k (round_of r)) (times k (round_of r)))
      (get_or-eq_default (trains_of at ts) no_train {n = k} (omega (arith, length-trains ts at)) ∙ sym (get_or-eq_default (trains_of bt ts) no_train {n = k} (omega (arith, length-trains ts bt)))) (g.each k)

  good-marked : GoodShared L (shared_of bt ts r)
  unfolding shared_of
  good-marked = record { size = length-trains ts bt; each = λ k. elim (dec_lt k 8) [ yes h ↦ near k h | no h ↦ far k (omega arith) ] }

-- so what the test says is that of any lane with these lengths
pub shared-made : (L r count : ℕ) (ts lengths : ℕ → ℕ) (at : ℕ → BareRec) → ((p : ℕ) → p < 64 → (at p).len ≡ lengths p) → ((p : ℕ) → 1 ≤ lengths p) → LengthsFit L lengths → Ordered r → GoodShared L (shared_of at ts r) → shared_held (shared_of at ts r) ≡ count → SharedGood L ts lengths r count
shared-made L r count ts lengths at are some_bytes fit o g counted =
    record {
      ordered = o;
      lane = λ bt are'. good-marked L r at bt ts (within at are) (within bt are') (λ p h. are p h ∙ sym (are' p h)) g;
      held = λ bt. held-is bt ts r ∙ sym (held-is at ts r) ∙ counted;
    }
  where
    within : (bt : ℕ → BareRec) → ((p : ℕ) → p < 64 → (bt p).len ≡ lengths p) → Within L bt
    within bt are p h = (omega (arith, are p h, some_bytes p), omega (arith, are p h, fit p h))
