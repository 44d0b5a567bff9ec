-- The walk over eight numbers of four bits. Assumes nothing.
use Prim.Native.Nat.{ℕ, suc, ◌+◌, ◌-◌, ◌/◌, ◌%◌, ◌^◌, ◌≤◌, ◌<◌, min}
use native.Mathlib.Omega.{arith}
use mathlib.Core.Path.{◌≡◌, sym, ap, ◌∙◌}
use mathlib.Core.List.{◌∷◌}
use lib.Bits.{bit_or}
use Rattle.units.specs.Plain.{times}
use Rattle.units.proofs.Lists.{same_or}
use Rattle.words.specs.Bits.{bit}
use Rattle.digits.proofs.Under.{or-bit}
use Rattle.turns.specs.Turns.{fours}
use Rattle.round_test.specs.Shared.{Seen}
use Rattle.round_test.proofs.Sums.{one, one_same, one-other, bit-none, bit-power, bit-power-other, bit-low}

-- the trains met so far, each as often as it was named; `seen` has these, and `rest` the others
pub record Met (order rest seen i : ℕ) : Type 0 where
  pub within : i ≤ 8
  pub been : ℕ → ℕ
  pub adds : (k : ℕ) → times k (fours 8 order) ≡ been k + times k (fours (8 - i) rest)
  pub bits : (k : ℕ) → bit k seen ≡ min 1 (been k)

pub met-none : (order : ℕ) → Met order order 0 0
met-none order = record { within = omega arith; been = λ k. 0; adds = λ k. omega arith; bits = λ k. bit-none k }

module _ (order rest seen i : ℕ) (m : Met order rest seen i) where
  split : i < 8 → fours (8 - i) rest ≡ rest % 16 ∷ fours (8 - (i + 1)) (rest / 16)
  unfolding fours
  split lt = let left : 8 - i ≡ suc (8 - (i + 1)) = omega arith in ap (λ (n : ℕ). fours n rest) left

  pub met-more : i < 8 → Met order (rest / 16) (bit_or seen (2 ^ (rest % 16))) (i + 1)
  met-more lt =
      record {
        within = omega arith;
        been = λ j. one k j + m.been j;
        adds = λ j. m.adds j ∙ ap (λ (n : ℕ). m.been j + n) (ap (times j) (split lt)) ∙ omega arith;
        bits = λ j.
            same_or k j
            (λ e. omega (arith, or-bit j seen (2 ^ k), ap (λ (x : ℕ). bit x (2 ^ k)) (sym e) ∙ bit-power k, one_same k j e, m.bits j))
            (λ n. omega (arith, or-bit j seen (2 ^ k), bit-power-other k j n, one-other k j n, m.bits j));
      }
    where
      k : ℕ
      k = rest % 16

  module _ (end : 8 ≤ i) where
    all : (k : ℕ) → times k (fours 8 order) ≡ m.been k
    unfolding fours
    all k = let none_left : 8 - i ≡ 0 = omega arith in m.adds k ∙ omega (arith, ap (λ (n : ℕ). times k (fours n rest)) none_left)

    pub met_all : Seen order (seen % 256)
    met_all = record { small = omega arith; bits = λ k h. bit-low seen k h ∙ m.bits k ∙ ap (min 1) (sym (all k)) }
