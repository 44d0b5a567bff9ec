-- A round's order with 15, which is no train, behind the trains that it names: eight numbers then. Assumes nothing.
use Prim.Native.Nat.{ℕ, zero, suc, ◌+◌, ◌-◌, ◌*◌, ◌/◌, ◌%◌, ◌^◌, ◌≤◌, ◌<◌}
use native.Mathlib.Nat.{pow-suc, zero-add, suc-add, mul_assoc, mul_comm, one-mul}
use native.Mathlib.Omega.{arith}
use mathlib.Core.Path.{◌≡◌, refl, ap, ◌∙◌}
use mathlib.Core.List.{◌∷◌}
use lib.Pow.{pow-add}
use Rattle.units.specs.Plain.{times}
use Rattle.turns.specs.Turns.{fours, named_of, order_of, round_of, turn_of, Ordered}
use Rattle.words.proofs.Bits.{shift_one}
use Rattle.turns.proofs.Round.{four-bits, worth-most}
use Rattle.round_test.proofs.Sums.{one-other}

fifteens : (j k : ℕ) → k < 8 → times k (fours j (16 ^ j - 1)) ≡ 0
unfolding fours
fifteens zero k h = refl
fifteens (suc j) k h =
    let p : 16 ^ suc j ≡ 16 ^ j * 16 = pow-suc 16 j in
    let some : 1 ≤ 16 ^ j = positive j in
    let low : (16 ^ suc j - 1) % 16 ≡ 15 = omega arith in
    let high : (16 ^ suc j - 1) / 16 ≡ 16 ^ j - 1 = omega arith in
    ap (λ (x : ℕ). times k (x ∷ fours j ((16 ^ suc j - 1) / 16))) low
    ∙ ap (λ (x : ℕ). times k (15 ∷ fours j x)) high
    ∙ omega (arith, one-other 15 k (λ e. omega (arith, e)), fifteens j k h)
  where
    positive : (n : ℕ) → 1 ≤ 16 ^ n
    positive zero = omega arith
    positive (suc n) = omega (arith, pow-suc 16 n, positive n)

filled-by : (n j order k : ℕ) → order < 16 ^ n → k < 8 → times k (fours (n + j) (order + (16 ^ n * 16 ^ j - 16 ^ n))) ≡ times k (fours n order)
unfolding fours
filled-by zero j order k h l =
    let is : order + (16 ^ 0 * 16 ^ j - 16 ^ 0) ≡ 16 ^ j - 1 = omega (arith, one-mul (16 ^ j)) in
    ap (λ (m : ℕ). times k (fours m (order + (16 ^ 0 * 16 ^ j - 16 ^ 0)))) (zero-add j) ∙ ap (λ (x : ℕ). times k (fours j x)) is ∙ fifteens j k l
filled-by (suc n) j order k h l =
    let p : 16 ^ suc n ≡ 16 * 16 ^ n = pow-suc 16 n ∙ mul_comm (16 ^ n) 16 in
    let q : 16 ^ suc n * 16 ^ j ≡ 16 * (16 ^ n * 16 ^ j) = ap (λ (x : ℕ). x * 16 ^ j) p ∙ mul_assoc 16 (16 ^ n) (16 ^ j) in
    let low : (order + (16 ^ suc n * 16 ^ j - 16 ^ suc n)) % 16 ≡ order % 16 = omega arith in
    let high : (order + (16 ^ suc n * 16 ^ j - 16 ^ suc n)) / 16 ≡ order / 16 + (16 ^ n * 16 ^ j - 16 ^ n) = omega arith in
    ap (λ (m : ℕ). times k (fours m (order + (16 ^ suc n * 16 ^ j - 16 ^ suc n)))) (suc-add n j)
    ∙ ap (λ (x : ℕ). times k (x ∷ fours (n + j) ((order + (16 ^ suc n * 16 ^ j - 16 ^ suc n)) / 16))) low
    ∙ ap (λ (x : ℕ). times k (order % 16 ∷ fours (n + j) x)) high
    ∙ omega (arith, filled-by n j (order / 16) k (omega arith) l)

-- where the names end, as it is worked out
pub end_is : (n : ℕ) → n ≤ 8 → 1 * 2 ^ (4 * n) % 2 ^ 64 ≡ 16 ^ n
end_is n h = shift_one (4 * n) (omega arith) ∙ four-bits n

pub ordered-is : (r : ℕ) → named_of r ≤ 8 → order_of r < 1 * 2 ^ (4 * named_of r) % 2 ^ 64 → Ordered r
ordered-is r few h = record { few = few; fits = omega (arith, h, end_is (named_of r) few) }

module _ (r : ℕ) (o : Ordered r) where
  abbrev pub filled : ℕ
  filled = order_of r + (2 ^ 32 - 16 ^ named_of r)

  pub filled-times : (k : ℕ) → k < 8 → times k (fours 8 filled) ≡ times k (round_of r)
  unfolding round_of
  filled-times k h =
      ap (λ (x : ℕ). times k (fours 8 (order_of r + (x - 16 ^ named_of r)))) whole
      ∙ ap (λ (m : ℕ). times k (fours m (order_of r + (16 ^ named_of r * 16 ^ (8 - named_of r) - 16 ^ named_of r)))) eight
      ∙ filled-by (named_of r) (8 - named_of r) (order_of r) k o.fits h
    where
      eight : 8 ≡ named_of r + (8 - named_of r)
      eight = omega (arith, o.few)

      whole : 2 ^ 32 ≡ 16 ^ named_of r * 16 ^ (8 - named_of r)
      whole = ap (λ (m : ℕ). 16 ^ m) eight ∙ pow-add 16 (named_of r) (8 - named_of r)

  pub filled-turn : (m : ℕ) → named_of r ≡ suc m → filled % 16 ≡ turn_of r
  filled-turn m e = omega (arith, ap (λ (n : ℕ). 16 ^ n) e ∙ pow-suc 16 m, worth-most (named_of r) o.few)

  pub filled_none : named_of r ≡ 0 → filled % 16 ≡ 15
  filled_none e = omega (arith, ap (λ (n : ℕ). 16 ^ n) e, o.fits)
