-- Laws of decimal numbers: the definition of a width by search is the least; a number below 10 ^ 20 has at most 20 digits. Assumes nothing.
use Prim.Native.Nat.{ℕ, zero, suc, ◌+◌, ◌/◌, ◌%◌, ◌^◌, ◌≤◌, ◌<◌}
use native.Mathlib.Nat.{le_trans, le_refl, add-zero, le_antisymm, not-le_of_lt, pow-le-pow_right, pow-suc, div-div-eq-div-mul, le-div_iff_mul-le, div-lt_iff_lt-mul, lt_of_not-le}
use native.Mathlib.Omega.{arith}
use native.Mathlib.Decide.{dec_le}
use mathlib.Core.Path.{◌≡◌, refl, sym, ap, subst, ◌∙◌}
use mathlib.Core.Bool.{Bool, true, false}
use mathlib.Core.List.{[], ◌∷◌}
use lib.Dec.{ltb}
use lib.ListN.{length}
use borrow.Author.Tests.{ltb-true, ltb-false}
use Rattle.text.specs.Decimal.{digits, Width, width_from, width, decimal}

from-enough : (f i n : ℕ) → n < 10 ^ (i + f) → n < 10 ^ width_from f i n
unfolding width_from
from-enough zero i n h = subst (λ (e : ℕ). n < 10 ^ e) (add-zero i) h
from-enough (suc f) i n h = go (ltb n (10 ^ i)) refl (from-enough f (suc i) n)
  where
    go : (b : Bool) → ltb n (10 ^ i) ≡ b → (n < 10 ^ (suc i + f) → n < 10 ^ width_from f (suc i) n) → n < 10 ^ (elim b [ true ↦ i | false ↦ width_from f (suc i) n ])
    go true e r = ltb-true n (10 ^ i) e
    go false e r = r (subst (λ (x : ℕ). n < 10 ^ x) (omega arith) h)

from-ge : (f i n : ℕ) → i ≤ width_from f i n
unfolding width_from
from-ge zero i n = le_refl i
from-ge (suc f) i n = go (ltb n (10 ^ i)) (from-ge f (suc i) n)
  where
    go : (b : Bool) → suc i ≤ width_from f (suc i) n → i ≤ elim b [ true ↦ i | false ↦ width_from f (suc i) n ]
    go true r = le_refl i
    go false r = omega arith

from_le : (f i n m : ℕ) → i ≤ m → n < 10 ^ m → width_from f i n ≤ m
unfolding width_from
from_le zero i n m h p = h
from_le (suc f) i n m h p = go (ltb n (10 ^ i)) refl (from_le f (suc i) n m)
  where
    go : (b : Bool) → ltb n (10 ^ i) ≡ b → (suc i ≤ m → n < 10 ^ m → width_from f (suc i) n ≤ m) → elim b [ true ↦ i | false ↦ width_from f (suc i) n ] ≤ m
    go true e r = h
    go false e r =
        r (elim (dec_le (suc i) m) [
          | yes q ↦ q
          | no q ↦ absurd (not-le_of_lt p (le_trans (pow-le-pow_right (omega arith) (omega arith)) (ltb-false n (10 ^ i) e)))
        ]) p

pub width_is : (n : ℕ) → n < 10 ^ 20 → Width n (width n)
unfolding width
width_is n h = record { some = from-ge 19 1 n; enough = from-enough 19 1 n h; none_below = λ j p q. from_le 19 1 n j p q }

pub width-unique : (n k : ℕ) → n < 10 ^ 20 → Width n k → k ≡ width n
width-unique n k h w =
    let d = width_is n h in
    le_antisymm (w.none_below (width n) d.some d.enough) (d.none_below k w.some w.enough)

pub length_digits : (k n : ℕ) → length (digits k n) ≡ k
unfolding digits
length_digits zero n = refl
length_digits (suc k) n = ap suc (length_digits k n)

pub length-decimal : (n : ℕ) → length (decimal n) ≡ width n
unfolding decimal
length-decimal n = length_digits (width n) n

pub width-le : (n j : ℕ) → 0 < j → n < 10 ^ j → width n ≤ j
unfolding width
width-le n j p q = from_le 19 1 n j p q

-- a number below 10 ^ k has at most k digits
pub decimal-le : (n k : ℕ) → 0 < k → n < 10 ^ k → length (decimal n) ≤ k
decimal-le n k p h = omega (arith, length-decimal n, width-le n k p h)

-- ---- what is left of a number once its k lowest digits are taken off

pub left-next : (n k : ℕ) → n / 10 ^ k / 10 ≡ n / 10 ^ suc k
left-next n k = div-div-eq-div-mul n (10 ^ k) 10 ∙ ap (λ (d : ℕ). n / d) (sym (pow-suc 10 k))

pow-ten-pos : (k : ℕ) → 0 < 10 ^ k
pow-ten-pos k = pow-le-pow_right {n = 10} (omega arith) {i = 0} {j = k} (omega arith)

pub left-some : (n k : ℕ) → 0 < n / 10 ^ k → 10 ^ k ≤ n
left-some n k h = omega (arith, (le-div_iff_mul-le (pow-ten-pos k)).0 h)

pub left-none : (n k : ℕ) → n / 10 ^ k ≡ 0 → n < 10 ^ k
left-none n k h = omega (arith, (div-lt_iff_lt-mul {x = n} {y = 1} (pow-ten-pos k)).0 (omega arith))

-- a power of ten that is not above a 64-bit number has an exponent below 20
pub ten-small : (n k : ℕ) → n < 2 ^ 64 → 10 ^ k ≤ n → k < 20
ten-small n k h p = lt_of_not-le (λ q. omega (arith, pow-le-pow_right {n = 10} (omega arith) {i = 20} {j = k} q))

-- and a number that is below neither is not below a lesser one
pub ten-mono : (n k j : ℕ) → 10 ^ k ≤ n → n < 10 ^ j → k < j
ten-mono n k j p q = lt_of_not-le (λ r. omega (arith, pow-le-pow_right {n = 10} (omega arith) {i = j} {j = k} r))

-- ---- a 64-bit number as it is written

pub written-width : (n : ℕ) {k : ℕ} → n < 2 ^ 64 → Width n k → length (decimal n) ≡ k
written-width n {k} h w = length-decimal n ∙ sym (width-unique n k (omega arith) w)

pub written-digits : (n : ℕ) {k : ℕ} → n < 2 ^ 64 → Width n k → digits k n ≡ decimal n
unfolding decimal
written-digits n {k} h w = ap (λ (j : ℕ). digits j n) (width-unique n k (omega arith) w)

-- ---- the digits of a short number

-- a number with k digits behind its first
width-by : (n k : ℕ) → 10 ^ k ≤ n → n < 10 ^ suc k → Width n (suc k)
width-by n k l h = record { some = omega arith; enough = h; none_below = λ j p q. ten-mono n k j l q }

module _ (n : ℕ) where
  pub decimal-one : n < 10 → decimal n ≡ (48 + n) ∷ []
  unfolding digits
  decimal-one h =
      let w : Width n 1 = record { some = omega arith; enough = h; none_below = λ j p q. p } in
      let e : n / 10 ^ 0 % 10 ≡ n = omega arith in
      sym (written-digits n (omega arith) w) ∙ rw e

  pub decimal-two : 10 ≤ n → n < 100 → decimal n ≡ (48 + n / 10) ∷ (48 + n % 10) ∷ []
  unfolding digits
  decimal-two l h =
      let e : n / 10 ^ 1 % 10 ≡ n / 10 = omega arith in
      let f : n / 10 ^ 0 % 10 ≡ n % 10 = omega arith in
      sym (written-digits n (omega arith) (width-by n 1 l h)) ∙ rw (e, f)

  pub decimal-three : 100 ≤ n → n < 1000 → decimal n ≡ (48 + n / 100) ∷ (48 + n % 100 / 10) ∷ (48 + n % 100 % 10) ∷ []
  unfolding digits
  decimal-three l h =
      let e : n / 10 ^ 2 % 10 ≡ n / 100 = omega arith in
      let f : n / 10 ^ 1 % 10 ≡ n % 100 / 10 = omega arith in
      let g : n / 10 ^ 0 % 10 ≡ n % 100 % 10 = omega arith in
      sym (written-digits n (omega arith) (width-by n 2 l h)) ∙ rw (e, f, g)

  pub decimal-four : 1000 ≤ n → n < 10000 → decimal n ≡ (48 + n / 100 / 10) ∷ (48 + n / 100 % 10) ∷ (48 + n % 100 / 10) ∷ (48 + n % 100 % 10) ∷ []
  unfolding digits
  decimal-four l h =
      let d : n / 10 ^ 3 % 10 ≡ n / 100 / 10 = omega arith in
      let e : n / 10 ^ 2 % 10 ≡ n / 100 % 10 = omega arith in
      let f : n / 10 ^ 1 % 10 ≡ n % 100 / 10 = omega arith in
      let g : n / 10 ^ 0 % 10 ≡ n % 100 % 10 = omega arith in
      sym (written-digits n (omega arith) (width-by n 3 l h)) ∙ rw (d, e, f, g)
