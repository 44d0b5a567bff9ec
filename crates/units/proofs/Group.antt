-- Laws of the group index, once over the index: the definition by search is the least; longest times c is at most the slot; a setting within
-- the numbers has a group of 16 to 31. Assumes nothing.
use Prim.Native.Nat.{ℕ, zero, suc, ◌+◌, ◌-◌, ◌*◌, ◌^◌, ◌≤◌, ◌<◌}
use native.Mathlib.Nat.{le_trans, zero-add, add-zero, two-pow-succ, mul-le-mul, not-le_of_lt, lt_of_lt_of_le, le_antisymm}
use native.Mathlib.Omega.{arith}
use native.Mathlib.Decide.{dec_le}
use mathlib.Core.Path.{◌≡◌, refl, sym, subst}
use mathlib.Core.Bool.{Bool, true, false}
use lib.Dec.{leb}
use lib.Count.{count_leading_zeros, leading_length}
use lib.Pow.{pow_mono, pow-lt}
use borrow.Author.Tests.{leb-true, leb-false}
use Rattle.units.specs.Numbers.{per_byte, power_from, least_power, Least}
use Rattle.units.specs.Rules.{PowerRule}
use Rattle.units.proofs.PerByte.{rate-le, rate-ge}

lt-pow : (n : ℕ) → n < 2 ^ n
lt-pow zero = omega arith
lt-pow (suc n) = omega (arith, lt-pow n, two-pow-succ n)

from-enough : (k i n : ℕ) → n ≤ 2 ^ (i + k) → n ≤ 2 ^ power_from k i n
unfolding power_from
from-enough zero i n h = subst (λ (e : ℕ). n ≤ 2 ^ e) (add-zero i) h
from-enough (suc k) i n h = go (leb n (2 ^ i)) refl (from-enough k (suc i) n)
  where
    go : (b : Bool) → leb n (2 ^ i) ≡ b → (n ≤ 2 ^ (suc i + k) → n ≤ 2 ^ power_from k (suc i) n)
        → n ≤ 2 ^ (elim b [ true ↦ i | false ↦ power_from k (suc i) n ])
    go true e r = leb-true n (2 ^ i) e
    go false e r = r (subst (λ (x : ℕ). n ≤ 2 ^ x) (omega arith) h)

from_le : (k i n m : ℕ) → i ≤ m → n ≤ 2 ^ m → power_from k i n ≤ m
unfolding power_from
from_le zero i n m h p = h
from_le (suc k) i n m h p = go (leb n (2 ^ i)) refl (from_le k (suc i) n m)
  where
    go : (b : Bool) → leb n (2 ^ i) ≡ b → (suc i ≤ m → n ≤ 2 ^ m → power_from k (suc i) n ≤ m) → elim b [ true ↦ i | false ↦ power_from k (suc i) n ] ≤ m
    go true e r = h
    go false e r =
        r (elim (dec_le (suc i) m) [
          | yes q ↦ q
          | no q ↦ absurd (not-le_of_lt (leb-false n (2 ^ i) e) (le_trans p (pow_mono (omega arith))))
        ]) p

-- the definition by search is the least
pub power-least : (n : ℕ) → Least n (least_power n)
unfolding least_power
power-least n = record {
  enough = from-enough n 0 n (subst (λ (e : ℕ). n ≤ 2 ^ e) (sym (zero-add n)) (omega (arith, lt-pow n)));
  none_below = λ j h. from_le n 0 n j (omega arith) h;
}

-- and there is one least only
pub least-unique : (n i : ℕ) → Least n i → i ≡ least_power n
least-unique n i l =
    let d = power-least n in
    le_antisymm (l.none_below (least_power n) d.enough) (d.none_below i l.enough)

pub power-rule : PowerRule
unfolding PowerRule
power-rule n = (power-least n, least-unique n)

-- the least exponent for n is the number of digits of n - 1
pub least-leading : (n : ℕ) → 0 < n → n - 1 < 2 ^ 64 → Least n (64 - count_leading_zeros 64 (n - 1))
least-leading n p h =
    let t = leading_length 64 (n - 1) h in
    let m : 64 - count_leading_zeros 64 (n - 1) ≡ t.0 = omega (arith, t.1) in
    subst (Least n) (sym m) (record {
      enough = omega (arith, t.2);
      none_below = λ j q. elim (dec_le t.0 j) [ yes k ↦ k | no k ↦ absurd (omega (arith, t.3, two-pow-succ j, pow_mono {i = suc j} {j = t.0} (omega arith))) ];
    })

-- longest times c is at most the slot
pub span-le-slot : (n : ℕ) → n ≤ 2 ^ least_power n
span-le-slot n = (power-least n).enough

-- group at most 31, for a longest record of up to 2,047 bytes (1,500 and, later, framing)
pub group-le : (w l : ℕ) → l ≤ 2047 → least_power (l * per_byte w) ≤ 31
group-le w l h = (power-least (l * per_byte w)).none_below 31 (omega (arith, mul-le-mul h (rate-le w)))

-- group at least 16, for a lane of the setup
pub group-ge : (w l : ℕ) → 0 < w → w ≤ 1024 → 64 ≤ l → 16 ≤ least_power (l * per_byte w)
group-ge w l p hw hl =
    let i : ℕ = least_power (l * per_byte w) in
    elim (dec_le 16 i) [
      | yes q ↦ q
      | no q ↦ absurd (not-le_of_lt (lt_of_lt_of_le (pow-lt {i = i} {j = 16} (omega arith)) (omega (arith, mul-le-mul hl (rate-ge w p hw)))) (span-le-slot (l * per_byte w)))
    ]
