-- What the answer of a test says, and laws behind the tests of a setting: c by its two bounds, the group by the slot. Assumes nothing.
use Rattle.std.proofs.Common.{◌≡◌, ℕ, zero, suc, ◌+◌, ◌*◌, ◌^◌, ◌<◌, ◌≤◌, Bool, true, false, not, sym, ap, ◌∙◌, mul-le-mul, arith, pow_mono}
use mathlib.Core.Bool.{false≢true}
use native.Mathlib.Nat.{two-pow-succ}
use native.Mathlib.Decide.{dec_le}
use Rattle.units.specs.Numbers.{per_byte, least_power, Least}
use Rattle.units.proofs.PerByte.{rate-weight-ge, rate-weight-lt, rate-ge}
use Rattle.units.proofs.Group.{power-least, least-unique, group-le}
use Rattle.rules.specs.State.{charge, group}
use Rattle.table.specs.Means.{given_of}
use Rattle.table.specs.declared.LaneRow.{LaneRow}
use Rattle.lane_test.specs.Says.{Says}
pub use Rattle.round_test.proofs.Answers.{says-true, says-false}

-- ---- what a test said

pub says-yes : {P : Type 0} (b : Bool) → Says b P → not b ≡ false → P
says-yes true s e = s
says-yes false s e = absurd (false≢true (sym e))

pub says-no : {P : Type 0} (b : Bool) → Says b P → not b ≡ true → P → ⊥
says-no true s e = absurd (false≢true e)
says-no false s e = s

-- ---- c

module _ (w c : ℕ) (pos : 1 ≤ w) where
  pub rate-not-less : c * w < 2 ^ 20 → c ≡ per_byte w → ⊥
  rate-not-less h e = omega (arith, rate-weight-ge w pos, ap (λ (x : ℕ). x * w) e)

  pub rate-not-more : 2 ^ 20 + w ≤ c * w → c ≡ per_byte w → ⊥
  rate-not-more h e = omega (arith, rate-weight-lt w pos, ap (λ (x : ℕ). x * w) e)

-- ---- the group

-- between half a slot and a slot lies one power only
least-between : (n i : ℕ) → n ≤ 2 ^ i → 2 ^ i < 2 * n → Least n i
least-between n i lo hi =
    record {
      enough = lo;
      none_below = λ j h. elim (dec_le i j) [ yes q ↦ q | no q ↦ absurd (omega (arith, pow_mono {i = suc j} {j = i} (omega arith), two-pow-succ j)) ];
    }

half-less : (n i : ℕ) → 1 ≤ n → Least n i → 2 ^ i < 2 * n
half-less n zero pos l = omega arith
half-less n (suc i) pos l =
    elim (dec_le n (2 ^ i)) [ yes q ↦ absurd (omega (arith, l.none_below i q)) | no q ↦ omega (arith, two-pow-succ i) ]

-- longest times c
abbrev pub span : LaneRow → ℕ
span l = charge (given_of l) l.longest.0 * l.rate.0

module _ (l : LaneRow) (rated : l.rate.0 ≡ per_byte l.weight) where
  least-group : group (given_of l) ≡ least_power (span l)
  unfolding group
  least-group = rw rated

  pub group-is : span l ≤ 2 ^ l.group → 2 ^ l.group < 2 * span l → l.group ≡ group (given_of l)
  group-is lo hi = least-unique (span l) l.group (least-between (span l) l.group lo hi) ∙ sym least-group

  module _ (low : 1 ≤ span l) (same : l.group ≡ group (given_of l)) where
    least-is : Least (span l) l.group
    least-is = rw (same ∙ least-group) (power-least (span l))

    pub group-not-small : 2 ^ l.group < span l → ⊥
    group-not-small h = omega (arith, least-is.enough)

    pub group-not-large : 2 * span l ≤ 2 ^ l.group → ⊥
    group-not-large h = omega (arith, half-less (span l) l.group low least-is)

  pub group-at-most : l.longest.0 ≤ 1500 → l.framing.0 ≤ 64 → l.group ≡ group (given_of l) → l.group ≤ 31
  unfolding charge
  group-at-most h f same = rw (same ∙ least-group, rated) (group-le l.weight (charge (given_of l) l.longest.0) (omega arith))

  pub span_pos : 64 ≤ l.longest.0 → 1 ≤ l.weight → l.weight ≤ 1024 → 1 ≤ span l
  unfolding charge
  span_pos h p q =
      let wide : 64 ≤ charge (given_of l) l.longest.0 = omega arith in
      omega (arith, mul-le-mul wide (rate-ge l.weight p q), ap (λ (x : ℕ). charge (given_of l) l.longest.0 * x) rated)
