-- The counts of all trains, two at a time. Assumes nothing.
use Prim.Native.Nat.{ℕ, ◌+◌, ◌*◌, ◌/◌, ◌%◌, ◌^◌, ◌≤◌, ◌<◌}
use native.Mathlib.Numerals.{add-one}
use native.Mathlib.Omega.{arith}
use mathlib.Core.Path.{◌≡◌, refl, sym, ap, ◌∙◌}
use lib.Bits.{bit_and, and_block, and_mask}
use Rattle.turns.specs.Turns.{count_of}
use Rattle.round_test.specs.Shared.{below, held_below}

-- two numbers in one word: both counts by one mask
pub two-masked : (a b : ℕ) → a < 2 ^ 32 → bit_and ((a + 2 ^ 32 * b) / 8) 64424509455 ≡ count_of a + 2 ^ 32 * count_of b
two-masked a b h =
    ap (λ (x : ℕ). bit_and x 64424509455) halves
    ∙ and_block 32 (b / 8) 15 low 15 (omega arith) (omega arith)
    ∙ omega (arith, and_mask (b / 8) 4, and_mask low 4)
  where
    low : ℕ
    low = a / 8 + b % 8 * 536870912

    halves : (a + 2 ^ 32 * b) / 8 ≡ b / 8 * 2 ^ 32 + low
    halves = omega arith

module _ (ts : ℕ → ℕ) where
  -- what the first k trains hold, those of even number in the lower half
  pub record Counted (held k : ℕ) : Type 0 where
    pub within : k ≤ 8
    pub even : k % 2 ≡ 0
    pub lower : ℕ
    pub upper : ℕ
    pub is : held ≡ lower + 4294967296 * upper
    pub sum : lower + upper ≡ held_below ts k
    pub small : (lower ≤ 16 * k) × (upper ≤ 16 * k)

  pub counted_none : Counted 0 0
  unfolding below
  counted_none = record { within = omega arith; even = refl; lower = 0; upper = 0; is = refl; sum = refl; small = (omega arith, omega arith) }

  module _ (held k counts : ℕ) (c : Counted held k) (lt : k < 8) (are : counts ≡ count_of (ts k) + 2 ^ 32 * count_of (ts (k + 1))) where
    on : k + 1 + 1 ≡ k + 2
    on = omega arith

    pub counted-more : Counted (held + counts) (k + 2)
    unfolding below
    counted-more =
        record {
          within = omega (arith, c.even);
          even = omega (arith, c.even);
          lower = c.lower + count_of (ts k);
          upper = c.upper + count_of (ts (k + 1));
          is = omega (arith, c.is, are);
          sum = omega (arith, c.sum) ∙ ap (λ (n : ℕ). held_below ts n + count_of (ts (k + 1))) (sym (add-one k)) ∙ ap (held_below ts) (sym (add-one (k + 1)) ∙ on);
          small = (omega (arith, c.small.0), omega (arith, c.small.1));
        }

    pub held_fits : held + counts < 2 ^ 64
    held_fits = omega (arith, c.is, c.small.0, c.small.1, are)
