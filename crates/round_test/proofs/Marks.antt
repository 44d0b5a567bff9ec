-- Words that have a bit for each train. Assumes nothing.
use Prim.Native.Nat.{ℕ, zero, suc, ◌+◌, ◌*◌, ◌^◌, ◌≤◌, ◌<◌}
use native.Mathlib.Nat.{two-pow-succ}
use native.Mathlib.Omega.{arith}
use native.Mathlib.Decide.{dec_lt}
use mathlib.Core.Path.{◌≡◌, sym, ap, subst, ◌∙◌}
use lib.Pow.{pow_mono}
use Rattle.words.specs.Bits.{bit}
use Rattle.words.proofs.Bits.{bit-add-same, bit-add-other, bit-above, bits-same}
use Rattle.round_test.specs.Shared.{below}

-- the bits of which f is 1
abbrev pub word : (ℕ → ℕ) → ℕ → ℕ
word f n = below (λ i. f i * 2 ^ i) n

module _ (f : ℕ → ℕ) (most : (k : ℕ) → f k ≤ 1) where
  pub below-most : (n : ℕ) → below f n ≤ n
  unfolding below
  below-most zero = omega arith
  below-most (suc n) = omega (arith, below-most n, most n)

  -- a bit is there, or it is not
  by_bit : (k : ℕ) (P : ℕ → ℕ → Type 0) → P 0 0 → P 1 (2 ^ k) → P (f k) (f k * 2 ^ k)
  by_bit k P none one = go (f k) (most k)
    where
      go : (x : ℕ) → x ≤ 1 → P x (x * 2 ^ k)
      go zero h = let z : 0 ≡ 0 * 2 ^ k = omega arith in subst (P 0) z none
      go (suc zero) h = let z : 2 ^ k ≡ 1 * 2 ^ k = omega arith in subst (P 1) z one
      go (suc (suc x)) h = absurd (omega arith)

  pub word_small : (n : ℕ) → word f n < 2 ^ n
  unfolding below
  word_small zero = omega arith
  word_small (suc n) = by_bit n (λ x y. word f n + y < 2 ^ suc n) (omega (arith, word_small n, two-pow-succ n)) (omega (arith, word_small n, two-pow-succ n))

  pub word-bit : (n k : ℕ) → k < n → bit k (word f n) ≡ f k
  unfolding below
  word-bit zero k h = absurd (omega arith)
  word-bit (suc n) k h =
      elim (dec_lt k n) [
        | yes p ↦ by_bit n (λ x y. bit k (word f n + y) ≡ f k) (ap (bit k) none ∙ word-bit n k p) (ap (bit k) flip ∙ bit-add-other n k (word f n) (λ e. omega (arith, e)) free ∙ word-bit n k p)
        | no p ↦
            let is : n ≡ k = omega arith in
            subst (λ (i : ℕ). bit i (word f n + f n * 2 ^ n) ≡ f i) is
            (by_bit n (λ x y. bit n (word f n + y) ≡ x) (ap (bit n) none ∙ free) (ap (bit n) flip ∙ bit-add-same n (word f n) free))
      ]
    where
      free : bit n (word f n) ≡ 0
      free = bit-above n (word f n) (word_small n)

      none : word f n + 0 ≡ word f n
      none = omega arith

      flip : word f n + 2 ^ n ≡ 2 ^ n + word f n
      flip = omega arith

  pub word-is : (x : ℕ) → x < 256 → ((k : ℕ) → k < 8 → f k ≡ bit k x) → word f 8 ≡ x
  word-is x h e =
      bits-same 8 (word f 8) x (word_small 8) h
      (λ k. elim (dec_lt k 8) [ yes p ↦ word-bit 8 k p ∙ e k p | no p ↦ bit-above k (word f 8) (omega (arith, word_small 8, wide k p)) ∙ sym (bit-above k x (omega (arith, wide k p))) ])
    where
      wide : (k : ℕ) → (k < 8 → ⊥) → 256 ≤ 2 ^ k
      wide k p = pow_mono {i = 8} {j = k} (omega arith)
