-- The lowest set bit of a word cleared: n & (n - 1). Assumes nothing.
use mathlib.Core.Path.{◌≡◌, refl, sym, ap, ◌∙◌}
use mathlib.Core.Logic.{⊎_elim}
use Prim.Native.Nat.{ℕ, zero, suc, ◌-◌, ◌/◌, ◌%◌, ◌^◌, ◌<◌, min}
use native.Mathlib.Nat.{pow-suc, eq-zero-or-pos}
use native.Mathlib.Omega.{arith}
use lib.Bits.{bit_and, and_step, and_self}
use lib.Count.{count_trailing_zeros}
use Rattle.words.specs.Bits.{bit}
use Rattle.words.proofs.Bits.{bit-suc}

half : (a b : ℕ) → bit_and a b / 2 ≡ bit_and (a / 2) (b / 2)
half a b = omega (arith, and_step a b)

low : (a b : ℕ) → bit_and a b % 2 ≡ min (a % 2) (b % 2)
low a b = omega (arith, and_step a b)

-- the lowest set bit is gone, and every other bit stays
pub record Cleared (n t m : ℕ) : Type 0 where
  pub gone : bit t m ≡ 0
  pub stays : (i : ℕ) → (i ≡ t → ⊥) → bit i m ≡ bit i n

odd-half : (n : ℕ) → n % 2 ≡ 1 → (n - 1) / 2 ≡ n / 2
odd-half n e = omega arith

even-half : (n : ℕ) → n % 2 ≡ 0 → (n - 1) / 2 ≡ n / 2 - 1
even-half n e = omega arith

odd-cleared : (n : ℕ) → n % 2 ≡ 1 → Cleared n 0 (bit_and n (n - 1))
odd-cleared n e = record { gone = omega (arith, low n (n - 1)); stays = stays }
  where
    rest : bit_and n (n - 1) / 2 ≡ n / 2
    rest = half n (n - 1) ∙ ap (bit_and (n / 2)) (odd-half n e) ∙ and_self (n / 2)

    stays : (i : ℕ) → (i ≡ 0 → ⊥) → bit i (bit_and n (n - 1)) ≡ bit i n
    stays zero q = absurd (q refl)
    stays (suc i) q = bit-suc i (bit_and n (n - 1)) ∙ ap (bit i) rest ∙ sym (bit-suc i n)

even-cleared : (n t : ℕ) → n % 2 ≡ 0 → Cleared (n / 2) t (bit_and (n / 2) (n / 2 - 1)) → Cleared n (suc t) (bit_and n (n - 1))
even-cleared n t e c = record { gone = bit-suc t (bit_and n (n - 1)) ∙ ap (bit t) rest ∙ c.gone; stays = stays }
  where
    rest : bit_and n (n - 1) / 2 ≡ bit_and (n / 2) (n / 2 - 1)
    rest = half n (n - 1) ∙ ap (bit_and (n / 2)) (even-half n e)

    stays : (i : ℕ) → (i ≡ suc t → ⊥) → bit i (bit_and n (n - 1)) ≡ bit i n
    stays zero q = omega (arith, low n (n - 1))
    stays (suc i) q = bit-suc i (bit_and n (n - 1)) ∙ ap (bit i) rest ∙ c.stays i (λ z. q (ap suc z)) ∙ sym (bit-suc i n)

pub cleared : (k n : ℕ) → 0 < n → n < 2 ^ k → Cleared n (count_trailing_zeros k n) (bit_and n (n - 1))
unfolding count_trailing_zeros
cleared zero n p h = absurd (omega arith)
cleared (suc k) n p h =
    ⊎_elim
    (λ (e : n % 2 ≡ 0). rw e (even-cleared n (count_trailing_zeros k (n / 2)) e (cleared k (n / 2) (omega arith) (omega (arith, rw pow-suc at h)))))
    (λ (q : 0 < n % 2). let e : n % 2 ≡ 1 = omega arith in rw e (odd-cleared n e))
    (eq-zero-or-pos (n % 2))
