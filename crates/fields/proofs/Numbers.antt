-- Laws of numbers in bytes.
--
--   big-two    a two-byte number by its bytes
--   big-four   a four-byte number by its halves
--   big-same   a number depends on its own bytes alone
--   byte-from, two_from, long-from   an input by what stands from a place on: a byte, a two-byte number, its length
--
-- Assumes nothing.
use Prim.Native.Nat.{ℕ, zero, suc, ◌+◌, ◌*◌, ◌^◌, ◌≤◌, ◌<◌}
use mathlib.Core.Path.{◌≡◌, refl, sym, ap, ◌∙◌}
use mathlib.Core.List.{List}
use native.Mathlib.Numerals.{towards_suc}
use native.Mathlib.Omega.{arith}
use lib.ListN.{length, get_or, drop, length-drop}
use lib.Seq.{get_or-drop}
use Rattle.fields.specs.Bytes.{byte_at, big}

pub big-two : (s : List ℕ) (at : ℕ) → big s at 2 ≡ byte_at s at * 256 + byte_at s (at + 1)
unfolding big
big-two s at = omega arith

pub big-four : (s : List ℕ) (at : ℕ) → big s at 2 * 65536 + big s (at + 2) 2 ≡ big s at 4
unfolding big
big-four s at = simp towards_suc (omega arith)

-- two inputs that have the same bytes from `at` on have the same number there
pub big-same : (s t : List ℕ) (n at : ℕ) → ((i : ℕ) → at ≤ i → i < at + n → byte_at s i ≡ byte_at t i) → big s at n ≡ big t at n
unfolding big
big-same s t zero at same = refl
big-same s t (suc n) at same =
    omega (arith, ap (λ (b : ℕ). b * 256 ^ n) (same at (omega arith) (omega arith)), big-same s t n (at + 1) (λ i l h. same i (omega arith) (omega arith)))

module _ (s xs : List ℕ) (at : ℕ) (h : drop at s ≡ xs) where
  pub byte-from : (i j : ℕ) → j ≡ at + i → byte_at s j ≡ get_or xs i 0
  byte-from i j e = ap (byte_at s) e ∙ sym (get_or-drop at s i 0) ∙ ap (λ (l : List ℕ). get_or l i 0) h

  pub two_from : (i j : ℕ) → j ≡ at + i → big s j 2 ≡ get_or xs i 0 * 256 + get_or xs (i + 1) 0
  two_from i j e = omega (arith, big-two s j, byte-from i j e, byte-from (i + 1) (j + 1) (omega arith))

  pub long-from : 0 < length xs → length s ≡ at + length xs
  long-from p = omega (arith, length-drop at s, ap length h)
