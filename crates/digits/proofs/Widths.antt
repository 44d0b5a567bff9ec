-- The digits' two widths, byte by byte as the functions read and store them. Assumes nothing.
use mathlib.Core.Path.{◌≡◌, ap, ◌∙◌, subst}
use Prim.Native.Nat.{ℕ, ◌+◌, ◌*◌, ◌/◌, ◌%◌, ◌^◌, ◌≤◌, ◌<◌}
use mathlib.Core.List.{List}
use native.Mathlib.Nat.{div-div-eq-div-mul}
use native.Mathlib.Numerals.{towards_suc}
use native.Mathlib.Omega.{arith}
use lib.ListN.{length, get_or, set}
use lib.Seq.{sets}
use Rattle.words.specs.Runs.{elements_from}
use Rattle.words.specs.Words.{le_val, le_bytes, word_at}
use Rattle.words.proofs.Laws.{half-sum}
use Rattle.digits.specs.Digits.{digit, put_digit, WordStored}
use Rattle.digits.proofs.Bytes.{digit-read, digit-stored}

quarter-sum : (t : List ℕ) (a : ℕ) → get_or t a 0 + get_or t (a + 1) 0 * 256 ≡ le_val (elements_from t a 2)
unfolding le_val
quarter-sum t a = simp towards_suc (omega arith)

quarter-stores : (t : List ℕ) (a v : ℕ) → set (set t a (v % 256)) (a + 1) (v / 256 % 256) ≡ sets t a (le_bytes 2 v)
unfolding le_bytes
quarter-stores t a v = simp towards_suc

half-stores : (t : List ℕ) (a v : ℕ) → set (set (set (set t a (v % 256)) (a + 1) (v / 256 % 256)) (a + 2) (v / 65536 % 256)) (a + 3) (v / 16777216 % 256) ≡ sets t a (le_bytes 4 v)
unfolding le_bytes
half-stores t a v = simp (towards_suc, div-div-eq-div-mul)

module _ (t : List ℕ) (small : (n : ℕ) → get_or t n 0 < 256) (i : ℕ) where
  pub quarter-read : i / 4 * 8 + 8 ≤ length t → get_or t (i * 2) 0 + get_or t (i * 2 + 1) 0 * 256 ≡ digit 16 (i % 4) (word_at t (i / 4))
  quarter-read within =
      let at : i * 2 ≡ i / 4 * 8 + 2 * (i % 4) = omega arith in
      quarter-sum t (i * 2) ∙ ap (λ (a : ℕ). le_val (elements_from t a 2)) at ∙ digit-read t small (i / 4) (i % 4) 2 0 (omega arith) within (omega arith)

  pub half-read : i / 2 * 8 + 8 ≤ length t → get_or t (i * 4) 0 + get_or t (i * 4 + 1) 0 * 256 + (get_or t (i * 4 + 2) 0 + get_or t (i * 4 + 3) 0 * 256) * 65536 ≡ digit 32 (i % 2) (word_at t (i / 2))
  half-read within =
      let at : i * 4 ≡ i / 2 * 8 + 4 * (i % 2) = omega arith in
      half-sum t (i * 4) ∙ ap (λ (a : ℕ). le_val (elements_from t a 4)) at ∙ digit-read t small (i / 2) (i % 2) 4 0 (omega arith) within (omega arith)

  pub quarter-stored : (v : ℕ) → i / 4 * 8 + 8 ≤ length t → v < 2 ^ 16 → WordStored t (set (set t (i * 2) (v % 256)) (i * 2 + 1) (v / 256 % 256)) (i / 4) (put_digit 16 (i % 4) v (word_at t (i / 4)))
  quarter-stored v within narrow =
      let at : i / 4 * 8 + 2 * (i % 4) ≡ i * 2 = omega arith in
      rw (quarter-stores t (i * 2) v)
      (subst (λ (a : ℕ). WordStored t (sets t a (le_bytes 2 v)) (i / 4) (put_digit 16 (i % 4) v (word_at t (i / 4)))) at (digit-stored t small (i / 4) (i % 4) 2 v (omega arith) within narrow))

  pub half-stored : (v : ℕ) → i / 2 * 8 + 8 ≤ length t → v < 2 ^ 32
      → WordStored t (set (set (set (set t (i * 4) (v % 256)) (i * 4 + 1) (v / 256 % 256)) (i * 4 + 2) (v / 65536 % 256)) (i * 4 + 3) (v / 16777216 % 256)) (i / 2) (put_digit 32 (i % 2) v (word_at t (i / 2)))
  half-stored v within narrow =
      let at : i / 2 * 8 + 4 * (i % 2) ≡ i * 4 = omega arith in
      rw (half-stores t (i * 4) v)
      (subst (λ (a : ℕ). WordStored t (sets t a (le_bytes 4 v)) (i / 2) (put_digit 32 (i % 2) v (word_at t (i / 2)))) at (digit-stored t small (i / 2) (i % 2) 4 v (omega arith) within narrow))
