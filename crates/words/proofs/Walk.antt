-- A walk over the set bits of a word, from the lowest up. Assumes nothing.
--
--   Left   what is left of a word once its bits below n are gone
use Prim.Native.Nat.{ℕ, ◌+◌, ◌≤◌, ◌<◌}
use lib.Pow.{pow_pos}
use native.Mathlib.Omega.{arith}
use native.Mathlib.Decide.{dec_lt}
use mathlib.Core.Path.{◌≡◌, refl, sym, ap, ◌∙◌}
use mathlib.Core.Logic.{⊎_elim}
use Rattle.words.specs.Bits.{bit, Lowest}
use Rattle.words.proofs.Bits.{bit-above}
use Rattle.words.proofs.Runs.{eq-or-ne}

pub record Left (word left n : ℕ) : Type 0 where
  pub gone : (i : ℕ) → i < n → bit i left ≡ 0
  pub same : (i : ℕ) → n ≤ i → bit i left ≡ bit i word
  pub ends : n ≤ 64

pub left-all : (word : ℕ) → Left word word 0
left-all word = record { gone = λ i h. absurd (omega arith); same = λ i h. refl; ends = omega arith }

-- no bit is left
pub none_left : {word left n : ℕ} → Left word left n → left ≡ 0 → (i : ℕ) → n ≤ i → bit i word ≡ 0
none_left l z i h = sym (l.same i h) ∙ ap (bit i) z ∙ bit-above i 0 (pow_pos i)

-- the next bit
module _ {word left n k rest : ℕ} (l : Left word left n) (b : Lowest left k rest) where
  pub next-on : n ≤ k
  next-on = elim (dec_lt k n) [ yes h ↦ absurd (omega (arith, l.gone k h, b.on)) | no h ↦ omega arith ]

  pub next-present : bit k word ≡ 1
  next-present = sym (l.same k next-on) ∙ b.on

  pub none_between : (i : ℕ) → n ≤ i → i < k → bit i word ≡ 0
  none_between i p q = sym (l.same i p) ∙ b.below i q

  pub left-after : Left word rest (k + 1)
  left-after =
      record {
        gone = λ i h.
            ⊎_elim
            (λ (e : i ≡ k). ap (λ (j : ℕ). bit j rest) e ∙ b.gone)
            (λ (ne : i ≡ k → ⊥). b.stays i ne ∙ b.below i (omega (arith, ne)))
            (eq-or-ne i k);
        same = λ i h. b.stays i (λ q. omega arith) ∙ l.same i (omega (arith, next-on));
        ends = omega (arith, b.small);
      }
