-- Laws of bits: a bit taken off, and a word written twice. Assumes nothing.
use mathlib.Core.Path.{◌≡◌, refl, sym, ap, ◌∙◌}
use mathlib.Core.Bool.{Bool, true, false}
use mathlib.Core.Logic.{⊎_elim}
use Prim.Native.Nat.{ℕ, zero, suc, ◌+◌, ◌-◌, ◌*◌, ◌/◌, ◌%◌, ◌^◌, ◌≤◌, ◌<◌}
use native.Mathlib.Nat.{two-pow-succ, le-div_iff_mul-le}
use native.Mathlib.Omega.{arith}
use lib.Pow.{pow_mono, pow_pos, shr_le}
use lib.Count.{count_trailing_zeros}
use Rattle.words.specs.Bits.{bit}
use Rattle.words.proofs.Bits.{bit-suc, bit-shift, bit-above, bit-add-same, bit-add-other, add-below, low-set, bits-same}
use Rattle.words.proofs.Runs.{le-or-lt}
use Rattle.std.specs.Prelude.{if◌then◌else◌}
use Rattle.slot_lists.specs.Changes.{WithBit, Nearest}

-- ---- one bit set, or not

-- a bit that is set is its power taken off and put back
pub bit-has : (k x : ℕ) → bit k x ≡ 1 → (2 ^ k ≤ x) × (bit k (x - 2 ^ k) ≡ 0)
bit-has zero x h = omega arith
bit-has (suc k) x h =
    let r = bit-has k (x / 2) (rw bit-suc at h) in
    let e : (x - 2 ^ suc k) / 2 ≡ x / 2 - 2 ^ k = omega (arith, two-pow-succ k) in
    (omega (arith, two-pow-succ k, r.0), bit-suc k (x - 2 ^ suc k) ∙ rw e r.1)

pub bit-two : (k x : ℕ) → (bit k x ≡ 1 → ⊥) → bit k x ≡ 0
bit-two k x h = ⊎_elim (λ (p : 1 ≤ bit k x). absurd (h (omega arith))) (λ (p : bit k x < 1). omega arith) (le-or-lt 1 (bit k x))

module _ (x k : ℕ) where
  pub bit-on : bit k x ≡ 0 → WithBit x k true (x + 2 ^ k)
  bit-on h =
      let e : x + 2 ^ k ≡ 2 ^ k + x = omega arith in
      record {
        same = rw e (bit-add-same k x h);
        others = λ j ne. rw e (bit-add-other k j x ne h);
        small = λ n p q. rw e (add-below n k x p q h);
      }

  pub bit-off : bit k x ≡ 1 → WithBit x k false (x - 2 ^ k)
  bit-off h =
      let r = bit-has k x h in
      let e : x ≡ 2 ^ k + (x - 2 ^ k) = omega (arith, r.0) in
      record {
        same = r.1;
        others = λ j ne. sym (ap (bit j) e ∙ bit-add-other k j (x - 2 ^ k) ne r.1);
        small = λ n p q. omega (arith, r.0);
      }

  pub bit-stays : (on : Bool) → bit k x ≡ (if on then 1 else 0) → WithBit x k on x
  bit-stays on h = record { same = h; others = λ j ne. refl; small = λ n p q. q }

-- ---- a word written twice

pub bit-low : (n i x y : ℕ) → i < n → bit i (x + y * 2 ^ n) ≡ bit i x
bit-low zero i x y h = absurd (omega arith)
bit-low (suc n) zero x y h = omega (arith, two-pow-succ n, ap (λ (z : ℕ). y * z) (two-pow-succ n))
bit-low (suc n) (suc i) x y h =
    let e : (x + y * 2 ^ suc n) / 2 ≡ x / 2 + y * 2 ^ n = omega (arith, ap (λ (z : ℕ). y * z) (two-pow-succ n)) in
    bit-suc i (x + y * 2 ^ suc n) ∙ rw e (bit-low n i (x / 2) y (omega arith)) ∙ sym (bit-suc i x)

pub bit_high : (n i x y : ℕ) → x < 2 ^ n → bit (n + i) (x + y * 2 ^ n) ≡ bit i y
bit_high zero i x y h = ap (λ (z : ℕ). bit z (x + y * 1)) (omega arith) ∙ ap (bit i) (omega arith)
bit_high (suc n) i x y h =
    let e : (x + y * 2 ^ suc n) / 2 ≡ x / 2 + y * 2 ^ n = omega (arith, ap (λ (z : ℕ). y * z) (two-pow-succ n)) in
    ap (λ (z : ℕ). bit z (x + y * 2 ^ suc n)) (omega arith)
    ∙ bit-suc (n + i) (x + y * 2 ^ suc n)
    ∙ rw e (bit_high n i (x / 2) y (omega (arith, two-pow-succ n)))

module _ (m b : ℕ) (small : m < 2 ^ 32) (hb : b < 32) where
  abbrev pub twice : ℕ
  twice = m + m * 4294967296

  -- the bits of the word from b on, in circular order
  pub turned : (j : ℕ) → j < 32 → bit j (twice / 2 ^ b) ≡ bit ((b + j) % 32) m
  turned j hj =
      bit-shift b j twice
      ∙ ⊎_elim
      (λ (p : 32 ≤ b + j).
      ap (λ (i : ℕ). bit i twice) (omega arith) ∙ bit_high 32 (b + j - 32) m m small ∙ ap (λ (i : ℕ). bit i m) (omega arith))
      (λ (p : b + j < 32). bit-low 32 (b + j) m m p ∙ ap (λ (i : ℕ). bit i m) (omega arith))
      (le-or-lt 32 (b + j))

module _ (m b : ℕ) (pos : 0 < m) (small : m < 2 ^ 32) (hb : b < 32) where
  abbrev rest : ℕ
  rest = twice m b small hb / 2 ^ b

  rest-pos : 0 < rest
  rest-pos = (le-div_iff_mul-le {x = 1} (pow_pos b)).1 (omega (arith, pow_mono {i = b} {j = 32} (omega arith)))

  rest-fits : rest < 2 ^ 64
  rest-fits = omega (arith, shr_le (twice m b small hb) b)

  low : (bit (count_trailing_zeros 64 rest) rest ≡ 1) × ((i : ℕ) → i < count_trailing_zeros 64 rest → bit i rest ≡ 0)
  low = low-set 64 rest rest-pos rest-fits

  -- some bit of the word is set, so one of the next 32 is
  near : count_trailing_zeros 64 rest < 32
  near =
      ⊎_elim
      (λ (far : 32 ≤ count_trailing_zeros 64 rest).
      let none : (c : ℕ) → bit c m ≡ bit c 0 = λ c.
      ⊎_elim
      (λ (p : 32 ≤ c). bit-above c m (omega (arith, pow_mono {i = 32} {j = c} p)) ∙ sym (bit-above c 0 (pow_pos c)))
      (λ (p : c < 32).
      ap (λ (i : ℕ). bit i m) (omega arith) ∙ sym (turned m b small hb ((c + 32 - b) % 32) (omega arith)) ∙ low.1 ((c + 32 - b) % 32) (omega arith) ∙ sym (bit-above c 0 (pow_pos c)))
      (le-or-lt 32 c) in
      absurd (omega (arith, bits-same 32 m 0 small (omega arith) none)))
      (λ (n : count_trailing_zeros 64 rest < 32). n)
      (le-or-lt 32 (count_trailing_zeros 64 rest))

  pub nearest-is : Nearest m b (count_trailing_zeros 64 rest)
  nearest-is =
      record {
        near = near;
        set = sym (turned m b small hb (count_trailing_zeros 64 rest) near) ∙ low.0;
        none_before = λ j h. sym (turned m b small hb j (omega (arith, near))) ∙ low.1 j h;
      }
