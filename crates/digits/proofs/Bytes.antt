-- A run of bytes stored inside a word changes one of the word's digits, over the width and the place. Assumes nothing.
use mathlib.Core.Path.{◌≡◌, refl, sym, ap, ◌∙◌}
use mathlib.Core.Logic.{⊎_elim}
use Prim.Native.Nat.{ℕ, zero, suc, ◌+◌, ◌-◌, ◌*◌, ◌/◌, ◌%◌, ◌^◌, ◌≤◌, ◌<◌}
use mathlib.Core.List.{List, [], ◌∷◌, ◌++◌}
use native.Mathlib.Nat.{pow-suc, mul-suc, zero-add, add-zero, add-suc, suc-add, mul_assoc}
use native.Mathlib.Omega.{arith}
use lib.ListN.{length, get_or}
use lib.Pow.{pow-add, high, low, shr-shr}
use lib.Seq.{sets, length-sets}
use Rattle.words.specs.Runs.{elements_from}
use Rattle.words.specs.Words.{le_val, le_bytes, word_at, put_word}
use Rattle.words.proofs.Runs.{length-reads, le-or-lt, get_d-sets-below, get_d-sets-above, reads-below, reads-above, reads_same, drop-sets-lt}
use Rattle.words.proofs.Laws.{le_val-le_bytes, word_at-put_word-same, word_at-put_word-other, length-put_word, drop-put_word, length-le_bytes}
use Rattle.digits.specs.Digits.{digit, put_digit, WordStored}

-- ---- runs, cut in two

reads-append : (l : List ℕ) (a m n : ℕ) → elements_from l a (m + n) ≡ elements_from l a m ++ elements_from l (a + m) n
reads-append l a zero n = rw (zero-add n, add-zero a)
reads-append l a (suc m) n = rw (suc-add m n, reads-append l (suc a) m n, suc-add a m, add-suc a m)

-- 256 ^ n, as a power of 2
abbrev full : ℕ → ℕ
full n = 2 ^ (8 * n)

full-suc : (n : ℕ) → full (suc n) ≡ full n * 256
full-suc n = ap (λ (k : ℕ). 2 ^ k) (mul-suc 8 n) ∙ ap (λ (k : ℕ). 2 ^ k) (omega arith) ∙ pow-add 2 (8 * n) 8

full-bytes : (n : ℕ) → full n ≡ 256 ^ n
full-bytes zero = refl
full-bytes (suc n) = full-suc n ∙ ap (λ (x : ℕ). x * 256) (full-bytes n) ∙ sym (pow-suc 256 n)

le_val-append : (xs ys : List ℕ) → le_val (xs ++ ys) ≡ le_val ys * full (length xs) + le_val xs
unfolding le_val
le_val-append [] ys = omega arith
le_val-append (x ∷ xs) ys = rw (le_val-append xs ys, full-suc (length xs)) (omega (arith, mul_assoc (le_val ys) (full (length xs)) 256))

le_val-small : (t : List ℕ) (a n : ℕ) → ((i : ℕ) → get_or t i 0 < 256) → le_val (elements_from t a n) < full n
unfolding le_val
le_val-small t a zero small = omega arith
le_val-small t a (suc n) small = omega (arith, small a, full-suc n, le_val-small t (suc a) n small)

-- ---- m bytes stored at the place j of word i

module _ (t : List ℕ) (small : (n : ℕ) → get_or t n 0 < 256) (i j m v : ℕ) (fits : m * j + m ≤ 8) (within : i * 8 + 8 ≤ length t) (narrow : v < full m) where
  abbrev at : ℕ
  at = i * 8 + m * j

  abbrev left : ℕ
  left = 8 - (m * j + m)

  abbrev after : List ℕ
  after = sets t at (le_bytes m v)

  -- a word by what stands below the digit, the digit, and what stands above it
  cut : (l : List ℕ) → word_at l i ≡ (le_val (elements_from l (at + m) left) * full m + le_val (elements_from l at m)) * full (m * j) + le_val (elements_from l (i * 8) (m * j))
  unfolding word_at
  cut l =
      let whole : elements_from l (i * 8) 8 ≡ elements_from l (i * 8) (m * j) ++ (elements_from l at m ++ elements_from l (at + m) left) =
      ap (elements_from l (i * 8)) (count) ∙ reads-append l (i * 8) (m * j) (m + left) ∙ ap (λ (r : List ℕ). elements_from l (i * 8) (m * j) ++ r) (reads-append l at m left) in
      ap le_val whole
      ∙ le_val-append (elements_from l (i * 8) (m * j)) (elements_from l at m ++ elements_from l (at + m) left)
      ∙ rw (length-reads l (i * 8) (m * j), le_val-append (elements_from l at m) (elements_from l (at + m) left), length-reads l at m)
    where
      count : 8 ≡ m * j + (m + left)
      count = omega arith

  upper-stays : elements_from after (at + m) left ≡ elements_from t (at + m) left
  upper-stays = reads-above (le_bytes m v) t at (at + m) left (omega (arith, length-le_bytes m v))

  lower-stays : elements_from after (i * 8) (m * j) ≡ elements_from t (i * 8) (m * j)
  lower-stays = reads-below (le_bytes m v) t at (i * 8) (m * j) (omega arith)

  stored : elements_from after at m ≡ le_bytes m v
  stored = ap (elements_from after at) (sym (length-le_bytes m v)) ∙ reads_same (le_bytes m v) t at (omega (arith, length-le_bytes m v))

  value : le_val (elements_from after at m) ≡ v
  value = ap le_val stored ∙ le_val-le_bytes m v (rw full-bytes at narrow)

  below : word_at t i % full (m * j) ≡ le_val (elements_from t (i * 8) (m * j))
  below = ap (λ (x : ℕ). x % full (m * j)) (cut t) ∙ low (le_val (elements_from t (at + m) left) * full m + le_val (elements_from t at m)) (8 * (m * j)) (le_val-small t (i * 8) (m * j) small)

  above : word_at t i / 2 ^ (8 * (m * j) + 8 * m) ≡ le_val (elements_from t (at + m) left)
  above =
      sym (shr-shr (word_at t i) (8 * (m * j)) (8 * m))
      ∙ ap (λ (x : ℕ). x / full (m * j) / full m) (cut t)
      ∙ ap (λ (x : ℕ). x / full m) (high (le_val (elements_from t (at + m) left) * full m + le_val (elements_from t at m)) (8 * (m * j)) (le_val-small t (i * 8) (m * j) small))
      ∙ high (le_val (elements_from t (at + m) left)) (8 * m) (le_val-small t at m small)

  -- m bytes read there are the digit
  pub digit-read : le_val (elements_from t at m) ≡ digit (8 * m) j (word_at t i)
  unfolding digit
  digit-read =
      sym
      (rw (mul_assoc 8 m j)
      (ap (λ (x : ℕ). x / full (m * j) % full m) (cut t)
      ∙ ap (λ (x : ℕ). x % full m) (high (le_val (elements_from t (at + m) left) * full m + le_val (elements_from t at m)) (8 * (m * j)) (le_val-small t (i * 8) (m * j) small))
      ∙ low (le_val (elements_from t (at + m) left)) (8 * m) (le_val-small t at m small)))

  changed : word_at after i ≡ put_digit (8 * m) j v (word_at t i)
  unfolding put_digit
  changed = cut after ∙ rw (upper-stays, value, lower-stays, mul_assoc 8 m j, above, below)

  pub digit-stored : WordStored t after i (put_digit (8 * m) j v (word_at t i))
  unfolding word_at
  digit-stored =
      record {
        same = changed;
        others = others;
        bytes = bytes;
        length = length-sets t at (le_bytes m v);
        rest = λ n h. drop-sets-lt (n * 8) (le_bytes m v) t at (omega (arith, length-le_bytes m v));
      }
    where
      others : (k : ℕ) → (k ≡ i → ⊥) → word_at after k ≡ word_at t k
      others k ne =
          ap le_val
          (⊎_elim
          (λ (h : i ≤ k). reads-above (le_bytes m v) t at (k * 8) 8 (omega (arith, length-le_bytes m v)))
          (λ (h : k < i). reads-below (le_bytes m v) t at (k * 8) 8 (omega arith))
          (le-or-lt i k))

      bytes : (a : ℕ) → (a / 8 ≡ i → ⊥) → get_or after a 0 ≡ get_or t a 0
      bytes a ne =
          ⊎_elim
          (λ (h : at + m ≤ a). get_d-sets-above (le_bytes m v) t at a 0 (omega (arith, length-le_bytes m v)))
          (λ (h : a < at + m).
          ⊎_elim (λ (q : at ≤ a). absurd (ne (omega arith))) (λ (q : a < at). get_d-sets-below (le_bytes m v) t at a 0 q) (le-or-lt at a))
          (le-or-lt (at + m) a)

-- ---- a whole word

pub word-stored : (t : List ℕ) (i v : ℕ) → i * 8 + 8 ≤ length t → v < 2 ^ 64 → WordStored t (put_word t i v) i v
unfolding put_word
word-stored t i v within narrow =
    record {
      same = word_at-put_word-same t i v within narrow;
      others = λ j ne. word_at-put_word-other t i j v ne;
      bytes = bytes;
      length = length-put_word t i v;
      rest = λ n h. drop-put_word n t i v h;
    }
  where
    bytes : (a : ℕ) → (a / 8 ≡ i → ⊥) → get_or (sets t (i * 8) (le_bytes 8 v)) a 0 ≡ get_or t a 0
    bytes a ne =
        ⊎_elim
        (λ (h : i * 8 + 8 ≤ a). get_d-sets-above (le_bytes 8 v) t (i * 8) a 0 (omega (arith, length-le_bytes 8 v)))
        (λ (h : a < i * 8 + 8).
        ⊎_elim (λ (q : i * 8 ≤ a). absurd (ne (omega arith))) (λ (q : a < i * 8). get_d-sets-below (le_bytes 8 v) t (i * 8) a 0 q) (le-or-lt (i * 8) a))
        (le-or-lt (i * 8 + 8) a)
