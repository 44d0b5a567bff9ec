-- Laws of words in bytes: the same word, another word, the length and the bytes past a run of words. Assumes nothing.
use mathlib.Core.Path.{◌≡◌, refl, ap, ◌∙◌}
use mathlib.Core.Logic.{⊎_elim}
use Prim.Native.Nat.{ℕ, zero, suc, ◌+◌, ◌*◌, ◌/◌, ◌%◌, ◌^◌, ◌≤◌, ◌<◌}
use mathlib.Core.List.{List}
use native.Mathlib.Nat.{pow-suc, div-div-eq-div-mul}
use native.Mathlib.Numerals.{towards_suc}
use native.Mathlib.Omega.{arith}
use lib.ListN.{length, drop, get_or, set}
use lib.Seq.{sets, length-sets}
use Rattle.words.specs.Runs.{elements_from}
use Rattle.words.specs.Words.{le_val, le_bytes, word_at, put_word}
use Rattle.words.proofs.Runs.{le-or-lt, drop-sets-lt, reads-below, reads-above, reads_same}

pub length-le_bytes : (k v : ℕ) → length (le_bytes k v) ≡ k
unfolding le_bytes
length-le_bytes zero v = refl
length-le_bytes (suc k) v = ap suc (length-le_bytes k (v / 256))

pub le_val-le_bytes : (k v : ℕ) → v < 256 ^ k → le_val (le_bytes k v) ≡ v
unfolding le_val le_bytes
le_val-le_bytes zero v h = omega arith
le_val-le_bytes (suc k) v h = rw (le_val-le_bytes k (v / 256) (omega (arith, rw pow-suc at h))) (omega arith)

-- what four reads give, and two runs of four
pub half-sum : (t : List ℕ) (a : ℕ) → get_or t a 0 + get_or t (a + 1) 0 * 256 + (get_or t (a + 2) 0 + get_or t (a + 3) 0 * 256) * 65536 ≡ le_val (elements_from t a 4)
unfolding le_val
half-sum t a = simp towards_suc (omega arith)

pub word_sum : (t : List ℕ) (a : ℕ) → le_val (elements_from t a 4) + le_val (elements_from t (a + 4) 4) * 4294967296 ≡ le_val (elements_from t a 8)
unfolding le_val
word_sum t a = simp towards_suc (omega arith)

-- what eight stores leave
pub word-stores : (t : List ℕ) (a v : ℕ) → set (set (set (set (set (set (set (set t a (v % 256)) (a + 1) (v / 256 % 256)) (a + 2) (v / 65536 % 256)) (a + 3) (v / 16777216 % 256)) (a + 4) (v / 4294967296 % 256)) (a + 5) (v / 1099511627776 % 256)) (a + 6) (v / 281474976710656 % 256)) (a + 7) (v / 72057594037927936 % 256) ≡ sets t a (le_bytes 8 v)
unfolding le_bytes
word-stores t a v = simp (towards_suc, div-div-eq-div-mul)

pub length-put_word : (t : List ℕ) (i v : ℕ) → length (put_word t i v) ≡ length t
unfolding put_word
length-put_word t i v = length-sets t (i * 8) (le_bytes 8 v)

pub word_at-put_word-same : (t : List ℕ) (i v : ℕ) → i * 8 + 8 ≤ length t → v < 2 ^ 64 → word_at (put_word t i v) i ≡ v
unfolding word_at put_word le_bytes
word_at-put_word-same t i v fit h = ap le_val (reads_same (le_bytes 8 v) t (i * 8) fit) ∙ le_val-le_bytes 8 v h

pub word_at-put_word-other : (t : List ℕ) (i j v : ℕ) → (j ≡ i → ⊥) → word_at (put_word t i v) j ≡ word_at t j
unfolding word_at put_word le_bytes
word_at-put_word-other t i j v ne =
    ap le_val
    (⊎_elim
    (λ (h : i ≤ j). reads-above (le_bytes 8 v) t (i * 8) (j * 8) 8 (omega arith))
    (λ (h : j < i). reads-below (le_bytes 8 v) t (i * 8) (j * 8) 8 (omega arith))
    (le-or-lt i j))

pub drop-put_word : (n : ℕ) (t : List ℕ) (i v : ℕ) → i < n → drop (n * 8) (put_word t i v) ≡ drop (n * 8) t
unfolding put_word le_bytes
drop-put_word n t i v lt = drop-sets-lt (n * 8) (le_bytes 8 v) t (i * 8) (omega arith)
