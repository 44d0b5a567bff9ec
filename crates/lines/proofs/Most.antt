-- No answer line is longer than 64 bytes.
--
--   record-most, one-most, no-most, line-most   each kind of line
--   record-fits, record-line                    a record's line that is written in two parts: the second has room, and both are the line
--
-- Assumes nothing.
use Prim.Native.Nat.{ℕ, ◌+◌, ◌^◌, ◌≤◌, ◌<◌}
use native.Mathlib.Omega.{arith}
use mathlib.Core.Path.{◌≡◌, refl, ap, ◌∙◌}
use mathlib.Core.Bool.{Bool, true, false}
use mathlib.Core.List.{List, [], ◌∷◌, ◌++◌}
use mathlib.Core.Option.{Option, none, some}
use lib.ListN.{length, length-append}
use lib.Seq.{sets, length-sets}
use Rattle.text.specs.Decimal.{decimal, signed}
use Rattle.text.proofs.Widths.{decimal-le}
use Rattle.text.proofs.Signed.{signed-most}
use Rattle.rules.specs.Calls.{Reply, accepted, taken, seen, words, lagged, restarted, refused}
use Rattle.lines.proofs.Writing.{line-long, wrote-both}
use Rattle.lines.specs.Line.{spaced, text_line, put_ok, take_word, look_word, sets_word, no_word, record_line, no_line, line_of, Short, Wrote, Line}

-- the numbers that the types allow, by their bits
byte : (n : ℕ) → n < 2 ^ 8 → length (decimal n) ≤ 3
byte n h = decimal-le n 3 (omega arith) (omega arith)

half : (n : ℕ) → n < 2 ^ 32 → length (decimal n) ≤ 10
half n h = decimal-le n 10 (omega arith) (omega arith)

full : (n : ℕ) → n < 2 ^ 64 → length (decimal n) ≤ 20
full n h = decimal-le n 20 (omega arith) (omega arith)

more : (n : ℕ) (ns : List ℕ) (k : ℕ) → length (decimal n) ≤ k → length (spaced (n ∷ ns)) ≤ 1 + k + length (spaced ns)
unfolding spaced
more n ns k h = omega (arith, length-append (32 ∷ decimal n) (spaced ns))

ended : (word ns : List ℕ) → length (text_line word ns) ≡ length word + length (spaced ns) + 1
ended word ns = omega (arith, length-append (spaced ns) (10 ∷ []), line-long word ns)

pub record-most : (word : List ℕ) (shared : Bool) (l t m n : ℕ) → length word ≤ 10 → Short (taken l t m n) → length (record_line word shared l t m n) ≤ 64
unfolding spaced
record-most word false l t m n e h =
    omega (arith, ended word (l ∷ m ∷ n ∷ []), more l (m ∷ n ∷ []) 3 (byte l h.0), more m (n ∷ []) 10 (half m h.2), more n [] 20 (full n h.3))
record-most word true l t m n e h =
    omega (
      arith,
      ended word (l ∷ m ∷ n ∷ t ∷ []),
      more l (m ∷ n ∷ t ∷ []) 3 (byte l h.0),
      more m (n ∷ t ∷ []) 10 (half m h.2),
      more n (t ∷ []) 20 (full n h.3),
      more t [] 3 (byte t h.1),
    )

pub one-most : (word : List ℕ) (n : ℕ) → length word ≤ 10 → n < 2 ^ 64 → length (text_line word (n ∷ [])) ≤ 64
unfolding spaced
one-most word n e h = omega (arith, ended word (n ∷ []), more n [] 20 (full n h))

pub no-most : (n : ℕ) (p : Option ℕ) → Short (refused n p) → length (no_line n p) ≤ 64
unfolding spaced
no-most n none h = one-most no_word n (omega arith) (omega (arith, h.0))
no-most n (some p) h =
    omega (arith, ended no_word (n ∷ p ∷ []), more n (p ∷ []) 3 (byte n h.0), more p [] 20 (full p h.1))

-- the line of a reply
pub line-most : (shared : Bool) (r : Reply) → Short r → length (line_of shared r) ≤ 64
unfolding spaced
line-most shared (accepted n) h = one-most put_ok n (omega arith) h
line-most shared (taken l t m n) h = record-most take_word shared l t m n (omega arith) h
line-most shared (seen l t m n) h = record-most look_word shared l t m n (omega arith) h
line-most shared (words er ir eb ib) h =
    omega (
      arith,
      ended sets_word (er ∷ ir ∷ eb ∷ ib ∷ []),
      more er (ir ∷ eb ∷ ib ∷ []) 10 (half er h.0),
      more ir (eb ∷ ib ∷ []) 10 (half ir h.1),
      more eb (ib ∷ []) 10 (half eb h.2),
      more ib [] 10 (half ib h.3),
    )
line-most shared (lagged z) h = omega (arith, length-append (signed z) (10 ∷ []), signed-most z h)
line-most shared restarted h = omega arith
line-most shared (refused n p) h = no-most n p h

-- ---- a record's line in two parts

record-split : (word : List ℕ) (shared : Bool) (l t m n : ℕ) → record_line word shared l t m n ≡ word ++ record_line [] shared l t m n
record-split word true l t m n = refl
record-split word false l t m n = refl

module _ (word : List ℕ) (short : length word ≤ 10) (shared : Bool) (l t m n : ℕ) (h : Short (taken l t m n)) (a b : List ℕ) (at p : ℕ)
    (u : (b ≡ sets a at word) × (p ≡ at + length word)) where
  pub record-fits : at + 64 ≤ length a → p + length (record_line [] shared l t m n) ≤ length b
  record-fits r =
      let e : length b ≡ length a = ap length u.0 ∙ length-sets a at word in
      omega (arith, u.1, record-most word shared l t m n short h, ap length (record-split word shared l t m n), length-append word (record_line [] shared l t m n))

  pub record-line : {d : List ℕ} {q : ℕ} → Wrote b d p (record_line [] shared l t m n) q → Line a d at (record_line word shared l t m n) q
  record-line v = record {
    wrote = rw (record-split word shared l t m n) (wrote-both word (record_line [] shared l t m n) (record { is = u.0; past = u.1 }) v);
    most = record-most word shared l t m n short h;
  }
