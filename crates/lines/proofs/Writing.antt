-- Laws of text that is written in parts.
--
--   Left         what is yet to be written of a text
--   left-whole   at first all of it
--   left-part    a part less, once that is written
--   left-none    nothing: the text is written
--   wrote-both   two parts are one
--   wrote-byte   a byte
--   line-long    a line is its word and the rest
--   left_word    what is left of a line behind its word
--   left-number  a number less, and left-feed the line feed at last
--   tail-end     what is left behind the last number
--   tail_more    what is left of a line's numbers, taken apart
--
-- Assumes nothing.
use Prim.Native.Nat.{ℕ, suc, ◌+◌, ◌≤◌, ◌<◌}
use native.Mathlib.Nat.{add-zero}
use native.Mathlib.Numerals.{add-one}
use native.Mathlib.Omega.{arith}
use mathlib.Core.Path.{◌≡◌, refl, sym, ap, subst, ◌∙◌}
use mathlib.Core.List.{List, [], ◌∷◌, ◌++◌, append_assoc}
use lib.ListN.{length, set, drop, get_or, length-append}
use lib.Seq.{sets, length-sets, drop-cons, drop-length}
use Rattle.text.specs.Decimal.{decimal}
use Rattle.text.proofs.Stores.{sets-append}
use Rattle.lines.specs.Line.{spaced, text_line, Wrote}

-- `before` with the whole text at a place is `now` with the rest at p
pub record Left (before now : List ℕ) (at : ℕ) (text : List ℕ) (p : ℕ) (rest : List ℕ) : Type 0 where
  pub is : sets now p rest ≡ sets before at text
  pub past : p + length rest ≡ at + length text
  pub same : length now ≡ length before

pub left-whole : (a : List ℕ) (at : ℕ) (text : List ℕ) → Left a a at text at text
left-whole a at text = record { is = refl; past = refl; same = refl }

module _ {before now : List ℕ} {at : ℕ} {text : List ℕ} {p : ℕ} where
  pub left-part : (xs rest : List ℕ) {next : List ℕ} {q : ℕ} → Left before now at text p (xs ++ rest) → Wrote now next p xs q → Left before next at text q rest
  left-part xs rest l w = record {
    is = rw (w.is, w.past, sets-append now p xs rest) l.is;
    past = omega (arith, w.past, l.past, length-append xs rest);
    same = ap length w.is ∙ length-sets now p xs ∙ l.same;
  }

  pub left-none : Left before now at text p [] → Wrote before now at text p
  left-none l = record { is = l.is; past = sym (add-zero p) ∙ l.past }

  -- what is left fits where the text does
  pub left-fits : (xs rest : List ℕ) → Left before now at text p (xs ++ rest) → at + length text ≤ length before → p + length xs ≤ length now
  left-fits xs rest l h = omega (arith, l.past, l.same, length-append xs rest)

-- ---- a line's numbers

-- one part behind another
pub wrote-both : {a b d : List ℕ} {at p q : ℕ} (xs ys : List ℕ) → Wrote a b at xs p → Wrote b d p ys q → Wrote a d at (xs ++ ys) q
wrote-both {a} {at = at} xs ys u v = record {
  is = v.is ∙ rw (u.is, u.past, sets-append a at xs ys);
  past = omega (arith, u.past, v.past, length-append xs ys);
}

-- a byte
pub wrote-byte : (a : List ℕ) (p x : ℕ) → Wrote a (set a p x) p (x ∷ []) (p + 1)
wrote-byte a p x = record { is = refl; past = refl }

-- a line's first number and the rest
line-more : (n : ℕ) (ns : List ℕ) → text_line [] (n ∷ ns) ≡ (32 ∷ decimal n) ++ text_line [] ns
unfolding spaced
line-more n ns = append_assoc (32 ∷ decimal n) (spaced ns) (10 ∷ [])

line-end : text_line [] [] ≡ 10 ∷ []
unfolding spaced
line-end = refl

pub left_word : {a b : List ℕ} {at p : ℕ} (word ns : List ℕ) → Wrote a b at word p → Left a b at (text_line word ns) p (text_line [] ns)
left_word word ns w = left-part word (text_line [] ns) (left-whole _ _ _) w

module _ {before now : List ℕ} {at : ℕ} {text : List ℕ} {p : ℕ} where
  number-next : (n : ℕ) (ns : List ℕ) → Left before now at text p (text_line [] (n ∷ ns)) → Left before now at text p ((32 ∷ decimal n) ++ text_line [] ns)
  number-next n ns l = subst (λ (r : List ℕ). Left before now at text p r) (line-more n ns) l

  pub left-number : (n : ℕ) (ns : List ℕ) {next : List ℕ} {q : ℕ} → Left before now at text p (text_line [] (n ∷ ns)) → Wrote now next p (32 ∷ decimal n) q → Left before next at text q (text_line [] ns)
  left-number n ns l w = left-part (32 ∷ decimal n) (text_line [] ns) (number-next n ns l) w

  pub number_fits : (n : ℕ) (ns : List ℕ) → Left before now at text p (text_line [] (n ∷ ns)) → at + length text ≤ length before → p + length (32 ∷ decimal n) ≤ length now
  number_fits n ns l h = left-fits (32 ∷ decimal n) (text_line [] ns) (number-next n ns l) h

  feed-next : Left before now at text p (text_line [] []) → Left before now at text p ((10 ∷ []) ++ [])
  feed-next l = subst (λ (r : List ℕ). Left before now at text p r) line-end l

  pub left-feed : Left before now at text p (text_line [] []) → Wrote before (set now p 10) at text (p + 1)
  left-feed l = left-none (left-part (10 ∷ []) [] (feed-next l) (wrote-byte _ _ _))

  pub feed-fits : Left before now at text p (text_line [] []) → at + length text ≤ length before → p < length now
  feed-fits l h = omega (arith, left-fits (10 ∷ []) [] (feed-next l) h)

-- what is left of a line from its i-th number on
abbrev pub tail : List ℕ → ℕ → List ℕ
tail ns i = spaced (drop i ns) ++ (10 ∷ [])

pub line-long : (word ns : List ℕ) → length (text_line word ns) ≡ length word + length (tail ns 0)
line-long word ns = length-append word (tail ns 0)

pub tail-end : (ns : List ℕ) (i : ℕ) → i ≡ length ns → tail ns i ≡ 10 ∷ []
unfolding spaced
tail-end ns i e = rw (e, drop-length ns)

pub tail_more : (ns : List ℕ) (i : ℕ) → i < length ns → tail ns i ≡ (32 ∷ decimal (get_or ns i 0)) ++ tail ns (i + 1)
unfolding spaced
tail_more ns i h = rw (add-one, drop-cons ns i 0) (append_assoc (32 ∷ decimal (get_or ns i 0)) (spaced (drop (suc i) ns)) (10 ∷ []))
