-- The answer lines of a session (R10.12), as ASCII bytes.
--
--   spaced      numbers, each after a space
--   text_line    a word, numbers, and the line feed
--   record_line  a record's line: of a shared lane it ends with the train
--   line_of      the line of a reply; the flag says whether the lane of a record is shared
--   lanes_line   `lanes N`, once the setup is read
--   end_line     `end N`, the last line
--   Words32     the four words have 32 bits, as those of a good state do
--   Short       what a reply's line needs to be within 64 bytes: the types' own bounds, and Words32
--   Wrote       what a function leaves that writes some text at a place
--   Line        R10.14: the same of a line, which has at most 64 bytes
--
-- Assumes nothing.
use Rattle.std.specs.Prelude as core
use Rattle.std.specs.Prelude.{ℕ, ◌+◌, ◌^◌, ◌≤◌, ◌<◌, ◌≡◌, Bool, true, false, List, [], ◌∷◌, ◌++◌, ℤ, length, Some, None}
use Rattle.std.proofs.Math.Option.{Option, none, some}
use Rattle.std.proofs.lemmas.List.Edits.{sets}
use Rattle.std.specs.Int.{w64}
use Rattle.std.proofs.Common.{SFits}
use Rattle.text.specs.Decimal.{decimal, signed}
use Rattle.rules.specs.Calls.{Reply, accepted, taken, seen, words, lagged, restarted, refused}

-- ' ' is 32
unfoldable pub spaced : List ℕ → List ℕ
spaced [] = []
spaced (n ∷ ns) = (32 ∷ decimal n) ++ spaced ns

-- the line feed is 10
abbrev pub text_line : List ℕ → List ℕ → List ℕ
text_line word ns = word ++ (spaced ns ++ (10 ∷ []))

-- ---- the words

-- "put ok"
abbrev pub put_ok : List ℕ
put_ok = 112 ∷ 117 ∷ 116 ∷ 32 ∷ 111 ∷ 107 ∷ []

-- "take"
abbrev pub take_word : List ℕ
take_word = 116 ∷ 97 ∷ 107 ∷ 101 ∷ []

-- "look"
abbrev pub look_word : List ℕ
look_word = 108 ∷ 111 ∷ 111 ∷ 107 ∷ []

-- "sets"
abbrev pub sets_word : List ℕ
sets_word = 115 ∷ 101 ∷ 116 ∷ 115 ∷ []

-- "lag "
abbrev pub lag_word : List ℕ
lag_word = 108 ∷ 97 ∷ 103 ∷ 32 ∷ []

-- "restart ok"
abbrev pub restart_ok : List ℕ
restart_ok = 114 ∷ 101 ∷ 115 ∷ 116 ∷ 97 ∷ 114 ∷ 116 ∷ 32 ∷ 111 ∷ 107 ∷ []

-- "no"
abbrev pub no_word : List ℕ
no_word = 110 ∷ 111 ∷ []

-- "lanes"
abbrev pub lanes_word : List ℕ
lanes_word = 108 ∷ 97 ∷ 110 ∷ 101 ∷ 115 ∷ []

-- "end"
abbrev pub end_word : List ℕ
end_word = 101 ∷ 110 ∷ 100 ∷ []

-- ---- the lines

-- R10.12: `no NUMBER`, `no NUMBER PLACE`
abbrev pub no_line : ℕ → Option ℕ → List ℕ
no_line n none = text_line no_word (n ∷ [])
no_line n (some p) = text_line no_word (n ∷ p ∷ [])

-- R10.12: `lag N`, the one line with a sign
abbrev pub lag_line : ℤ → List ℕ
lag_line z = lag_word ++ (signed z ++ (10 ∷ []))

-- a word and a record: lane, mark, length; and the train where the lane is shared
abbrev pub record_line : List ℕ → Bool → ℕ → ℕ → ℕ → ℕ → List ℕ
record_line word false l t m n = text_line word (l ∷ m ∷ n ∷ [])
record_line word true l t m n = text_line word (l ∷ m ∷ n ∷ t ∷ [])

-- R10.12: a line for each case of a reply
abbrev pub line_of : Bool → Reply → List ℕ
line_of shared (accepted n) = text_line put_ok (n ∷ [])
line_of shared (taken l t m n) = record_line take_word shared l t m n
line_of shared (seen l t m n) = record_line look_word shared l t m n
line_of shared (words er ir eb ib) = text_line sets_word (er ∷ ir ∷ eb ∷ ib ∷ [])
line_of shared (lagged z) = lag_line z
line_of shared restarted = text_line restart_ok []
line_of shared (refused n p) = no_line n p

-- R10.12: `lanes N`
abbrev pub lanes_line : ℕ → List ℕ
lanes_line n = text_line lanes_word (n ∷ [])

-- R10.12: `end N`
abbrev pub end_line : ℕ → List ℕ
end_line n = text_line end_word (n ∷ [])

-- ---- their length

abbrev pub ShortPlace : Option ℕ → Type 0
ShortPlace none = Unit
ShortPlace (some p) = p < 2 ^ 64

abbrev pub Words32 : Reply → Type 0
Words32 (accepted n) = Unit
Words32 (taken l t m n) = Unit
Words32 (seen l t m n) = Unit
Words32 (words er ir eb ib) = (er < 2 ^ 32) × (ir < 2 ^ 32) × (eb < 2 ^ 32) × (ib < 2 ^ 32)
Words32 (lagged z) = Unit
Words32 restarted = Unit
Words32 (refused n p) = Unit

abbrev pub Short : Reply → Type 0
Short (accepted n) = n < 2 ^ 64
Short (taken l t m n) = (l < 2 ^ 8) × (t < 2 ^ 8) × (m < 2 ^ 32) × (n < 2 ^ 64)
Short (seen l t m n) = (l < 2 ^ 8) × (t < 2 ^ 8) × (m < 2 ^ 32) × (n < 2 ^ 64)
Short (words er ir eb ib) = Words32 (words er ir eb ib)
Short (lagged z) = SFits w64 z
Short restarted = Unit
Short (refused n p) = (n < 2 ^ 8) × ShortPlace p

-- ---- the code's own

-- a place, where there is one
abbrev pub place_is : core.Option ℕ → Option ℕ
place_is (Some p) = some p
place_is None = none

-- what is written: the text at its place, and the place behind it
pub record Wrote (before after : List ℕ) (at : ℕ) (text : List ℕ) (next : ℕ) : Type 0 where
  pub is : after ≡ sets before at text
  pub past : next ≡ at + length text

pub record Line (before after : List ℕ) (at : ℕ) (text : List ℕ) (next : ℕ) : Type 0 where
  pub wrote : Wrote before after at text next
  pub most : length text ≤ 64
