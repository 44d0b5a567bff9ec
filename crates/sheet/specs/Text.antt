-- A sheet as text (R12.1).
--
--   line_bytes     a line of three numbers
--   Entry         the three numbers of a line; Short: none has a sixth digit
--   lines_bytes    the bytes of lines, one after another
--   Formed        a sheet of the form
--   BeginsSheet   bytes with which a sheet of the form begins
--   sheet_bytes    R12.7: the sheet of a plan: a line for each of its lanes, by number
--
-- Assumes nothing.
use Rattle.std.specs.Prelude.{ℕ, suc, ◌<◌, ◌≡◌, List, [], ◌∷◌, ◌++◌, ltb, if◌then◌else◌}
use Rattle.rules.specs.State.{Setting}
use Rattle.text.specs.Decimal.{decimal}

-- The numbers in decimal, which begin with no 0 but for 0 itself; one space (32) between two of them, and a line feed (10).
abbrev pub line_bytes : ℕ → ℕ → ℕ → List ℕ
line_bytes a b c = decimal a ++ 32 ∷ (decimal b ++ 32 ∷ (decimal c ++ 10 ∷ []))

pub record Entry : Type 0 where
  pub first : ℕ
  pub second : ℕ
  pub third : ℕ

abbrev pub entry_bytes : Entry → List ℕ
entry_bytes e = line_bytes e.first e.second e.third

-- at most five digits
pub record ShortNumbers (e : Entry) : Type 0 where
  pub first : e.first < 100000
  pub second : e.second < 100000
  pub third : e.third < 100000

unfoldable pub lines_bytes : List Entry → List ℕ
lines_bytes [] = []
lines_bytes (e ∷ es) = entry_bytes e ++ lines_bytes es

unfoldable pub AllShort : List Entry → Type 0
AllShort [] = Unit
AllShort (e ∷ es) = ShortNumbers e × AllShort es

-- A sheet of the form: one line or more.
pub record Formed (s : List ℕ) : Type 0 where
  pub head : Entry
  pub rest : List Entry
  pub short : AllShort (head ∷ rest)
  pub bytes : lines_bytes (head ∷ rest) ≡ s

-- Some bytes more make a sheet of the form.
pub record BeginsSheet (t : List ℕ) : Type 0 where
  pub rest : List ℕ
  pub sheet : Formed (t ++ rest)

-- The line of a lane that is there.
abbrev pub lane_line : ℕ → Setting → List ℕ
lane_line k g = if ltb 0 g.weight then line_bytes k g.weight g.longest else []

unfoldable pub sheet_from : ℕ → List Setting → List ℕ
sheet_from k [] = []
sheet_from k (g ∷ gs) = lane_line k g ++ sheet_from (suc k) gs

unfoldable pub sheet_bytes : List Setting → List ℕ
sheet_bytes gs = sheet_from 0 gs
