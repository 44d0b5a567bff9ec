-- The form of a sheet (R12.1), as a machine over bytes: lines of three decimal numbers (lane, weight, longest) with one space between them and a line feed
-- behind each line. A number has one to five digits, and no 0 before another digit.
--
--   is_digit    a byte that is a decimal digit
--   extends    a digit may follow
--   stop       the byte that ends a number: a space, or the line feed after the third
--   new_line    a line of which nothing is read
--   line_step   what the byte at a place does to a line: the line goes on, it is whole, or the form can't have the byte there
--
-- specs/Text.antt says what the sheets of the form are without the machine, and specs/Promises.antt that the two agree.
--
-- Assumes nothing.
use Rattle.std.specs.Prelude.{ℕ, ◌+◌, ◌-◌, ◌*◌, Bool, true, false, not, ◌&&◌, ◌||◌, leb, ltb, eqb, if◌then◌else◌}
use Rattle.sheet.specs.declared.form.Part.{Part}
use Rattle.sheet.specs.declared.form.Part.TheVariants.{Lane, Weight, Longest}
use Rattle.sheet.specs.declared.form.Figure.{Figure}
use Rattle.sheet.specs.declared.form.Line.{Line}
use Rattle.sheet.specs.declared.form.Step.{Step}
use Rattle.sheet.specs.declared.form.Step.TheVariants.{More, Whole, Wrong}

-- '0' is 48, '9' is 57
abbrev pub is_digit : ℕ → Bool
is_digit b = leb 48 b && leb b 57

-- A first digit may follow; and another one where the number so far is not 0 and has fewer than five digits. As no number begins with 0, that is below
-- 10,000.
abbrev pub extends : Bool → ℕ → Bool
extends begun v = not begun || (ltb 0 v && ltb v 10000)

-- ' ' is 32, line feed 10
abbrev pub stop : Part → ℕ
stop Lane = 32
stop Weight = 32
stop Longest = 10

-- No digit yet of a number that begins at a place.
abbrev pub no_digits : ℕ → Figure
no_digits at = record { value = 0; place = at }

-- A line that begins at a place.
abbrev pub new_line : ℕ → Line
new_line at = record { part = Lane; lane = no_digits at; weight = no_digits at; begun = false; last = no_digits at }

-- The last number with a digit more.
abbrev pub grown : Line → ℕ → Line
grown f b = record {
  part = f.part;
  lane = f.lane;
  weight = f.weight;
  begun = true;
  last = record { value = f.last.value * 10 + (b - 48); place = f.last.place };
}

-- The last number is read, and the next one begins at a place; or the line is whole.
abbrev pub number_closed : Part → Line → ℕ → Step
number_closed Lane f at = More (record { part = Weight; lane = f.last; weight = f.weight; begun = false; last = no_digits at })
number_closed Weight f at = More (record { part = Longest; lane = f.lane; weight = f.last; begun = false; last = no_digits at })
number_closed Longest f at = Whole (record { lane = f.lane; weight = f.weight; longest = f.last })

-- The byte b at a place.
unfoldable pub line_step : Line → ℕ → ℕ → Step
line_step f at b =
    if is_digit b then (if extends f.begun f.last.value then More (grown f b) else Wrong)
    else (if f.begun && eqb b (stop f.part) then number_closed f.part f (at + 1) else Wrong)
