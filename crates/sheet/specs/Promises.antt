-- What is promised of reading a sheet, of every input. Theorems of these names in small letters are in proofs/Promises.antt.
--
--   SheetFormReadsBack    R12.9: the sheet of a setup with no framing bytes and no shared lane is read as that setup, of format 2
--   SheetFormWritesBack   R12.6: a sheet that is read is, byte for byte, the sheet of what was read: a setup of format 2 with no framing bytes and no shared lane
--   LineByLine            R12.2: a line of the form is judged as a whole before a byte behind it is looked at, its numbers with the places of their first digits
--   SheetRefusesInside    R12.5: a refusal has a number of `sheet_refusals` and a place in the sheet, at its length only for 81
--   FirstWrong            R12.3, of 80: the bytes before the place begin a sheet of the form, and with the byte at the place none goes on
--   CutShort              R12.4, of 81: the place is the sheet's length; its bytes begin a sheet of the form and are none
--   FormIsRead            R12.3: a sheet of the form is refused by 80 or 81 never
--
-- Assumes nothing.
use Rattle.std.specs.Prelude.{ℕ, ◌+◌, ◌≤◌, ◌<◌, ◌≡◌, true, false, List, [], ◌∷◌, ◌++◌, length, Ok, Err}
use Rattle.std.proofs.Math.Option.{Option, some}
use Rattle.rules.specs.State.{Setting, setting_at}
use Rattle.rules.specs.Setup.{Setup, framing_of}
use Rattle.rules.specs.Reads.{number, place_of}
use Rattle.plan.specs.Judge.{seen_after}
use Rattle.plan.specs.Read.{setup_read, setup_refused, placed}
use Rattle.plan.specs.Accepted.{present, among}
use Rattle.plan.specs.declared.judge.Seen.{Seen}
use Rattle.plan.specs.declared.parse.SetupField.TheVariants.{Lane}
use Rattle.text.specs.Decimal.{decimal}
use Rattle.sheet.specs.Form.{new_line}
use Rattle.sheet.specs.Judge.{verdict, row_field}
use Rattle.sheet.specs.Read.{sheet_format, sheet_walk, read_sheet}
use Rattle.sheet.specs.Text.{line_bytes, Formed, BeginsSheet, sheet_bytes}
use Rattle.sheet.specs.declared.form.Row.{Row}

-- no lane is shared
abbrev pub Unshared : List Setting → Type 0
Unshared gs = (k : ℕ) → (setting_at gs k).shared ≡ false

unfoldable pub SheetFormReadsBack : Type 0
SheetFormReadsBack = (gs : List Setting) → Setup gs → framing_of gs ≡ 0 → Unshared gs → read_sheet (sheet_bytes gs) ≡ setup_read sheet_format gs (present gs) (length (sheet_bytes gs))

-- R12.6. A sheet that was read as a format, these settings, so many lanes, as far as a place.
pub record AcceptedSheet (s : List ℕ) (v : ℕ) (gs : List Setting) (n p : ℕ) : Type 0 where
  pub format : v ≡ sheet_format
  pub same : sheet_bytes gs ≡ s
  pub setup : Setup gs
  pub bare : framing_of gs ≡ 0
  pub unshared : Unshared gs
  pub are_there : present gs ≡ n
  pub some_lane : 1 ≤ n
  pub end : p ≡ length s

unfoldable pub SheetFormWritesBack : Type 0
SheetFormWritesBack = (s : List ℕ) (v : ℕ) (gs : List Setting) (n p : ℕ) → read_sheet s ≡ setup_read v gs n p → AcceptedSheet s v gs n p

module _ (a b c at : ℕ) where
  -- Behind the lane's digits and a space, behind the weight's and a space, behind the longest's and the line feed.
  abbrev pub place₁ : ℕ
  place₁ = at + length (decimal a) + 1

  abbrev pub place₂ : ℕ
  place₂ = place₁ + length (decimal b) + 1

  abbrev pub place₃ : ℕ
  place₃ = place₂ + length (decimal c) + 1

  -- A line as it is read from a place on.
  abbrev pub row_at : Row
  row_at = record { lane = record { value = a; place = at }; weight = record { value = b; place = place₁ }; longest = record { value = c; place = place₂ } }

unfoldable pub LineByLine : Type 0
LineByLine =
    (a b c at : ℕ) (seen : Seen) (gs : List Setting) (bs : List ℕ) → a < 100000 → b < 100000 → c < 100000
    → sheet_walk seen gs (new_line at) at (line_bytes a b c ++ bs)
    ≡ (elim (verdict seen (row_at a b c at)) [
      | Err x ↦ setup_refused (number x) (place_of x)
      | Ok done ↦
          (let f = Lane (row_field (row_at a b c at)) in
          sheet_walk (seen_after seen f) (placed sheet_format 0 gs f) (new_line (place₃ a b c at)) (place₃ a b c at) bs)
    ])

abbrev pub sheet_refusals : List ℕ
sheet_refusals = 80 ∷ 81 ∷ 51 ∷ 52 ∷ 53 ∷ 4 ∷ 6 ∷ []

pub record RefusedSheet (s : List ℕ) (n : ℕ) (q : Option ℕ) : Type 0 where
  pub listed : among sheet_refusals n ≡ true
  pub place : ℕ
  pub is : q ≡ some place
  pub within : place ≤ length s
  pub at_the_end : place ≡ length s → n ≡ 81

unfoldable pub SheetRefusesInside : Type 0
SheetRefusesInside = (s : List ℕ) (n : ℕ) (q : Option ℕ) → read_sheet s ≡ setup_refused n q → RefusedSheet s n q

-- A place where a byte stands with which no sheet of the form goes on, and the first such.
pub record WrongByte (s : List ℕ) (p : ℕ) : Type 0 where
  pub front : List ℕ
  pub byte : ℕ
  pub back : List ℕ
  pub is : front ++ byte ∷ back ≡ s
  pub place : p ≡ length front
  pub begins : BeginsSheet front
  pub none : (t : List ℕ) → Formed (front ++ byte ∷ t) → ⊥

unfoldable pub FirstWrong : Type 0
FirstWrong = (s : List ℕ) (p : ℕ) → read_sheet s ≡ setup_refused 80 (some p) → WrongByte s p

pub record Unfinished (s : List ℕ) (p : ℕ) : Type 0 where
  pub place : p ≡ length s
  pub begins : BeginsSheet s
  pub none : Formed s → ⊥

unfoldable pub CutShort : Type 0
CutShort = (s : List ℕ) (p : ℕ) → read_sheet s ≡ setup_refused 81 (some p) → Unfinished s p

unfoldable pub FormIsRead : Type 0
FormIsRead = (s : List ℕ) (q : Option ℕ) → Formed s → (read_sheet s ≡ setup_refused 80 q → ⊥) × (read_sheet s ≡ setup_refused 81 q → ⊥)
