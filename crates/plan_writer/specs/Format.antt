-- The bytes of a setup's fields, and the form in which setups are written (R9.6). What a field's bytes are read as is `setup_item_at` of the reader (crate `plan`,
-- specs/Fields.antt); the fields themselves, and which of them make a setup (`setup_fields`), are the reader's own.
--
--   field_bytes   the bytes of a field: tag, length, value
--   bytes_of      the bytes of fields, one after another
--   formed       a field in the form that is written
--   InForm       a setup whose fields are all in that form
--
-- Assumes nothing.
use Rattle.std.specs.Prelude.{ℕ, ◌≡◌, Bool, true, false, not, ◌&&◌, List, [], ◌∷◌, ◌++◌, eqb, length, Option, Some, None}
use Rattle.fields.specs.Bytes.{two, as_field}
use Rattle.plan.specs.Accepted.{Laid}
use Rattle.plan.specs.declared.parse.SetupField.{SetupField}
use Rattle.plan.specs.declared.parse.SetupField.TheVariants.{Format, Lane, Framing, Shared, End}

-- ---- bytes

abbrev pub tag_of : SetupField → ℕ
tag_of (Format v) = 1
tag_of (Lane l) = 16
tag_of (Framing h) = 17
tag_of (Shared k) = 18
tag_of End = 127

abbrev pub longest_bytes : Option ℕ → List ℕ
longest_bytes (Some n) = two n
longest_bytes None = []

-- A format has two bytes; a lane field has the lane, the weight and, where it is given, the longest; the framing bytes are one byte, and so is a shared lane;
-- 0x7F has none.
abbrev pub value_of : SetupField → List ℕ
value_of (Format v) = two v
value_of (Lane l) = l.lane ∷ (two l.weight ++ longest_bytes l.longest)
value_of (Framing h) = h ∷ []
value_of (Shared k) = k ∷ []
value_of End = []

abbrev pub field_bytes : SetupField → List ℕ
field_bytes f = as_field (tag_of f) (value_of f)

unfoldable pub bytes_of : List SetupField → List ℕ
bytes_of [] = []
bytes_of (f ∷ fs) = field_bytes f ++ bytes_of fs

-- ---- the form

abbrev pub written_out : Option ℕ → Bool
written_out (Some n) = true
written_out None = false

-- A lane field has its longest, so five bytes; 0x11 stands only for a number that is not 0.
abbrev pub formed : SetupField → Bool
formed (Format v) = true
formed (Lane l) = written_out l.longest
formed (Framing h) = not (eqb h 0)
formed (Shared k) = true
formed End = true

abbrev pub all_formed : List SetupField → Bool
all_formed [] = true
all_formed (f ∷ fs) = formed f && all_formed fs

-- The fields that stand from the first byte to the last are all in the form.
pub record InForm (s : List ℕ) : Type 0 where
  pub fields : List SetupField
  pub laid : Laid s 0 fields (length s)
  pub all : all_formed fields ≡ true
