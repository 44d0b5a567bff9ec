-- The header of a field.
--
--   header_at   what stands at a place where a field is wanted
--   behind_at   the place behind the field at a place
--
-- Assumes nothing.
use Rattle.std.specs.Prelude.{ℕ, ◌+◌, Bool, true, false, List, ltb, leb, length}
use Rattle.fields.specs.Bytes.{byte_at, big}
use Rattle.fields.specs.declared.Field.{Field}
use Rattle.fields.specs.declared.Field.TheVariants.{Nothing, Cut, Header}

abbrev pub pick : {A : Type 0} → Bool → A → A → A
pick true a b = a
pick false a b = b

-- R8.1: a byte of tag and two of length, if three are left. No byte left: `Nothing`; one or two: `Cut`.
abbrev pub header_at : List ℕ → ℕ → Field
header_at s at =
    pick (leb (at + 3) (length s)) (Header (byte_at s at) (at + 3) (big s (at + 1) 2))
    (pick (ltb at (length s)) Cut Nothing)

-- Behind the value, where header and value are whole. Where they are not there is no field to move by, and the place stays.
abbrev pub behind_field : List ℕ → ℕ → Field → ℕ
behind_field s at Nothing = at
behind_field s at Cut = at
behind_field s at (Header tag value n) = pick (leb (value + n) (length s)) (value + n) at

-- R8.1
unfoldable pub behind_at : List ℕ → ℕ → ℕ
behind_at s at = behind_field s at (header_at s at)
