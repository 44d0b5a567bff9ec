-- The field at a place of an input, by what the input knows: setups and settings pages differ in that alone.
--
--   Item     a field, taken apart, with the place after it; or a refusal's number and place
--   FieldKinds   what an input knows: its tags, the lengths that are right for them, and how a value is taken apart
--   item_at   what stands at a place
--   item_told   the code's answer as an `Item`
--
-- Assumes nothing.
use Rattle.std.specs.Prelude.{ℕ, ◌+◌, Bool, not, List, Result, Ok, Err, leb, length}
use Rattle.std.proofs.Math.Option.{Option, some}
use Rattle.fields.specs.Header.{pick, header_at}
use Rattle.rules.specs.Reads.{number, place_of}
use Rattle.rules.specs.declared.Refusal.{Refusal}
use Rattle.fields.specs.declared.Field.{Field}
use Rattle.fields.specs.declared.Field.TheVariants.{Nothing, Cut, Header}

-- What stands at a place: a whole field, taken apart, with the place after it; or a refusal's number and its place.
pub data Item (A : Type 0) : Type 0 where
  whole_field : A → ℕ → Item A
  bad_field : ℕ → Option ℕ → Item A

-- `fits` of a tag and a length; `field` of the input, a tag, the place of its value and its length.
pub record FieldKinds (A : Type 0) : Type 0 where
  pub tag : ℕ → Bool
  pub fits : ℕ → ℕ → Bool
  pub field : List ℕ → ℕ → ℕ → ℕ → A

-- R8.3, R8.4, R8.6, R14.2: what was read of the header decides first, then the tag, its length, and whether the value is whole.
abbrev pub item_by_header : {A : Type 0} → FieldKinds A → List ℕ → ℕ → Field → Item A
item_by_header known s at Nothing = bad_field 1 (some (length s))
item_by_header known s at Cut = bad_field 1 (some at)
item_by_header known s at (Header tag value n) =
    pick (not (known.tag tag)) (bad_field 2 (some at))
    (pick (not (known.fits tag n)) (bad_field 3 (some at))
    (pick (not (leb (value + n) (length s))) (bad_field 1 (some at)) (whole_field (known.field s tag value n) (value + n))))

-- R8.4
unfoldable pub item_at : {A : Type 0} → FieldKinds A → List ℕ → ℕ → Item A
item_at known s at = item_by_header known s at (header_at s at)

-- The code's answer, its refusal by number.
abbrev pub item_told : {A : Type 0} → Result (A × ℕ) Refusal → Item A
item_told (Ok r) = whole_field r.0 r.1
item_told (Err x) = bad_field (number x) (place_of x)
