-- One field of a setup (docs/RULES.md, R8), and the refusals 1 to 3.
--
--   setup_tag       the tags of a setup
--   setup_fits      the lengths that are right for a tag
--   setup_field_of   a value, taken apart by its tag
--   setup_kinds     what a setup knows: these three
--   ends           whether a field is 0x7F
--   setup_item_at    what stands at a place of a setup, a `SetupItem`
--   setup_item_of    the code's answer as a `SetupItem`
--
-- Assumes nothing.
use Rattle.std.specs.Prelude.{ℕ, ◌+◌, Bool, true, false, ◌||◌, List, Option, Some, None, Result, eqb, if◌then◌else◌}
use Rattle.fields.specs.Bytes.{byte_at, big}
use Rattle.fields.specs.Item.{Item, FieldKinds, item_at, item_told}
use Rattle.rules.specs.declared.Refusal.{Refusal}
use Rattle.plan.specs.declared.parse.LaneField.{LaneField}
use Rattle.plan.specs.declared.parse.SetupField.{SetupField}
use Rattle.plan.specs.declared.parse.SetupField.TheVariants.{Format, Lane, Framing, Shared, End}

-- R8.5, R14.3. The tags that this part knows: 0x01, 0x10, 0x11, 0x12 and 0x7F.
abbrev pub setup_tag : ℕ → Bool
setup_tag tag = eqb tag 1 || (eqb tag 16 || (eqb tag 17 || (eqb tag 18 || eqb tag 127)))

-- R8.5, R14.4: a format has two bytes; a lane has five, or three with no longest; the line's framing bytes, and 0x12, a shared lane, are one byte each; 0x7F
-- has none.
abbrev pub setup_fits : ℕ → ℕ → Bool
setup_fits tag n = if eqb tag 1 then eqb n 2 else (if eqb tag 16 then eqb n 3 || eqb n 5 else (if eqb tag 17 then eqb n 1 else (if eqb tag 18 then eqb n 1 else eqb n 0)))

-- R8.9: three bytes leave the longest to the format. Else it stands after the lane and the weight.
abbrev pub longest_at : List ℕ → ℕ → ℕ → Option ℕ
longest_at s at n = if eqb n 3 then None else Some (big s (at + 3) 2)

-- R8.9: the value of n bytes at a place.
abbrev pub lane_field_at : List ℕ → ℕ → ℕ → LaneField
lane_field_at s at n = record { lane = byte_at s at; weight = big s (at + 1) 2; longest = longest_at s at n }

-- The value of n bytes at a place, by the tag before it: a format, a lane, the framing bytes, a shared lane, or nothing.
unfoldable pub setup_field_of : List ℕ → ℕ → ℕ → ℕ → SetupField
setup_field_of s tag at n =
    if eqb tag 1 then Format (big s at 2)
    else (if eqb tag 16 then Lane (lane_field_at s at n)
    else (if eqb tag 17 then Framing (byte_at s at)
    else (if eqb tag 18 then Shared (byte_at s at) else End)))

abbrev pub setup_kinds : FieldKinds SetupField
setup_kinds = record { tag = setup_tag; fits = setup_fits; field = setup_field_of }

-- R8.12: 0x7F ends a setup.
abbrev pub ends : SetupField → Bool
ends (Format v) = false
ends (Lane l) = false
ends (Framing h) = false
ends (Shared k) = false
ends End = true

abbrev pub SetupItem : Type 0
SetupItem = Item SetupField

-- R8.3, R8.4, R8.6: as in every input, by what a setup knows.
abbrev pub setup_item_at : List ℕ → ℕ → SetupItem
setup_item_at = item_at setup_kinds

-- The code's answer, its refusal by number.
abbrev pub setup_item_of : Result (SetupField × ℕ) Refusal → SetupItem
setup_item_of = item_told
