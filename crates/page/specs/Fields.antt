-- One field of a settings page, and the refusals 1 to 3.
--
--   page_tag       the tags of a page
--   page_fits      the lengths that are right for a tag
--   page_field_of   what a field is, by its tag
--   page_kinds     what a page knows: these three
--   page_item_at    what stands at a place of a page, a `PageItem`
--   page_item_of    the code's answer as a `PageItem`
--
-- Assumes nothing.
use Rattle.std.specs.Prelude.{ℕ, Bool, true, ◌||◌, List, Result, leb, eqb, if◌then◌else◌}
use Rattle.fields.specs.Bytes.{big}
use Rattle.fields.specs.Item.{Item, FieldKinds, item_at, item_told}
use Rattle.rules.specs.declared.Refusal.{Refusal}
use Rattle.page.specs.declared.parse.PageField.{PageField}
use Rattle.page.specs.declared.parse.PageField.TheVariants.{Edition, Settings, Skipped, End}

-- R19.3: A page knows 0x40, 0x41, 0x7F, and every tag of 0x80 and above, which it skips.
abbrev pub page_tag : ℕ → Bool
page_tag tag = eqb tag 64 || (eqb tag 65 || (eqb tag 127 || leb 128 tag))

-- R19.3: an edition has two bytes and 0x7F none; a setup and a skipped field have any number.
abbrev pub page_fits : ℕ → ℕ → Bool
page_fits tag n = if eqb tag 64 then eqb n 2 else (if eqb tag 127 then eqb n 0 else true)

-- 0x40 has the edition, 0x41 a setup in the n bytes at a place.
unfoldable pub page_field_of : List ℕ → ℕ → ℕ → ℕ → PageField
page_field_of s tag at n = if eqb tag 64 then Edition (big s at 2) else (if eqb tag 65 then Settings at n else (if eqb tag 127 then End else Skipped))

abbrev pub page_kinds : FieldKinds PageField
page_kinds = record { tag = page_tag; fits = page_fits; field = page_field_of }

abbrev pub PageItem : Type 0
PageItem = Item PageField

-- R19.3: in a field 1 (header), 2, 3, 1 (value), as in every input, by what a page knows. A page that just stops is cut at its length.
abbrev pub page_item_at : List ℕ → ℕ → PageItem
page_item_at = item_at page_kinds

-- The code's answer, its refusal by number.
abbrev pub page_item_of : Result (PageField × ℕ) Refusal → PageItem
page_item_of = item_told
