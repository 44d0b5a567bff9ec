-- What reading a settings page answers: the promise of `read_page`.
--
--   PageReply     what reading answers
--   past_skipped   the place behind the fields of 0x80 and above that stand from a place on
--   end_at         the page's 0x7F, which is to stand at a place
--   value_at       the bytes of a value; moved: a place of a value, counted from the page's start
--   settings_at    the page from its 0x41 on, which is to stand at a place
--   read_page      the whole page
--   page_reply     the code's answer as a `PageReply`
--
-- The setup inside is what `read_setup` (crate `plan`, specs/Read.antt) says of the bytes of its value.
--
-- Assumes nothing.
use Rattle.std.specs.Prelude.{ℕ, zero, suc, ◌+◌, ◌-◌, Bool, true, false, List, ltb, length, take, drop, Result, Ok, Err, if◌then◌else◌}
use Rattle.std.proofs.Math.Option.{Option, some, none}
use Rattle.fields.specs.Item.{whole_field, bad_field}
use Rattle.rules.specs.State.{Setting}
use Rattle.rules.specs.Reads.{number, place_of}
use Rattle.rules.specs.declared.Refusal.{Refusal}
use Rattle.plan.specs.Read.{read_setup, settings, SetupReply, setup_refused, setup_read}
use Rattle.page.specs.Fields.{PageItem, page_item_at}
use Rattle.page.specs.declared.Reading.{Reading}
use Rattle.page.specs.declared.parse.PageField.{PageField}
use Rattle.page.specs.declared.parse.PageField.TheVariants.{Edition, Settings, Skipped, End}

-- A page that was read: its edition, and of its setup the format, the settings by lane number and how many lanes it has. Or a refusal: its number and its
-- place.
pub data PageReply : Type 0 where
  page_read : ℕ → ℕ → List Setting → ℕ → PageReply
  page_refused : ℕ → Option ℕ → PageReply

-- ---- what is skipped

-- R19.2: a field of 0x80 or above
abbrev pub is_skipped : PageField → Bool
is_skipped (Edition e) = false
is_skipped (Settings value n) = false
is_skipped Skipped = true
is_skipped End = false

-- Behind a skipped field the walk goes on; at any other field, and at a fault, is the place to look at. A field has three bytes or more, so a turn for each byte
-- left is enough.
unfoldable pub skip_walk : ℕ → List ℕ → ℕ → ℕ
skip_walk zero s at = at
skip_walk (suc turns) s at = elim (page_item_at s at) [
  | bad_field n p ↦ at
  | whole_field f next ↦ if is_skipped f then skip_walk turns s next else at
]

unfoldable pub past_skipped : List ℕ → ℕ → ℕ
past_skipped s at = skip_walk (length s - at) s at

-- ---- 0x7F

-- R19.4: A byte after the 0x7F is out of order.
abbrev pub page_closed : List ℕ → ℕ → PageReply → PageReply
page_closed s next r = if ltb next (length s) then page_refused 4 (some next) else r

abbrev pub ended : List ℕ → ℕ → PageReply → PageItem → PageReply
ended s at r (bad_field n p) = page_refused n p
ended s at r (whole_field (Edition e) next) = page_refused 4 (some at)
ended s at r (whole_field (Settings value n) next) = page_refused 4 (some at)
ended s at r (whole_field Skipped next) = page_refused 4 (some at)
ended s at r (whole_field End next) = page_closed s next r

-- R19.3, R19.4
unfoldable pub end_at : List ℕ → ℕ → PageReply → PageReply
end_at s at r = ended s at r (page_item_at s at)

-- ---- 0x41

-- R19.5
unfoldable pub value_at : List ℕ → ℕ → ℕ → List ℕ
value_at s at n = take n (drop at s)

-- R19.5
abbrev pub moved : ℕ → Option ℕ → Option ℕ
moved by none = none
moved by (some place) = some (by + place)

-- R19.5: what the setup inside was read as, whose value stands at a place: a refusal of it is the page's, before any later field is looked at.
abbrev pub inside : List ℕ → ℕ → ℕ → ℕ → SetupReply → PageReply
inside s edition value next (setup_refused n place) = page_refused n (moved value place)
inside s edition value next (setup_read format gs n end) = end_at s (past_skipped s next) (page_read edition format gs n)

abbrev pub page_settled : List ℕ → ℕ → ℕ → PageItem → PageReply
page_settled s edition at (bad_field n p) = page_refused n p
page_settled s edition at (whole_field (Edition e) next) = page_refused 4 (some at)
page_settled s edition at (whole_field (Settings value n) next) = inside s edition value next (read_setup (value_at s value n))
page_settled s edition at (whole_field Skipped next) = page_refused 4 (some at)
page_settled s edition at (whole_field End next) = page_refused 4 (some at)

-- R19.3, R19.4
unfoldable pub settings_at : List ℕ → ℕ → ℕ → PageReply
settings_at s edition at = page_settled s edition at (page_item_at s at)

-- ---- 0x40, and the whole page

abbrev pub page_begun : List ℕ → PageItem → PageReply
page_begun s (bad_field n p) = page_refused n p
page_begun s (whole_field (Edition e) next) = settings_at s e (past_skipped s next)
page_begun s (whole_field (Settings value n) next) = page_refused 4 (some 0)
page_begun s (whole_field Skipped next) = page_refused 4 (some 0)
page_begun s (whole_field End next) = page_refused 4 (some 0)

-- R14.48, R19.3, R19.4: 0x40, 0x41 and 0x7F, in that order and once each; between two of them any fields of 0x80 and above are passed over.
unfoldable pub read_page : List ℕ → PageReply
read_page s = page_begun s (page_item_at s 0)

-- ---- the code's answer

-- The code's answer, a refusal by its number.
abbrev pub page_reply : Result Reading Refusal → PageReply
page_reply (Ok r) = page_read r.edition r.plan.format (settings r.plan) r.plan.count
page_reply (Err x) = page_refused (number x) (place_of x)

-- How far from a value's start a place of it is; 0 where there is none.
abbrev pub distance : Option ℕ → ℕ
distance none = 0
distance (some place) = place
