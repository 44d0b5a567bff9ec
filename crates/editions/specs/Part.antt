-- The page's part of a table, which lies behind its core (crate table, `SIZE`): the edition last taken, and perhaps a settings page that waits.
--
--   PartRoom             long enough: 67 words
--   last_in, new_in        its first two words: the edition last taken, and the waiting page's, 0 where none waits
--   plan_of               the plan of its other words, an area as a host's (crate plan_area)
--   waiting_in            the page that waits
--   Fits                 what the layout asks of the words beside that: both editions have two bytes, and a waiting plan's format is a known one
--   GoodWait, GoodPart   the rule for a page that waits, where some lane holds a record or none does; and for the whole part
--   Stores               what a store leaves
--
-- Assumes nothing.
use Rattle.std.specs.Prelude.{ℕ, ◌+◌, ◌*◌, ◌≤◌, ◌<◌, ◌≡◌, Bool, true, List, eqb, length, drop, if◌then◌else◌}
use Rattle.std.proofs.Math.Option.{Option, none, some}
use Rattle.words.specs.Words.{word_at}
use Rattle.rules.specs.Setup.{Setup}
use Rattle.pages.specs.Device.{Page}
use Rattle.plan.specs.Judge.{known_format}
use Rattle.plan_writer.specs.Write.{Planned}
use Rattle.plan_area.specs.Area.{area_size, plan_in}

-- two words, and a plan area
abbrev pub part_bytes : ℕ
part_bytes = 2 * 8 + area_size

abbrev pub PartRoom : List ℕ → Type 0
PartRoom p = part_bytes ≤ length p

-- R19.7, R19.12: 0 before any page was taken
abbrev pub last_in : List ℕ → ℕ
last_in p = word_at p 0

-- R19.12: no page has edition 0 and waits: it would be above no other
abbrev pub new_in : List ℕ → ℕ
new_in p = word_at p 1

-- R19.12
abbrev pub plan_of : List ℕ → Planned
plan_of p = plan_in (drop (2 * 8) p)

-- R19.12
unfoldable pub waiting_in : List ℕ → Option Page
waiting_in p = if eqb (new_in p) 0 then none else some (record { edition = new_in p; settings = (plan_of p).lanes })

-- R19.11: the words of the plan mean nothing where none waits.
pub record Fits (p : List ℕ) : Type 0 where
  pub last : last_in p < 65536
  pub new : new_in p < 65536
  pub format : (new_in p ≡ 0 → ⊥) → known_format (plan_of p).format ≡ true

-- R19.11: a page may wait while a record is held, and is then of a setup within the numbers and of an edition above the one last taken
unfoldable pub GoodWait : Bool → ℕ → Option Page → Type 0
GoodWait held n none = Unit {0}
GoodWait held n (some q) = (held ≡ true) × Setup q.settings × (n < q.edition)

-- R19.11
pub record GoodPart (held : Bool) (p : List ℕ) : Type 0 where
  pub fits : Fits p
  pub page : GoodWait held (last_in p) (waiting_in p)

pub record Stores (before after : List ℕ) (n : ℕ) (w : Option Page) : Type 0 where
  pub last : last_in after ≡ n
  pub waiting : waiting_in after ≡ w
  pub fits : Fits before → Fits after
  pub rest : drop part_bytes after ≡ drop part_bytes before
