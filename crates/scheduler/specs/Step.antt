-- The promise of a public call, whole: for every slice, every argument and every answer, refusals included.
--
--   UnitStep    of any call of a unit with settings pages (crate pages)
--   Step        of put, take, look, sets, lag and restart
--   offered     what the bytes of a page ask; offering: the answer to them; OfferStep: of an offer
--
-- Assumes nothing.
use Rattle.std.specs.Prelude.{ℕ, ◌≡◌, List, length, drop, Result, Ok, Err}
use Rattle.std.proofs.Math.Option.{Option, none, some}
use Rattle.rules.specs.Calls.{Call, refused}
use Rattle.rules.specs.Reads.{number, place_of, reads}
use Rattle.rules.specs.declared.Answer.{Answer}
use Rattle.rules.specs.declared.Refusal.{Refusal}
use Rattle.pages.specs.Device.{Device, DeviceCall, ruled, offer, unread, DeviceReply, answered, in_force_now, waits_now, device_step}
use Rattle.page.specs.Read.{read_page, PageReply, page_read, page_refused}
use Rattle.table.specs.Layout.{table_size}
use Rattle.engine.specs.Does.{Unchanged}
use Rattle.paged.specs.Paged.{EncodesDevice, GoodUnit}
use Rattle.scheduler.specs.declared.Offered.{Offered}
use Rattle.scheduler.specs.declared.Offered.TheVariants.{InForce, Waits}
use Rattle.scheduler.specs.declared.NotTaken.{NotTaken}
use Rattle.scheduler.specs.declared.NotTaken.TheVariants.{Old, Refused}

-- a refusal leaves every byte
abbrev pub KeptBy : DeviceReply → List ℕ → List ℕ → Type 0
KeptBy (answered r) before after = Unchanged r before after
KeptBy in_force_now before after = Unit {0}
KeptBy waits_now before after = Unit {0}

-- R19.7, R14.40, R15.1: the call c on the bytes `before` is answered r and leaves the bytes `after`.
pub record UnitStep (c : DeviceCall) (before : List ℕ) (r : DeviceReply) (after : List ℕ) : Type 0 where
  -- R3.1, R6.14, R14.22: 10 for bytes that are no good table
  pub not_good : (GoodUnit before → ⊥) → r ≡ answered (refused 10 none)
  -- R3.1, R3.2, R15.2: on a good table, of any origin, the answer is the rules' reply to any unit that the bytes encode ..
  pub reply : GoodUnit before → (d : Device) → EncodesDevice before d → r ≡ (device_step d c).reply
  -- R3.2, R15.2: .. and the bytes after it encode the rules' unit.
  pub device : GoodUnit before → (d : Device) → EncodesDevice before d → EncodesDevice after (device_step d c).device
  -- R3.3, R14.43: a refused call leaves every byte
  pub unchanged : KeptBy r before after
  -- R3.3: what is lent past the fixed size stays, and so does how much is lent
  pub rest : drop table_size after ≡ drop table_size before
  -- R3.3
  pub size : length after ≡ length before

-- R14.40, R15.1
abbrev pub Step : Call → List ℕ → Result Answer Refusal → List ℕ → Type 0
Step c before a after = UnitStep (ruled c) before (answered (reads a)) after

-- ---- offers

-- a page's refusal always has a place (crate page, RefusesInside)
abbrev pub place_in : Option ℕ → ℕ
place_in none = 0
place_in (some p) = p

abbrev pub offered_as : PageReply → DeviceCall
offered_as (page_read edition format gs n) = offer (record { edition = edition; settings = gs })
offered_as (page_refused n p) = unread n (place_in p)

-- R14.49, R19.7: of any bytes: the page that the page reader reads there, or one that it doesn't read
abbrev pub offered : List ℕ → DeviceCall
offered bytes = offered_as (read_page bytes)

-- 60 has no place
abbrev pub offering : Result Offered NotTaken → DeviceReply
offering (Ok InForce) = in_force_now
offering (Ok Waits) = waits_now
offering (Err Old) = answered (refused 60 none)
offering (Err (Refused x)) = answered (refused (number x) (place_of x))

-- R14.49, R19.7
abbrev pub OfferStep : List ℕ → List ℕ → Result Offered NotTaken → List ℕ → Type 0
OfferStep bytes before o after = UnitStep (offered bytes) before (offering o) after
