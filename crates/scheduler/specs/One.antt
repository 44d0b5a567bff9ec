-- R15.3: what the promises leave open: nothing of an answer, and of a table only what no call tells apart. So a program that meets them gives the same answers
-- as this one, for every input.
--
--   OneAnswer   two outcomes that `UnitStep` allows for the same call on the same bytes, an offer of a page too
--   OneMaking   two outcomes that `MakeStep` allows for the same setup on the same bytes
--
-- Bytes are a good table or are not: `good_unit` (crate paged) decides it for any. Assumes nothing.
use Rattle.std.specs.Prelude.{ℕ, ◌≡◌, ◌⊎◌, List, drop}
use Rattle.pages.specs.Device.{DeviceCall, DeviceReply}
use Rattle.alike.specs.AlikeDevice.{AlikeDevice}
use Rattle.table.specs.Layout.{table_size}
use Rattle.paged.specs.Paged.{device_of, GoodUnit}
use Rattle.scheduler.specs.Step.{UnitStep}
use Rattle.scheduler.specs.Make.{MakeStep, make_reply}
use Rattle.std.specs.Prelude.{Result}
use Rattle.rules.specs.declared.Refusal.{Refusal}

-- the tables after two outcomes: no call tells their units apart, and the bytes past the table are the same
pub record SameTable (u u' : List ℕ) : Type 0 where
  pub device : AlikeDevice (device_of u) (device_of u')
  pub rest : drop table_size u ≡ drop table_size u'

unfoldable pub OneAnswer : Type 0
OneAnswer =
    (c : DeviceCall) (t : List ℕ) → GoodUnit t ⊎ (GoodUnit t → ⊥) → (r r' : DeviceReply) (u u' : List ℕ) → UnitStep c t r u → UnitStep c t r' u'
    → (r ≡ r') × SameTable u u'

unfoldable pub OneMaking : Type 0
OneMaking =
    (setup t : List ℕ) (a a' : Result ℕ Refusal) (u u' : List ℕ) → MakeStep setup t a u → MakeStep setup t a' u'
    → (make_reply a ≡ make_reply a') × SameTable u u'
