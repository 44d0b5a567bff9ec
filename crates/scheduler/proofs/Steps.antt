-- From the good-table test and an inner call's promise to the public call's. Assumes nothing.
use Prim.Native.Nat.{ℕ}
use native.Mathlib.Omega.{arith}
use mathlib.Core.Path.{◌≡◌, refl, sym, ap, subst, ◌∙◌}
use mathlib.Core.Bool.{Bool, true, false, false≢true}
use mathlib.Core.List.{List}
use mathlib.Core.Option.{none}
use lib.ListN.{length, drop}
use lib.Seq.{drop-drop}
use Rattle.rules.specs.State.{State}
use Rattle.rules.specs.Calls.{Call, put, take, look, sets, lag, restart, Reply, refused, step}
use Rattle.rules.specs.Reads.{number, place_of, reads}
use Rattle.rules.specs.declared.Answer.{Answer}
use Rattle.std.specs.Prelude.{Result}
use Rattle.rules.specs.declared.Refusal.{Refusal}
use Rattle.rules.specs.declared.Refusal.TheVariants.{NotGood}
use Rattle.alike.specs.AlikeDevice.{AlikeDevice, RespectsDevice, DeviceRespects}
use Rattle.alike.proofs.Alike.{alike-trans}
use Rattle.alike.proofs.AlikeDevice.{device-respects}
use Rattle.pages.specs.Device.{Device, DeviceCall, ruled, DeviceReply, answered, device_step, device_step_by}
use Rattle.pages.specs.OneCall.{OnlyTake}
use Rattle.pages.proofs.OneCall.{only-take}
use Rattle.editions.specs.Part.{last_in, waiting_in, Fits}
use Rattle.table.specs.Layout.{SIZE, page_part_bytes, table_size}
use Rattle.table.specs.Means.{meant}
use Rattle.table.specs.Encodes.{Encodes}
use Rattle.choice.specs.Known.{Known}
use Rattle.good.specs.Table.{GoodTable}
use Rattle.good.proofs.Encodes.{good-sound}
use Rattle.paged.specs.Paged.{part_of, device_of, EncodesDevice, GoodUnit}
use Rattle.paged.proofs.Units.{device-good, device-encoded}
use Rattle.engine.specs.Does.{SaysReply, Does}
use Rattle.engine.proofs.Still.{looks-does}
use Rattle.scheduler.specs.Step.{KeptBy, UnitStep, Step}
pub use Rattle.lane_test.proofs.Setting.{says-yes, says-no}

pub good-known : (t : List ℕ) → GoodTable t → Known t
good-known t g = record { sound = good-sound t g; listed = g.listed; good = g.good }

-- ---- units that the same bytes encode

pub encoded-alike : (t : List ℕ) (d : Device) → EncodesDevice t d → AlikeDevice (device_of t) d
unfolding device_of
encoded-alike t d e = record { state = e.core.alike; edition = e.edition; waiting = e.waiting }

pub alike-encoded : (t : List ℕ) (d e : Device) → AlikeDevice d e → EncodesDevice t d → EncodesDevice t e
alike-encoded t d e a h = record {
  room = h.room;
  core = record { room = h.core.room; alike = alike-trans (meant t) d.state e.state h.core.alike a.state; beside = h.core.beside; listed = h.core.listed };
  edition = h.edition ∙ a.edition;
  waiting = h.waiting ∙ a.waiting;
  fits = h.fits;
}

-- ---- any call

-- a table that is not good
bad-unit : (c : DeviceCall) (t : List ℕ) → (GoodUnit t → ⊥) → UnitStep c t (answered (refused 10 none)) t
bad-unit c t b = record {
  not_good = λ h. refl;
  reply = λ g. absurd (b g);
  device = λ g. absurd (b g);
  unchanged = refl;
  rest = refl;
  size = refl;
}

-- the refusal of a table that is not good
pub bad-step : (c : DeviceCall) (t : List ℕ) (x : Refusal) → (GoodUnit t → ⊥) × (x ≡ NotGood) → UnitStep c t (answered (refused (number x) (place_of x))) t
bad-step c t x (bad, e) = rw e (bad-unit c t bad)

-- a good one: the promise of the unit that the table means is one of every unit that it encodes, since no call tells these apart
pub unit-step : (c : DeviceCall) (t : List ℕ) (r : DeviceReply) (u : List ℕ) → GoodUnit t → r ≡ (device_step (device_of t) c).reply
    → EncodesDevice u (device_step (device_of t) c).device → KeptBy r t u → drop table_size u ≡ drop table_size t → length u ≡ length t → UnitStep c t r u
unfolding DeviceRespects
unit-step c t r u g says left kept rest len = record {
  not_good = λ b. absurd (b g);
  reply = λ _ d e. says ∙ (respects d e).reply;
  device = λ _ d e. alike-encoded u (device_step (device_of t) c).device (device_step d c).device (respects d e).device left;
  unchanged = kept;
  rest = rest;
  size = len;
}
  where
    respects : (d : Device) → EncodesDevice t d → RespectsDevice (device_step (device_of t) c) (device_step d c)
    respects d e = device-respects (device_of t) d (device-good t g) (encoded-alike t d e) c

-- ---- the six calls

-- the answer of a call on a good table
pub step-says : (c : Call) (t : List ℕ) (r : Reply) (u : List ℕ) → GoodUnit t → UnitStep (ruled c) t (answered r) u → r ≡ (step (meant t) c).reply
unfolding device_of device_step_by
step-says c t r u g p = let e : answered r ≡ answered (step (meant t) c).reply = p.reply g (device_of t) (device-encoded t g) in cc

-- bytes that are alike behind the core are so behind the table
pub past-table : (t u : List ℕ) → drop SIZE u ≡ drop SIZE t → drop table_size u ≡ drop table_size t
past-table t u e = sym (drop-drop page_part_bytes SIZE u) ∙ ap (drop page_part_bytes) e ∙ drop-drop page_part_bytes SIZE t

-- a call of the engine leaves the page's part
pub core-encoded : (t u : List ℕ) (s : State) → GoodUnit t → Encodes u s → drop SIZE u ≡ drop SIZE t → length u ≡ length t
    → EncodesDevice u (record { state = s; edition = last_in (part_of t); waiting = waiting_in (part_of t) })
core-encoded t u s g e rest len = record {
  room = omega (arith, g.room, len);
  core = e;
  edition = ap last_in rest;
  waiting = ap waiting_in rest;
  fits = subst Fits (sym rest) g.part.fits;
}

abbrev pub takes : Call → Bool
takes (put j k m n) = false
takes take = true
takes look = false
takes sets = false
takes (lag j) = false
takes restart = false

not-take : (c : Call) → takes c ≡ false → c ≡ take → ⊥
not-take c h e = false≢true (sym h ∙ ap takes e)

pub others-stay : (c : Call) (t : List ℕ) → takes c ≡ false → GoodUnit t
    → (device_step (device_of t) (ruled c)).device ≡ record { state = (step (meant t) c).state; edition = last_in (part_of t); waiting = waiting_in (part_of t) }
unfolding device_of OnlyTake
others-stay c t h g = only-take (device_of t) g.core.good.waiting (device-good t g).waiting c (not-take c h)

pub does-step : (c : Call) (t : List ℕ) (a : Result Answer Refusal) (u : List ℕ) → takes c ≡ false → GoodUnit t → length u ≡ length t → Does c t a u → Step c t a u
unfolding device_of device_step_by
does-step c t a u h g len d =
    unit-step (ruled c) t (answered (reads a)) u g (ap answered d.says)
    (subst (EncodesDevice u) (sym (others-stay c t h g)) (core-encoded t u (step (meant t) c).state g d.encodes d.rest len)) d.unchanged (past-table t u d.rest) len

-- the calls that change nothing
pub says-step : (c : Call) (t : List ℕ) (a : Result Answer Refusal) → takes c ≡ false → GoodUnit t → (step (meant t) c).state ≡ meant t → SaysReply c t a → Step c t a t
says-step c t a h g e d = does-step c t a t h g refl (looks-does c t a (good-known t g.core) e d)
