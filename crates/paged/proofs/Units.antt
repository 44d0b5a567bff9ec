-- Good tables and the units that they encode. Assumes nothing.
use mathlib.Core.Path.{refl, sym, ap, subst}
use mathlib.Core.Bool.{Bool}
use mathlib.Core.List.{List}
use mathlib.Core.Option.{Option, none, some}
use Prim.Native.Nat.{ℕ}
use lib.ListN.{get_or}
use Rattle.waiting.specs.Waiting.{GoodWaiting}
use Rattle.rules.specs.State.{Lane, State, no_lane, setup_of, any_holds}
use Rattle.rules.specs.Setup.{Setup}
use Rattle.rules.proofs.Keep.{AllSound}
use Rattle.alike.proofs.Alike.{alike_refl}
use Rattle.pages.specs.Device.{Page, Device}
use Rattle.pages.specs.Claims.{GoodPage, GoodDevice}
use Rattle.editions.specs.Part.{last_in, waiting_in, GoodWait}
use Rattle.table.specs.Means.{meant}
use Rattle.table.specs.Encodes.{Encodes}
use Rattle.good.specs.Table.{GoodTable}
use Rattle.good.proofs.Encodes.{good-sound, good-encodes, encodes-good}
use Rattle.paged.specs.Paged.{part_of, device_of, EncodesDevice, GoodUnit, GoodEncodesDevice, EncodesGoodDevice}
use Rattle.paged.specs.Settles.{Filed, PageReady, Rests}

-- ---- the rule for a waiting page, of a unit and of a table's words

pub wait-page : (d : Device) (w : Option Page) → GoodWait (any_holds d.state.lanes) d.edition w → GoodPage d w
unfolding GoodWait GoodPage
wait-page d none g = tt
wait-page d (some p) g = g

pub page-wait : (d : Device) (w : Option Page) → GoodPage d w → GoodWait (any_holds d.state.lanes) d.edition w
unfolding GoodWait GoodPage
page-wait d none g = tt
page-wait d (some p) g = g

wait-ready : (b : Bool) (n : ℕ) (w : Option Page) → GoodWait b n w → PageReady w
unfolding GoodWait
wait-ready b n none g = tt
wait-ready b n (some p) g = g.1

-- ---- good tables

pub device-good : (t : List ℕ) → GoodUnit t → GoodDevice (device_of t)
unfolding device_of
device-good t g = record { state = g.core.good; waiting = wait-page (device_of t) (waiting_in (part_of t)) g.part.page }

pub device-encoded : (t : List ℕ) → GoodUnit t → EncodesDevice t (device_of t)
unfolding device_of
device-encoded t g = record { room = g.room; core = good-encodes t g.core; edition = refl; waiting = refl; fits = g.part.fits }

pub units-encode : GoodEncodesDevice
unfolding GoodEncodesDevice
units-encode t g = (device-encoded t g, device-good t g)

pub units-good : EncodesGoodDevice
unfolding EncodesGoodDevice
units-good t d e g =
    let w = page-wait d d.waiting g.waiting in
    let w₁ = subst (λ (ls : List Lane). GoodWait (any_holds ls) d.edition d.waiting) (sym e.core.alike.lanes) w in
    let w₂ = subst (λ (n : ℕ). GoodWait (any_holds (meant t).lanes) n d.waiting) (sym e.edition) w₁ in
    record {
      room = e.room;
      core = encodes-good t d.state e.core g.state;
      part = record { fits = e.fits; page = subst (GoodWait (any_holds (meant t).lanes) (last_in (part_of t))) (sym e.waiting) w₂ };
    }

-- ---- what the inner functions ask

pub good-filed : (t : List ℕ) → GoodTable t → Filed t
good-filed t g = record { sound = good-sound t g; listed = g.listed; setup = g.good.setup; waiting = g.good.waiting }

pub good-rests : (t : List ℕ) → GoodUnit t → Rests t
good-rests t g = record { room = g.room; filed = good-filed t g.core; fits = g.part.fits; page = wait-ready _ _ (waiting_in (part_of t)) g.part.page }

-- of bytes that encode a state, whatever its clock is
pub encodes-filed : (t : List ℕ) (s : State) → Encodes t s → Setup (setup_of s) → AllSound s → Filed t
encodes-filed t s e setup sound = record {
  sound = record { room = e.room; beside = e.beside };
  listed = e.listed;
  setup = subst (λ (ls : List Lane). Setup (setup_of (record { clock = 0; lanes = ls; order = s.order }))) (sym e.alike.lanes) setup;
  waiting = λ k. subst (λ (l : Lane). GoodWaiting l.given.longest l.waiting) (ap (λ (ls : List Lane). get_or ls k no_lane) (sym e.alike.lanes)) (sound k);
}

pub filed-encodes : (t : List ℕ) → Filed t → Encodes t (meant t)
filed-encodes t f = record { room = f.sound.room; alike = alike_refl (meant t); beside = f.sound.beside; listed = f.listed }
