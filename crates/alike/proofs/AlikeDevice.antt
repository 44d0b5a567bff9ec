-- Every call of a unit with pages respects `AlikeDevice`. Assumes nothing.
use Prim.Native.Nat.{ℕ}
use mathlib.Core.Path.{refl, ap, subst}
use mathlib.Core.Bool.{Bool, true, false}
use mathlib.Core.Option.{Option, none, some}
use lib.Dec.{leb}
use Rattle.std.specs.Prelude.{if◌then◌else◌}
use Rattle.rules.specs.State.{State, any_holds}
use Rattle.rules.specs.Calls.{refused, step}
use Rattle.pages.specs.Device.{Page, in_force_of, DeviceCall, ruled, offer, unread, answered, in_force_now, waits_now, settled_device, newest_edition, do_offer, device_step_by, device_step}
use Rattle.pages.specs.Claims.{GoodDevice}
use Rattle.alike.specs.Alike.{Alike}
use Rattle.alike.specs.AlikeDevice.{AlikeDevice, RespectsDevice, DeviceRespects}
use Rattle.alike.proofs.Alike.{alike_refl, step-alike}

settled-alike : (s t : State) → Alike s t → (n : ℕ) (w : Option Page) → AlikeDevice (settled_device s n w) (settled_device t n w)
unfolding settled_device
settled-alike s t a n none = record { state = a; edition = refl; waiting = refl }
settled-alike s t a n (some p) = rw (ap any_holds a.lanes) (go (any_holds t.lanes))
  where
    go : (b : Bool) → AlikeDevice (if b then record { state = s; edition = n; waiting = some p } else in_force_of p) (if b then record { state = t; edition = n; waiting = some p } else in_force_of p)
    go true = record { state = a; edition = refl; waiting = refl }
    go false = record { state = alike_refl (in_force_of p).state; edition = refl; waiting = refl }

offer-alike : (s t : State) → Alike s t → (n : ℕ) (w : Option Page) (p : Page)
    → RespectsDevice (do_offer (record { state = s; edition = n; waiting = w }) p) (do_offer (record { state = t; edition = n; waiting = w }) p)
unfolding do_offer
offer-alike s t a n w p = rw (ap any_holds a.lanes) (go (leb p.edition (newest_edition n w)) (any_holds t.lanes))
  where
    go : (x y : Bool)
        → RespectsDevice
        (if x then record { reply = answered (refused 60 none); device = record { state = s; edition = n; waiting = w } }
        else if y then record { reply = waits_now; device = record { state = s; edition = n; waiting = some p } }
        else record { reply = in_force_now; device = in_force_of p })
        (if x then record { reply = answered (refused 60 none); device = record { state = t; edition = n; waiting = w } }
        else if y then record { reply = waits_now; device = record { state = t; edition = n; waiting = some p } }
        else record { reply = in_force_now; device = in_force_of p })
    go true y = record { reply = refl; device = record { state = a; edition = refl; waiting = refl } }
    go false true = record { reply = refl; device = record { state = a; edition = refl; waiting = refl } }
    go false false = record { reply = refl; device = record { state = alike_refl (in_force_of p).state; edition = refl; waiting = refl } }

-- one edition and one waiting page
same-page : (s t : State) (n : ℕ) (w : Option Page) → GoodDevice (record { state = s; edition = n; waiting = w }) → Alike s t → (c : DeviceCall)
    → RespectsDevice (device_step (record { state = s; edition = n; waiting = w }) c) (device_step (record { state = t; edition = n; waiting = w }) c)
unfolding device_step_by
same-page s t n w g a (ruled c) =
    let r = step-alike s t g.state a c in
    record { reply = ap answered r.reply; device = settled-alike (step s c).state (step t c).state r.state n w }
same-page s t n w g a (offer p) = offer-alike s t a n w p
same-page s t n w g a (unread m at) = record { reply = refl; device = record { state = a; edition = refl; waiting = refl } }

pub device-respects : DeviceRespects
unfolding DeviceRespects
device-respects d e g a c =
    subst (λ (w : Option Page). RespectsDevice (device_step d c) (device_step (record { state = e.state; edition = e.edition; waiting = w }) c)) a.waiting
    (subst (λ (n : ℕ). RespectsDevice (device_step d c) (device_step (record { state = e.state; edition = n; waiting = d.waiting }) c)) a.edition
    (same-page d.state e.state d.edition d.waiting g a.state c))
