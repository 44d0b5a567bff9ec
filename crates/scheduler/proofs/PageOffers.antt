-- From what an offer found to what it promises. Assumes nothing.
use Prim.Native.Nat.{ℕ, ◌≤◌, ◌<◌, max}
use native.Mathlib.Omega.{arith}
use mathlib.Core.Path.{◌≡◌, refl, sym, ap, subst, ◌∙◌}
use mathlib.Core.Bool.{Bool, true, false}
use mathlib.Core.List.{List}
use mathlib.Core.Option.{Option, none, some}
use lib.Dec.{leb, eqb}
use lib.ListN.{length}
use borrow.Author.Tests.{eqb-true, le-leb, lt-leb}
use Rattle.std.specs.Prelude.{if◌then◌else◌}
use Rattle.rules.specs.State.{any_holds}
use Rattle.rules.specs.Setup.{Setup}
use Rattle.rules.specs.Calls.{refused}
use Rattle.rules.specs.Reads.{number, place_of}
use Rattle.rules.specs.declared.Refusal.{Refusal}
use Rattle.rules.specs.declared.Refusal.TheVariants.{NotGood}
use Rattle.pages.specs.Device.{Page, offer, unread, answered, in_force_now, waits_now, in_force_of, newest_edition, DeviceOutcome, do_offer, device_step, device_step_by}
use Rattle.page.specs.Read.{read_page, page_reply, page_read, PageReply, page_refused}
use Rattle.page.specs.Promises.{PagesWithin, PageRefusesInside}
use Rattle.page.specs.declared.Reading.{Reading}
use Rattle.page.proofs.Promises.{pages-within, refuses-inside}
use Rattle.plan.specs.Judge.{known_format}
use Rattle.plan.specs.Read.{settings}
use Rattle.editions.specs.Part.{last_in, new_in, plan_of, waiting_in}
use Rattle.table.specs.Means.{meant}
use Rattle.paged.specs.Paged.{part_of, device_of, EncodesDevice, GoodUnit}
use Rattle.paged.specs.Settles.{LeadsDevice}
use Rattle.paged.proofs.Units.{device-encoded}
use Rattle.scheduler.specs.Step.{UnitStep, place_in, offered, offered_as, offering, OfferStep}
use Rattle.std.specs.Prelude.{Result, Ok, Err}
use Rattle.scheduler.specs.declared.Offered.{Offered}
use Rattle.scheduler.specs.declared.Offered.TheVariants.{InForce, Waits}
use Rattle.scheduler.specs.declared.NotTaken.{NotTaken}
use Rattle.scheduler.specs.declared.NotTaken.TheVariants.{Old, Refused}
use Rattle.scheduler.proofs.Steps.{bad-step, unit-step}

-- ---- a page that was read

-- where no page waits the word of its edition is 0
newest_is : (p : List ℕ) → newest_edition (last_in p) (waiting_in p) ≡ max (last_in p) (new_in p)
unfolding waiting_in newest_edition
newest_is p = go (eqb (new_in p) 0) refl
  where
    go : (b : Bool) → eqb (new_in p) 0 ≡ b
        → newest_edition (last_in p) (if b then none else some (record { edition = new_in p; settings = (plan_of p).lanes })) ≡ max (last_in p) (new_in p)
    go true e = omega (arith, eqb-true (new_in p) 0 e)
    go false e = refl

module _ (t : List ℕ) (q : Page) (g : GoodUnit t) where
  abbrev newest_test : Bool
  newest_test = leb q.edition (newest_edition (last_in (part_of t)) (waiting_in (part_of t)))

  old : (q.edition ≤ max (last_in (part_of t)) (new_in (part_of t))) → newest_test ≡ true
  old h = le-leb q.edition (newest_edition (last_in (part_of t)) (waiting_in (part_of t))) (omega (arith, newest_is (part_of t)))

  above : last_in (part_of t) < q.edition → new_in (part_of t) < q.edition → newest_test ≡ false
  above h k = lt-leb q.edition (newest_edition (last_in (part_of t)) (waiting_in (part_of t))) (omega (arith, newest_is (part_of t)))

  old-is : newest_test ≡ true → device_step (device_of t) (offer q) ≡ record { reply = answered (refused 60 none); device = device_of t }
  unfolding device_step_by do_offer device_of
  old-is h = rw h

  waits-is : newest_test ≡ false → any_holds (meant t).lanes ≡ true
      → device_step (device_of t) (offer q) ≡ record { reply = waits_now; device = record { state = meant t; edition = last_in (part_of t); waiting = some q } }
  unfolding device_step_by do_offer device_of
  waits-is h k = rw (h, k)

  forced-is : newest_test ≡ false → any_holds (meant t).lanes ≡ false → device_step (device_of t) (offer q) ≡ record { reply = in_force_now; device = in_force_of q }
  unfolding device_step_by do_offer device_of
  forced-is h k = rw (h, k)

  pub offer-old : q.edition ≤ max (last_in (part_of t)) (new_in (part_of t)) → UnitStep (offer q) t (offering (Err Old)) t
  offer-old h =
      let is = old-is (old h) in
      unit-step (offer q) t (offering (Err Old)) t g (sym (ap (λ (o : DeviceOutcome). o.reply) is))
      (subst (λ (o : DeviceOutcome). EncodesDevice t o.device) (sym is) (device-encoded t g)) refl refl refl

  pub offer-waits : (u : List ℕ) → last_in (part_of t) < q.edition → new_in (part_of t) < q.edition → any_holds (meant t).lanes ≡ true → length u ≡ length t
      → LeadsDevice t u (record { state = meant t; edition = last_in (part_of t); waiting = some q }) → UnitStep (offer q) t (offering (Ok Waits)) u
  offer-waits u h k any len l =
      let is = waits-is (above h k) any in
      unit-step (offer q) t (offering (Ok Waits)) u g (sym (ap (λ (o : DeviceOutcome). o.reply) is))
      (subst (λ (o : DeviceOutcome). EncodesDevice u o.device) (sym is) l.encodes) tt l.rest len

  pub offer-forced : (u : List ℕ) → last_in (part_of t) < q.edition → new_in (part_of t) < q.edition → any_holds (meant t).lanes ≡ false → length u ≡ length t
      → LeadsDevice t u (in_force_of q) → UnitStep (offer q) t (offering (Ok InForce)) u
  offer-forced u h k any len l =
      let is = forced-is (above h k) any in
      unit-step (offer q) t (offering (Ok InForce)) u g (sym (ap (λ (o : DeviceOutcome). o.reply) is))
      (subst (λ (o : DeviceOutcome). EncodesDevice u o.device) (sym is) l.encodes) tt l.rest len

-- ---- the bytes of a page

module _ (bytes : List ℕ) (r : Reading) (e : page_reply (Ok r) ≡ read_page bytes) where
  pub read-page-good : Setup (settings r.plan) × (known_format r.plan.format ≡ true)
  unfolding PagesWithin
  read-page-good = let w = pages-within bytes r.edition r.plan.format (settings r.plan) r.plan.count (sym e) in (w.setup, w.known)

  pub offer-read : (t u : List ℕ) (o : Result Offered NotTaken)
      → UnitStep (offer (record { edition = r.edition; settings = settings r.plan })) t (offering o) u → OfferStep bytes t o u
  offer-read t u o p = subst (λ (x : PageReply). UnitStep (offered_as x) t (offering o) u) e p

pub offer-bad : (bytes t : List ℕ) (x : Refusal) → (GoodUnit t → ⊥) × (x ≡ NotGood) → OfferStep bytes t (Err (Refused x)) t
offer-bad bytes t x h = bad-step (offered bytes) t x h

pub offer-refused : (bytes : List ℕ) (x : Refusal) (t : List ℕ) → page_reply (Err x) ≡ read_page bytes → GoodUnit t → OfferStep bytes t (Err (Refused x)) t
unfolding PageRefusesInside device_step_by
offer-refused bytes x t e g =
    let at = refuses-inside bytes (number x) (place_of x) (sym e) in
    let placed : place_of x ≡ some (place_in (place_of x)) = at.is ∙ ap (λ (p : Option ℕ). some (place_in p)) (sym at.is) in
    subst (λ (y : PageReply). UnitStep (offered_as y) t (offering (Err (Refused x))) t) e
    (unit-step (unread (number x) (place_in (place_of x))) t (offering (Err (Refused x))) t g (ap (λ (p : Option ℕ). answered (refused (number x) p)) placed) (device-encoded t g) refl refl refl)
