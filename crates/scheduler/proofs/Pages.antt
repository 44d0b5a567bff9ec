-- What one call does with settings pages. Assumes nothing.
use mathlib.Core.Path.{◌≡◌, refl, subst}
use mathlib.Core.Bool.{false}
use Rattle.rules.specs.Calls.{Call, put, take, look, sets, lag, restart, step}
use Rattle.pages.specs.Device.{DeviceReply, settled_device, device_step_by}
use Rattle.page.specs.Read.{page_read, PageReply}
use Rattle.page.specs.Promises.{WithoutSkipped}
use Rattle.page.proofs.Promises.{without-skipped}
use Rattle.editions.specs.Part.{last_in, waiting_in}
use Rattle.table.specs.Means.{meant}
use Rattle.paged.specs.Paged.{part_of, device_of, EncodesDevice}
use Rattle.paged.proofs.Units.{device-encoded}
use Rattle.paged.proofs.Settled.{comes}
use Rattle.scheduler.specs.Step.{KeptBy, UnitStep, offered_as, offering}
use Rattle.scheduler.specs.One.{OneAnswer}
use Rattle.scheduler.specs.Pages.{OnlyTakes, LastTake, AsWithout, OfferKeeps}
use Rattle.scheduler.proofs.Steps.{takes, others-stay, step-says}
use Rattle.scheduler.proofs.One.{one_answer}

not-taking : (c : Call) → (c ≡ take → ⊥) → takes c ≡ false
not-taking (put j k m n) h = refl
not-taking take h = absurd (h refl)
not-taking look h = refl
not-taking sets h = refl
not-taking (lag j) h = refl
not-taking restart h = refl

pub only-takes : OnlyTakes
unfolding OnlyTakes
only-takes t u a c h g p =
    let left = subst (EncodesDevice u) (others-stay c t (not-taking c h) g) (p.device g (device_of t) (device-encoded t g)) in
    (left.edition, left.waiting)

pub last-take : LastTake
unfolding LastTake device_step_by device_of
last-take t u a p g st w h =
    let left : EncodesDevice u (settled_device (step (meant t) take).state (last_in (part_of t)) (waiting_in (part_of t))) = st.device g (device_of t) (device-encoded t g) in
    (step-says take t _ u g st, subst (EncodesDevice u) (comes (step (meant t) take).state (last_in (part_of t)) (waiting_in (part_of t)) p w h) left)

pub as-without : AsWithout
unfolding AsWithout WithoutSkipped OneAnswer
as-without edition xs setup ys small hx short hy e format n gs is t u u' o o' known p p' =
    let plain = (without-skipped edition xs setup ys small hx short hy e format gs n).0 is in
    let on : UnitStep (offered_as (page_read e format gs n)) t (offering o) u = subst (λ (r : PageReply). UnitStep (offered_as r) t (offering o) u) is p in
    let off : UnitStep (offered_as (page_read e format gs n)) t (offering o') u' = subst (λ (r : PageReply). UnitStep (offered_as r) t (offering o') u') plain p' in
    one_answer (offered_as (page_read e format gs n)) t known (offering o) (offering o') u u' on off

pub offer-keeps : OfferKeeps
unfolding OfferKeeps
offer-keeps bytes t u o n q p e = subst (λ (r : DeviceReply). KeptBy r t u) e p.unchanged
