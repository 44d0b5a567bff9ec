-- How a list of calls begins. Assumes nothing.
use Prim.Native.Nat.{ℕ, ◌<◌}
use native.Mathlib.Omega.{arith}
use mathlib.Core.Path.{◌≡◌, refl, sym, subst, ◌∙◌}
use mathlib.Core.Bool.{Bool, true, false, false≢true}
use mathlib.Core.List.{List, [], ◌∷◌}
use mathlib.Core.Option.{Option, none, some}
use lib.Dec.{eqb}
use borrow.Author.Tests.{eqb-true, eqb-false, lt-leb}
use Rattle.std.specs.Prelude.{if◌then◌else◌}
use Rattle.rules.specs.State.{Setting, State, setup_of, any_holds}
use Rattle.rules.specs.Setup.{Setup}
use Rattle.rules.specs.Calls.{restart, restarted, no, fresh, do_restart, step}
use Rattle.rules.specs.Reads.{reads}
use Rattle.rules.specs.declared.Answer.{Answer}
use Rattle.std.specs.Prelude.{Result}
use Rattle.rules.specs.declared.Refusal.{Refusal}
use Rattle.pages.specs.Device.{Page, fresh_device, in_force_of, offer, DeviceOutcome, in_force_now, newest_edition, do_offer, device_step, device_step_by}
use Rattle.pages.specs.Offers.{device_after_by, device_trace_by, Read, AllRead}
use Rattle.pages.proofs.Run.{fresh-none}
use Rattle.plan.specs.Read.{SetupReply}
use Rattle.plan.proofs.Accepted.{accepted-whole}
use Rattle.editions.specs.Part.{last_in, waiting_in, GoodWait}
use Rattle.table.specs.Means.{meant}
use Rattle.paged.specs.Paged.{part_of, device_of, EncodesDevice, GoodUnit}
use Rattle.paged.proofs.Units.{device-encoded}
use Rattle.scheduler.specs.Step.{Step}
use Rattle.scheduler.specs.Make.{TableBySetup}
use Rattle.scheduler.specs.Chain.{Begins, Led}
use Rattle.scheduler.specs.Demands.{own_offer}
use Rattle.scheduler.proofs.Steps.{step-says, others-stay}
use Rattle.scheduler.proofs.Chains.{led-by, led-fresh}

pub by-make : (gs : List Setting) (t : List ℕ) → Begins gs t → Led gs [] t
by-make gs t b =
    led-fresh gs t
    (accepted-whole b.setup b.format gs b.lanes b.at b.reads_it).0.setup
    (subst (λ (y : SetupReply). TableBySetup y b.before b.answer t) b.reads_it (b.makes.follows b.room)).1

-- ---- restart

-- an accepted restart finds nothing held, and leaves the fresh state of the same setup
restart-state : (s : State) → (step s restart).reply ≡ restarted → ((step s restart).state ≡ fresh (setup_of s)) × (any_holds s.lanes ≡ false)
unfolding step do_restart
restart-state s = go (any_holds s.lanes)
  where
    go : (b : Bool) → (if b then no 15 s else record { reply = restarted; state = fresh (setup_of s) }).reply ≡ restarted
        → ((if b then no 15 s else record { reply = restarted; state = fresh (setup_of s) }).state ≡ fresh (setup_of s)) × (b ≡ false)
    go true e = let z : ◌≡◌ {A = ℕ} 0 1 = cc in absurd (omega arith)
    go false e = (refl, refl)

-- so no page waits
none-waits : (n : ℕ) (w : Option Page) → GoodWait false n w → w ≡ none
unfolding GoodWait
none-waits n none g = refl
none-waits n (some p) g = absurd (false≢true g.0)

-- a page that is offered to a fresh unit
own_is : (n : ℕ) (gs : List Setting) → 0 < n → device_step (fresh_device gs) (offer (record { edition = n; settings = gs })) ≡ record { reply = in_force_now; device = in_force_of (record { edition = n; settings = gs }) }
unfolding device_step_by do_offer in_force_of newest_edition
own_is n gs h = rw (lt-leb n 0 h, fresh-none gs)

led-own : (n : ℕ) (gs : List Setting) (t : List ℕ) → Setup gs → EncodesDevice t (in_force_of (record { edition = n; settings = gs })) → Led gs (own_offer n gs) t
unfolding own_offer device_trace_by device_after_by AllRead Read
led-own n gs t s e = go (eqb n 0) refl
  where
    at : Page
    at = record { edition = n; settings = gs }

    go : (b : Bool) → eqb n 0 ≡ b → Led gs (if b then [] else record { call = offer at; reply = in_force_now } ∷ []) t
    go true z = led-fresh gs t s (subst (λ (k : ℕ). EncodesDevice t (in_force_of (record { edition = k; settings = gs }))) (eqb-true n 0 z) e)
    go false z =
        let is = own_is n gs (omega (arith, eqb-false n 0 z)) in
        subst (λ (o : DeviceOutcome). Led gs (record { call = offer at; reply = o.reply } ∷ []) t) is
        (led-by gs (offer at ∷ []) t s (s, tt) (subst (λ (o : DeviceOutcome). EncodesDevice t o.device) (sym is) e))

pub by-restart : (before t : List ℕ) (a : Result Answer Refusal) → GoodUnit before → Step restart before a t → reads a ≡ restarted
    → Led (setup_of (meant before)) (own_offer (last_in (part_of before)) (setup_of (meant before))) t
unfolding in_force_of
by-restart before t a g p e =
    let s = meant before in
    let n = last_in (part_of before) in
    let is = restart-state s (sym (step-says restart before (reads a) t g p) ∙ e) in
    let free : waiting_in (part_of before) ≡ none = none-waits n (waiting_in (part_of before)) (subst (λ (b : Bool). GoodWait b n (waiting_in (part_of before))) is.1 g.part.page) in
    let left : EncodesDevice t (record { state = (step s restart).state; edition = n; waiting = waiting_in (part_of before) }) =
    subst (EncodesDevice t) (others-stay restart before refl g) (p.device g (device_of before) (device-encoded before g)) in
    led-own n (setup_of s) t g.core.good.setup (forced (step s restart).state (waiting_in (part_of before)) is.0 free left)
  where
    forced : (s' : State) (w : Option Page) → s' ≡ fresh (setup_of (meant before)) → w ≡ none → EncodesDevice t (record { state = s'; edition = last_in (part_of before); waiting = w })
        → EncodesDevice t (in_force_of (record { edition = last_in (part_of before); settings = setup_of (meant before) }))
    forced s' w e f h =
        subst (λ (x : Option Page). EncodesDevice t (record { state = fresh (setup_of (meant before)); edition = last_in (part_of before); waiting = x })) f
        (subst (λ (x : State). EncodesDevice t (record { state = x; edition = last_in (part_of before); waiting = w })) e h)
