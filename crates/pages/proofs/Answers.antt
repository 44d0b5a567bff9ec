-- What is answered and kept: every device is good, the page in force is the one that is counted, order is kept, a refused call changes nothing.
-- Assumes nothing.
use Prim.Native.Nat.{ℕ}
use native.Mathlib.Omega.{arith}
use mathlib.Core.Path.{◌≡◌, refl, sym, ap, subst, ◌∙◌}
use mathlib.Core.Bool.{Bool, true, false, false≢true}
use mathlib.Core.List.{List, [], ◌∷◌, ◌++◌, append_assoc}
use mathlib.Core.Option.{Option, none, some}
use lib.Dec.{leb}
use Rattle.std.specs.Prelude.{if◌then◌else◌}
use Rattle.units.proofs.Bools.{if-ind}
use Rattle.rules.specs.State.{Rec, State, any_holds}
use Rattle.rules.specs.Calls.{Call, put, take, look, sets, lag, restart, refused, Outcome, put_refusal, put_of, do_put, Pick, picked, take_of, do_take, do_look, do_sets, do_restart, step}
use Rattle.rules.proofs.Live.{holds-some}
use Rattle.rules.proofs.Keep.{look-same, lag-same}
use Rattle.rules.proofs.AlwaysGood.{reached-good}
use Rattle.pages.specs.Device.{Page, Device, fresh_device, DeviceCall, ruled, offer, unread, answered, in_force_now, DeviceOutcome, settled_device, newest_edition, do_offer, device_step, device_step_by}
use Rattle.pages.specs.Offers.{device_after, DeviceEvent, event_of, device_trace, AllRead, of_rules, Held, page_in, device_trace_by}
use Rattle.pages.specs.Claims.{GoodPage, AlwaysGoodDevice, InForceCounted, InOrderPages, RefusedKeeps, OfferAnswers, FreeAtChange}
use Rattle.pages.proofs.Parts.{part-order}
use Rattle.pages.proofs.PartHeld.{held-holds}
use Rattle.pages.proofs.Stretch.{held-page, stretch-of}
use Rattle.pages.proofs.Run.{newest_of, Run, held-is, step_run, run-all}

-- ---- good, the page in force, order

pub always-good-device : AlwaysGoodDevice
unfolding AlwaysGoodDevice
always-good-device gs s cs h = let r = run-all gs s cs h in record { state = reached-good _ r.reached; waiting = r.waiting }

pub in-force : InForceCounted
unfolding InForceCounted
in-force gs s cs h = (run-all gs s cs h).page

pub in-order-pages : InOrderPages
unfolding InOrderPages
in-order-pages gs s cs h k t = part-order _ _ (run-all gs s cs h).part k t

-- ---- a refused call changes nothing

module _ (s : State) (n : ℕ) (at : Option ℕ) where
  abbrev Keeps : Outcome → Type 0
  Keeps o = o.reply ≡ refused n at → o.state ≡ s

  put_keeps : (j : ℕ) (x : Rec) (o : Option ℕ) → Keeps (put_of s j x o)
  unfolding put_of
  put_keeps j x (some m) e = refl
  put_keeps j x none e = let z : ◌≡◌ {A = ℕ} 0 1 = cc in absurd (omega arith)

  take-keeps : (o : Option Pick) → Keeps (take_of s o)
  unfolding take_of
  take-keeps none e = refl
  take-keeps (some p) e = let z : ◌≡◌ {A = ℕ} 0 1 = cc in absurd (omega arith)

  restart-keeps : Keeps (do_restart s)
  unfolding do_restart
  restart-keeps = if-ind Keeps (any_holds s.lanes) _ _ (λ t e. refl) (λ t e. let z : ◌≡◌ {A = ℕ} 0 1 = cc in absurd (omega arith))

  step_keeps : (c : Call) → Keeps (step s c)
  unfolding step do_put do_take do_look do_sets
  step_keeps (put j k m l) e = put_keeps j (record { train = k; mark = m; len = l }) (put_refusal s j (record { train = k; mark = m; len = l })) e
  step_keeps take e = take-keeps (picked s) e
  step_keeps look e = look-same s (picked s)
  step_keeps sets e = refl
  step_keeps (lag j) e = lag-same s j
  step_keeps restart e = restart-keeps e

settled-keeps : (d : Device) (w : Option Page) → GoodPage d w → settled_device d.state d.edition w ≡ record { state = d.state; edition = d.edition; waiting = w }
unfolding settled_device GoodPage
settled-keeps d none g = refl
settled-keeps d (some p) g = simp g.0

module _ (d : Device) (n : ℕ) (at : Option ℕ) where
  abbrev Same : DeviceOutcome → Type 0
  Same o = o.reply ≡ answered (refused n at) → o.device ≡ d

  offer-keeps : (p : Page) → Same (do_offer d p)
  unfolding do_offer
  offer-keeps p =
      if-ind Same (leb p.edition (newest_edition d.edition d.waiting)) _ _ (λ t e. refl)
      (λ t. if-ind Same (any_holds d.state.lanes) _ _ (λ u e. let z : ◌≡◌ {A = ℕ} 0 1 = cc in absurd (omega arith)) (λ u e. let z : ◌≡◌ {A = ℕ} 0 1 = cc in absurd (omega arith)))

pub refused-keeps : RefusedKeeps
unfolding RefusedKeeps device_step_by
refused-keeps d g (ruled c) n at e =
    ap (λ (s : State). settled_device s d.edition d.waiting) (step_keeps d.state n at c cc) ∙ settled-keeps d d.waiting g.waiting
refused-keeps d g (offer p) n at e = offer-keeps d n at p e
refused-keeps d g (unread m l) n at e = refl

-- ---- what an offer answers, and that nothing is held where a page comes into force

newest-edition : (d : Device) (w : Option Page) → GoodPage d w → newest_edition d.edition w ≡ (newest_of d w).edition
unfolding newest_edition newest_of GoodPage
newest-edition d none g = refl
newest-edition d (some p) g = omega (arith, g.2)

replies : (b c : Bool) (x y z : DeviceOutcome)
    → (if◌then◌else◌ {A = DeviceOutcome} b x (if c then y else z)).reply ≡ (if b then x.reply else if c then y.reply else z.reply)
replies true c x y z = refl
replies false true x y z = refl
replies false false x y z = refl

pub offer-answers : OfferAnswers
unfolding OfferAnswers device_step_by do_offer
offer-answers gs s cs a p =
    let d = device_after (fresh_device gs) cs in
    let es = device_trace (fresh_device gs) cs in
    let r = run-all gs s cs a in
    rw (held-is es d.state r.reached r.part, ← r.newest_is, ← newest-edition d d.waiting r.waiting)
    (replies (leb p.edition (newest_edition d.edition d.waiting)) (any_holds d.state.lanes) _ _ _)

in-force-free : (d : Device) (c : DeviceCall) → (device_step d c).reply ≡ in_force_now → any_holds d.state.lanes ≡ false
unfolding device_step_by do_offer
in-force-free d (ruled c) e = let z : ◌≡◌ {A = ℕ} 0 1 = cc in absurd (omega arith)
in-force-free d (unread n at) e = let z : ◌≡◌ {A = ℕ} 0 1 = cc in absurd (omega arith)
in-force-free d (offer p) e =
    if-ind (λ (o : DeviceOutcome). o.reply ≡ in_force_now → any_holds d.state.lanes ≡ false) (leb p.edition (newest_edition d.edition d.waiting)) _ _
    (λ t f. let z : ◌≡◌ {A = ℕ} 0 1 = cc in absurd (omega arith))
    (λ t.
    if-ind (λ (o : DeviceOutcome). o.reply ≡ in_force_now → any_holds d.state.lanes ≡ false) (any_holds d.state.lanes) _ _
    (λ u f. let z : ◌≡◌ {A = ℕ} 0 1 = cc in absurd (omega arith))
    (λ u f. u))
    e

pub free-at-change : FreeAtChange
unfolding FreeAtChange device_trace_by AllRead
free-at-change gs s cs a past rest e x =
    let t = stretch-of gs s cs a past (e ∷ []) rest (x ∙ sym (append_assoc past (e ∷ []) rest)) in
    go t.device t.calls t.run t.read t.is
  where
    go : (d : Device) (cs : List DeviceCall) → Run gs past d → AllRead cs → device_trace d cs ≡ e ∷ []
        → ((k : ℕ) → Held k (past ++ (e ∷ [])) → page_in gs (past ++ (e ∷ [])) ≡ page_in gs past) × (e.reply ≡ in_force_now → (k : ℕ) → Held k past → ⊥)
    go d [] r a t = let z : ◌≡◌ {A = ℕ} 0 1 = cc in absurd (omega arith)
    go d (c ∷ cs) r a t =
        let first : event_of d c ≡ e = cc in (
          λ k h. held-page gs past e (device_step d c).device k (subst (λ (y : DeviceEvent). Run gs (past ++ (y ∷ [])) (device_step d c).device) first (step_run gs past d r c a.0)) h,
          λ f k h. false≢true (sym (in-force-free d c (ap (λ (y : DeviceEvent). y.reply) first ∙ f)) ∙ holds-some d.state.lanes k (held-holds (of_rules past) d.state k r.part h)),
        )
