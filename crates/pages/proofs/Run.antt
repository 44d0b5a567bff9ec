-- What every call keeps, of a unit and the events that made it. Assumes nothing.
use Prim.Native.Nat.{ℕ, ◌<◌, max}
use native.Mathlib.Omega.{arith}
use mathlib.Core.Path.{◌≡◌, refl, sym, ap, subst, ◌∙◌}
use mathlib.Core.Bool.{true, false, false≢true}
use mathlib.Core.List.{List, [], ◌∷◌, ◌++◌, append_assoc, append-nil}
use mathlib.Core.Option.{Option, none, some}
use lib.Dec.{leb}
use lib.ListN.{length, length-map, get_or}
use borrow.Author.Tests.{leb-false}
use Rattle.units.proofs.Bools.{if-ind, not-passed}
use Rattle.rules.specs.State.{Setting, no_setting, some?, Lane, State, holds, lane_at, any_holds}
use Rattle.rules.specs.Setup.{Setup}
use Rattle.rules.specs.Calls.{Call, refused, idle, fresh, step}
use Rattle.rules.specs.Runs.{Event}
use Rattle.rules.proofs.Live.{some_holds}
use Rattle.waiting.proofs.Laws.{first-nothing}
use Rattle.rules.proofs.Bounds.{idle-at}
use Rattle.rules.proofs.SameSetup.{same_setup, fresh-setup}
use Rattle.rules.proofs.AlwaysGood.{Reached, fresh-reached, step-reached, reached-good}
use Rattle.pages.specs.Device.{Page, Device, start_page, in_force_of, fresh_device, DeviceCall, ruled, offer, unread, answered, in_force_now, waits_now, DeviceOutcome, settled_device, newest_edition, do_offer, device_step, device_step_by}
use Rattle.pages.specs.Offers.{device_after, DeviceEvent, event_of, device_trace, Read, AllRead, of_rule, of_rules, any_held, accepted_page, newest, free_from, page_in, device_after_by, device_trace_by}
use Rattle.pages.specs.Claims.{GoodPage, own_page}
use Rattle.pages.proofs.Parts.{Cleared, cleared-nil, Part, part-fresh, part_step, part-cleared}
use Rattle.pages.proofs.PartHeld.{any_held_lem}
use Rattle.pages.proofs.Events.{rules-one, newest-one, page-one}

-- the page last accepted, by the unit itself
unfoldable pub newest_of : Device → Option Page → Page
newest_of d none = own_page d
newest_of d (some p) = p

pub record Run (gs : List Setting) (past : List DeviceEvent) (d : Device) : Type 0 where
  pub reached : Reached d.state
  pub part : Part (of_rules past) d.state
  pub waiting : GoodPage d d.waiting
  pub newest_is : newest_of d d.waiting ≡ newest (start_page gs) past
  pub page : own_page d ≡ page_in gs past

-- ---- what a fresh state holds

fresh-idle : (gs : List Setting) (k : ℕ) → holds (lane_at (fresh gs) k) ≡ false
unfolding fresh idle
fresh-idle gs k = ap (λ (l : Lane). holds l) (idle-at gs k) ∙ ap some? (first-nothing (get_or gs k no_setting).shared)

pub fresh-none : (gs : List Setting) → any_holds (fresh gs).lanes ≡ false
fresh-none gs = not-passed (any_holds (fresh gs).lanes) (λ t. let o = some_holds (fresh gs).lanes t in false≢true (sym (fresh-idle gs o.0) ∙ o.1))

pub size : (s : State) → Reached s → length s.lanes ≡ 64
size s r = sym (length-map s.lanes (λ (l : Lane). l.given)) ∙ (reached-good s r).setup.size

-- no lane holds a record by the count, just where none does in the state
pub held-is : (past : List DeviceEvent) (s : State) → Reached s → Part (of_rules past) s → any_held past ≡ any_holds s.lanes
unfolding any_held
held-is past s r p = any_held_lem (of_rules past) s p (size s r)

-- where nothing is held no page waits
free-newest : (d : Device) (w : Option Page) → GoodPage d w → any_holds d.state.lanes ≡ false → newest_of d w ≡ own_page d
unfolding newest_of GoodPage
free-newest d none g e = refl
free-newest d (some p) g e = absurd (false≢true (sym e ∙ g.0))

-- ---- one event more

module _ (gs : List Setting) (past : List DeviceEvent) (e : DeviceEvent) where
  abbrev next : List DeviceEvent
  next = past ++ (e ∷ [])

  make : (d : Device) → Reached d.state → Part (of_rules past ++ of_rule e.call e.reply) d.state → GoodPage d d.waiting
      → newest_of d d.waiting ≡ accepted_page (newest (start_page gs) past) e.call e.reply
      → (any_holds d.state.lanes ≡ true → own_page d ≡ page_in gs past) → Run gs next d
  make d r p w n same =
      let part : Part (of_rules next) d.state = subst (λ (es : List Event). Part es d.state) (sym (rules-one past e)) p in
      let new : newest_of d d.waiting ≡ newest (start_page gs) next = n ∙ sym (newest-one (start_page gs) past e) in
      record {
        reached = r;
        part = part;
        waiting = w;
        newest_is = new;
        page = if-ind (λ (x : Page). own_page d ≡ x) (any_held next) (page_in gs past) (newest (start_page gs) next)
            (λ t. same (sym (held-is next d.state r part) ∙ t))
            (λ t. sym (free-newest d d.waiting w (sym (held-is next d.state r part) ∙ t)) ∙ new)
            ∙ sym (page-one gs past e);
      }

  -- a page comes into force
  pub turn : (p : Page) → Setup p.settings → Cleared (of_rules past ++ of_rule e.call e.reply)
      → p ≡ accepted_page (newest (start_page gs) past) e.call e.reply → Run gs next (in_force_of p)
  unfolding in_force_of newest_of GoodPage
  turn p s even n =
      make (in_force_of p) (fresh-reached p.settings s) (part-fresh p.settings (of_rules past ++ of_rule e.call e.reply) even) tt
      (ap (λ (x : List Setting). record { edition = p.edition; settings = x }) (fresh-setup p.settings) ∙ n)
      (λ t. absurd (false≢true (sym (fresh-none p.settings) ∙ t)))

  -- nothing happens
  quiet : (d : Device) → Run gs past d → of_rule e.call e.reply ≡ [] → accepted_page (newest (start_page gs) past) e.call e.reply ≡ newest (start_page gs) past
      → Run gs next d
  quiet d r none_of same =
      make d r.reached
      (subst (λ (es : List Event). Part es d.state) (sym (ap (λ (x : List Event). of_rules past ++ x) none_of ∙ append-nil (of_rules past))) r.part)
      r.waiting (r.newest_is ∙ sym same) (λ t. r.page)

-- an edition that is not refused is above the last taken
pub above : (n m : ℕ) (w : Option Page) → leb m (newest_edition n w) ≡ false → n < m
unfolding newest_edition
above n m none t = leb-false m n t
above n m (some p) t = omega (arith, leb-false m (max n p.edition) t)

-- ---- every call

module _ (gs : List Setting) (past : List DeviceEvent) (d : Device) (r : Run gs past d) where
  after-rule : (c : Call) (w : Option Page) → GoodPage d w → newest_of d w ≡ newest (start_page gs) past
      → Run gs (past ++ (record { call = ruled c; reply = answered (step d.state c).reply } ∷ [])) (settled_device (step d.state c).state d.edition w)
  unfolding settled_device newest_of GoodPage accepted_page of_rule
  after-rule c none g n =
      let s' = (step d.state c).state in
      let own : own_page (record { state = s'; edition = d.edition; waiting = none }) ≡ own_page d
      = ap (λ (x : List Setting). record { edition = d.edition; settings = x }) (same_setup d.state c) in
      make gs past _ (record { state = s'; edition = d.edition; waiting = none }) (step-reached d.state c r.reached) (part_step (of_rules past) d.state c r.part) tt
      (own ∙ n) (λ t. own ∙ r.page)
  after-rule c (some p) g n =
      let s' = (step d.state c).state in
      let e : DeviceEvent = record { call = ruled c; reply = answered (step d.state c).reply } in
      if-ind (λ (x : Device). Run gs (past ++ (e ∷ [])) x) (any_holds s'.lanes) _ _
      (λ t.
      make gs past e (record { state = s'; edition = d.edition; waiting = some p }) (step-reached d.state c r.reached) (part_step (of_rules past) d.state c r.part)
      (t, g.1, g.2) n (λ u. ap (λ (x : List Setting). record { edition = d.edition; settings = x }) (same_setup d.state c) ∙ r.page))
      (λ t. turn gs past e p g.1 (part-cleared _ s' (part_step (of_rules past) d.state c r.part) t) n)

  module _ (p : Page) (s : Setup p.settings) where
    abbrev Then : DeviceOutcome → Type 0
    Then o = Run gs (past ++ (record { call = offer p; reply = o.reply } ∷ [])) o.device

    refuse : Then (record { reply = answered (refused 60 none); device = d })
    unfolding of_rule accepted_page
    refuse = quiet gs past _ d r refl refl

    wait : any_holds d.state.lanes ≡ true → d.edition < p.edition
        → Then (record { reply = waits_now; device = record { state = d.state; edition = d.edition; waiting = some p } })
    unfolding of_rule accepted_page newest_of GoodPage
    wait t lt =
        make gs past _ (record { state = d.state; edition = d.edition; waiting = some p }) r.reached
        (subst (λ (es : List Event). Part es d.state) (sym (append-nil (of_rules past))) r.part) (t, s, lt) refl (λ u. r.page)

    enter : any_holds d.state.lanes ≡ false → Then (record { reply = in_force_now; device = in_force_of p })
    unfolding of_rule accepted_page
    enter t = turn gs past _ p s (subst Cleared (sym (append-nil (of_rules past))) (part-cleared (of_rules past) d.state r.part t)) refl

    after-offer : Then (do_offer d p)
    unfolding do_offer
    after-offer =
        if-ind Then (leb p.edition (newest_edition d.edition d.waiting)) _ _ (λ t. refuse)
        (λ t. if-ind Then (any_holds d.state.lanes) _ _ (λ u. wait u (above d.edition p.edition d.waiting t)) enter)

  pub step_run : (c : DeviceCall) → Read c → Run gs (past ++ (event_of d c ∷ [])) (device_step d c).device
  unfolding device_step_by Read of_rule accepted_page
  step_run (ruled c) h = after-rule c d.waiting r.waiting r.newest_is
  step_run (offer p) h = after-offer p h
  step_run (unread n at) h = quiet gs past _ d r refl refl

-- ---- every list of calls

pub run : (gs : List Setting) (past : List DeviceEvent) (d : Device) (cs : List DeviceCall) → Run gs past d → AllRead cs
    → Run gs (past ++ device_trace d cs) (device_after d cs)
unfolding device_trace_by device_after_by AllRead
run gs past d [] r h = subst (λ (es : List DeviceEvent). Run gs es d) (sym (append-nil past)) r
run gs past d (c ∷ cs) r h =
    let d' = (device_step d c).device in
    subst (λ (es : List DeviceEvent). Run gs es (device_after d' cs)) (append_assoc past (event_of d c ∷ []) (device_trace d' cs))
    (run gs (past ++ (event_of d c ∷ [])) d' cs (step_run gs past d r c h.0) h.1)

fresh-run : (gs : List Setting) → Setup gs → Run gs [] (fresh_device gs)
unfolding in_force_of newest_of GoodPage newest page_in free_from of_rules
fresh-run gs s =
    let own : own_page (fresh_device gs) ≡ start_page gs = ap (λ (x : List Setting). record { edition = 0; settings = x }) (fresh-setup gs) in
    record { reached = fresh-reached gs s; part = part-fresh gs [] cleared-nil; waiting = tt; newest_is = own; page = own }

pub run-all : (gs : List Setting) → Setup gs → (cs : List DeviceCall) → AllRead cs → Run gs (device_trace (fresh_device gs) cs) (device_after (fresh_device gs) cs)
run-all gs s cs h = run gs [] (fresh_device gs) cs (fresh-run gs s) h
