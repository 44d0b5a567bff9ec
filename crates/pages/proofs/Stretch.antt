-- A stretch in which a lane holds records throughout: no page comes into force in it, and it is a stretch of the rules. Assumes nothing.
use Prim.Native.Nat.{ℕ}
use mathlib.Core.Path.{◌≡◌, refl, sym, ap, subst, ◌∙◌}
use mathlib.Core.Bool.{Bool, true, false, false≢true}
use mathlib.Core.List.{List, [], ◌∷◌, ◌++◌, append_assoc, append-nil}
use mathlib.Core.Option.{Option, none, some}
use lib.Dec.{leb}
use Rattle.std.specs.Prelude.{if◌then◌else◌}
use Rattle.units.proofs.Bools.{if-ind}
use Rattle.rules.specs.State.{Setting, State, holds, lane_at, any_holds}
use Rattle.rules.specs.Setup.{Setup}
use Rattle.rules.specs.Calls.{Call, fresh, step}
use Rattle.rules.specs.Runs.{Event, after, trace}
use Rattle.rules.specs.Fair.{Holding}
use Rattle.rules.specs.Even.{HoldingTrain}
use Rattle.rules.proofs.Live.{holds-some}
use Rattle.rules.proofs.Runs.{trace-append}
use Rattle.rules.proofs.AlwaysGood.{reached-good}
use Rattle.pages.specs.Device.{Page, Device, start_page, in_force_of, fresh_device, DeviceCall, ruled, offer, unread, DeviceOutcome, settled_device, newest_edition, do_offer, device_step, device_step_by}
use Rattle.pages.specs.Offers.{device_after, DeviceEvent, event_of, device_trace, AllRead, of_rule, of_rules, Held, any_held, newest, page_in, in_force, device_after_by, device_trace_by}
use Rattle.pages.specs.Claims.{HeldThroughout, OnePart, InOnePart, SameSetupThroughout}
use Rattle.pages.proofs.Parts.{part-setup}
use Rattle.pages.proofs.PartHeld.{held-holds, cancel, cancel-train}
use Rattle.pages.proofs.Events.{plain-append, page-one, device-split, cut}
use Rattle.pages.proofs.Run.{Run, fresh-none, held-is, step_run, run-all}

-- ---- a call after which a lane holds a record

-- in one call after which lane k holds a record no page comes into force
pub held-page : (gs : List Setting) (past : List DeviceEvent) (e : DeviceEvent) (d : Device) (k : ℕ) → Run gs (past ++ (e ∷ [])) d → Held k (past ++ (e ∷ []))
    → page_in gs (past ++ (e ∷ [])) ≡ page_in gs past
held-page gs past e d k r h =
    let t : any_held (past ++ (e ∷ [])) ≡ true
    = held-is (past ++ (e ∷ [])) d.state r.reached r.part ∙ holds-some d.state.lanes k (held-holds _ d.state k r.part h) in
    page-one gs past e ∙ ap (λ (b : Bool). if b then page_in gs past else newest (start_page gs) (past ++ (e ∷ []))) t

stays-rule : (s : State) (n k : ℕ) (w : Option Page) → holds (lane_at (settled_device s n w).state k) ≡ true → (settled_device s n w).state ≡ s
unfolding settled_device in_force_of
stays-rule s n k none h = refl
stays-rule s n k (some p) h = go (any_holds s.lanes) h
  where
    go : (b : Bool) → holds (lane_at (if b then record { state = s; edition = n; waiting = some p } else in_force_of p).state k) ≡ true
        → (if b then record { state = s; edition = n; waiting = some p } else in_force_of p).state ≡ s
    go true t = refl
    go false t = absurd (false≢true (sym (fresh-none p.settings) ∙ holds-some (fresh p.settings).lanes k t))

stays-offer : (d : Device) (p : Page) (k : ℕ) → holds (lane_at (do_offer d p).device.state k) ≡ true → (do_offer d p).device.state ≡ d.state
unfolding do_offer in_force_of
stays-offer d p k =
    if-ind (λ (o : DeviceOutcome). holds (lane_at o.device.state k) ≡ true → o.device.state ≡ d.state) (leb p.edition (newest_edition d.edition d.waiting)) _ _
    (λ t h. refl)
    (λ t.
    if-ind (λ (o : DeviceOutcome). holds (lane_at o.device.state k) ≡ true → o.device.state ≡ d.state) (any_holds d.state.lanes) _ _ (λ u h. refl)
    (λ u h. absurd (false≢true (sym (fresh-none p.settings) ∙ holds-some (fresh p.settings).lanes k h))))

-- the calls of the rules in a list
calls_of : List DeviceCall → List Call
calls_of [] = []
calls_of (ruled c ∷ cs) = c ∷ calls_of cs
calls_of (offer p ∷ cs) = calls_of cs
calls_of (unread n at ∷ cs) = calls_of cs

module _ (gs : List Setting) (k : ℕ) where
  tail-held : (past : List DeviceEvent) (e : DeviceEvent) (es : List DeviceEvent) → HeldThroughout k past (e ∷ es) → HeldThroughout k (past ++ (e ∷ [])) es
  tail-held past e es h p q x =
      subst (Held k) (sym (append_assoc past (e ∷ []) p)) (h (e ∷ p) q (ap (λ (y : List DeviceEvent). e ∷ y) x))

  first-held : (past : List DeviceEvent) (e : DeviceEvent) (es : List DeviceEvent) → HeldThroughout k past (e ∷ es) → Held k (past ++ (e ∷ []))
  first-held past e es h = h (e ∷ []) es refl

  -- the rules' events of the stretch are those of the rules' calls from the state before it
  one-part : (past : List DeviceEvent) (d : Device) (cs : List DeviceCall) → Run gs past d → AllRead cs → HeldThroughout k past (device_trace d cs)
      → of_rules (device_trace d cs) ≡ trace d.state (calls_of cs)
  unfolding device_trace_by device_after_by AllRead device_step_by of_rules of_rule trace calls_of
  one-part past d [] r a h = refl
  one-part past d (ruled c ∷ cs) r a h =
      let d' = (device_step d (ruled c)).device in
      let r' = step_run gs past d r (ruled c) a.0 in
      let stay : d'.state ≡ (step d.state c).state
      = stays-rule (step d.state c).state d.edition k d.waiting (held-holds _ d'.state k r'.part (first-held past (event_of d (ruled c)) (device_trace d' cs) h)) in
      ap (λ (es : List Event). record { call = c; reply = (step d.state c).reply } ∷ es)
      (one-part (past ++ (event_of d (ruled c) ∷ [])) d' cs r' a.1 (tail-held past (event_of d (ruled c)) (device_trace d' cs) h) ∙ ap (λ (s : State). trace s (calls_of cs)) stay)
  one-part past d (offer p ∷ cs) r a h =
      let d' = (device_step d (offer p)).device in
      let r' = step_run gs past d r (offer p) a.0 in
      let stay : d'.state ≡ d.state
      = stays-offer d p k (held-holds _ d'.state k r'.part (first-held past (event_of d (offer p)) (device_trace d' cs) h)) in
      one-part (past ++ (event_of d (offer p) ∷ [])) d' cs r' a.1 (tail-held past (event_of d (offer p)) (device_trace d' cs) h) ∙ ap (λ (s : State). trace s (calls_of cs)) stay
  one-part past d (unread n at ∷ cs) r a h =
      one-part (past ++ (event_of d (unread n at) ∷ [])) d cs (step_run gs past d r (unread n at) a.0) a.1
      (tail-held past (event_of d (unread n at)) (device_trace d cs) h)

  same-page : (past : List DeviceEvent) (d : Device) (cs : List DeviceCall) → Run gs past d → AllRead cs → HeldThroughout k past (device_trace d cs)
      → page_in gs (past ++ device_trace d cs) ≡ page_in gs past
  unfolding device_trace_by AllRead
  same-page past d [] r a h = ap (page_in gs) (append-nil past)
  same-page past d (c ∷ cs) r a h =
      let d' = (device_step d c).device in
      let r' = step_run gs past d r c a.0 in
      ap (page_in gs) (sym (append_assoc past (event_of d c ∷ []) (device_trace d' cs)))
      ∙ same-page (past ++ (event_of d c ∷ [])) d' cs r' a.1 (tail-held past (event_of d c) (device_trace d' cs) h)
      ∙ held-page gs past (event_of d c) d' k r' (first-held past (event_of d c) (device_trace d' cs) h)

-- a stretch in which lane k holds records throughout lies in one part
inside : (gs : List Setting) (k : ℕ) (past : List DeviceEvent) (d : Device) (cs : List DeviceCall) → Run gs past d → AllRead cs → HeldThroughout k past (device_trace d cs)
    → OnePart gs past (device_trace d cs)
inside gs k past d cs r a h =
    let part = r.part in
    let g : List Setting = in_force gs past in
    let own : part.given ≡ g = sym (part-setup (of_rules past) d.state part) ∙ ap (λ (x : Page). x.settings) r.page in
    let es = of_rules (device_trace d cs) in
    let t = trace (fresh g) part.now in
    let state : d.state ≡ after (fresh g) part.now = part.state ∙ ap (λ (x : List Setting). after (fresh x) part.now) own in
    let events : of_rules past ≡ part.old ++ t = part.events ∙ ap (λ (x : List Setting). part.old ++ trace (fresh x) part.now) own in
    let in-part : es ≡ trace (after (fresh g) part.now) (calls_of cs) = one-part gs k past d cs r a h ∙ ap (λ (s : State). trace s (calls_of cs)) state in
    record {
      setup = subst Setup (part-setup (of_rules past) d.state part ∙ own) (reached-good d.state r.reached).setup;
      before = part.now;
      during = calls_of cs;
      events = trace-append (fresh g) part.now (calls_of cs) ∙ ap (λ (x : List Event). t ++ x) (sym in-part) ∙ sym (append-nil (t ++ es));
      holding = λ j any_held p q e.
          let c = cut (device_trace d cs) p q e in
          let here : of_rules (past ++ c.before) ≡ part.old ++ (t ++ p)
          = plain-append past c.before ∙ ap (λ (x : List Event). of_rules past ++ x) c.plain_is ∙ ap (λ (x : List Event). x ++ p) events ∙ append_assoc part.old t p in
          cancel j part.old (t ++ p) part.even (subst (Holding j) here (any_held c.before c.behind c.all));
      trains = λ j n any_held p q e.
          let c = cut (device_trace d cs) p q e in
          let here : of_rules (past ++ c.before) ≡ part.old ++ (t ++ p)
          = plain-append past c.before ∙ ap (λ (x : List Event). of_rules past ++ x) c.plain_is ∙ ap (λ (x : List Event). x ++ p) events ∙ append_assoc part.old t p in
          cancel-train j n part.old (t ++ p) part.even (subst (HoldingTrain j n) here (any_held c.before c.behind c.all));
    }

-- the unit before the stretch, and the calls of the stretch
pub record Stretch (gs : List Setting) (past stretch : List DeviceEvent) : Type 0 where
  pub device : Device
  pub calls : List DeviceCall
  pub run : Run gs past device
  pub read : AllRead calls
  pub is : device_trace device calls ≡ stretch

pub stretch-of : (gs : List Setting) → Setup gs → (cs : List DeviceCall) → AllRead cs → (past stretch rest : List DeviceEvent)
    → device_trace (fresh_device gs) cs ≡ past ++ stretch ++ rest → Stretch gs past stretch
stretch-of gs s cs a past stretch rest e =
    let all = device-split (fresh_device gs) cs (past ++ stretch) rest a e in
    let two = device-split (fresh_device gs) all.calls past stretch all.calls_read all.past_is in
    record {
      device = device_after (fresh_device gs) two.calls;
      calls = two.more;
      run = subst (λ (es : List DeviceEvent). Run gs es (device_after (fresh_device gs) two.calls)) two.past_is (run-all gs s two.calls two.calls_read);
      read = two.more_read;
      is = two.rest_is;
    }

pub in-one-part : InOnePart
unfolding InOnePart
in-one-part gs s cs a past stretch rest e k h =
    let x = stretch-of gs s cs a past stretch rest e in
    subst (OnePart gs past) x.is (inside gs k past x.device x.calls x.run x.read (subst (HeldThroughout k past) (sym x.is) h))

stretch-page : (gs : List Setting) (k : ℕ) (past stretch : List DeviceEvent) → Stretch gs past stretch → HeldThroughout k past stretch
    → page_in gs (past ++ stretch) ≡ page_in gs past
stretch-page gs k past stretch x h =
    subst (λ (es : List DeviceEvent). page_in gs (past ++ es) ≡ page_in gs past) x.is
    (same-page gs k past x.device x.calls x.run x.read (subst (HeldThroughout k past) (sym x.is) h))

pub same-setup-throughout : SameSetupThroughout
unfolding SameSetupThroughout
same-setup-throughout gs s cs a past stretch rest e k h p q pq =
    let cut-there : device_trace (fresh_device gs) cs ≡ past ++ p ++ (q ++ rest)
    = e ∙ ap (λ (y : List DeviceEvent). past ++ y ++ rest) (sym pq) ∙ ap (λ (y : List DeviceEvent). y ++ rest) (sym (append_assoc past p q)) ∙ append_assoc (past ++ p) q rest in
    stretch-page gs k past p (stretch-of gs s cs a past p (q ++ rest) cut-there)
    (λ p' q' t. h p' (q' ++ q) (sym (append_assoc p' q' q) ∙ ap (λ (y : List DeviceEvent). y ++ q) t ∙ pq))
