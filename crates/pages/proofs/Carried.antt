-- The other promises, of lists with offers: each from the state before the call, which `Run` gives. Assumes nothing.
use Prim.Native.Nat.{ℕ}
use native.Mathlib.Omega.{arith}
use mathlib.Core.Path.{◌≡◌, refl, sym, ap, subst, ◌∙◌}
use mathlib.Core.Bool.{true, false, false≢true}
use mathlib.Core.List.{List, [], ◌∷◌, ◌++◌, append_assoc, map}
use mathlib.Core.Logic.{◌⊎◌, inl, inr}
use mathlib.Core.Option.{Option, none, some}
use lib.Dec.{leb}
use Rattle.units.proofs.Bools.{if-ind, not-passed}
use Rattle.rules.specs.State.{Setting, State, any_holds}
use Rattle.rules.specs.Calls.{Call, fresh, restarted, take_of, do_take, take, restart, refused, Pick, picked, do_restart, step}
use Rattle.rules.specs.Runs.{Event, trace, after}
use Rattle.rules.proofs.Live.{Live, some_holds, holds-some, nothing-held}
use Rattle.rules.proofs.NotTen.{NotTen, step-not-ten}
use Rattle.rules.proofs.Keep.{PickIs, pick_is}
use Rattle.rules.proofs.AlwaysGood.{Reached, reached-good}
use Rattle.std.specs.Prelude.{if◌then◌else◌}
use Rattle.pages.specs.Device.{Page, Device, start_page, fresh_device, DeviceReply, in_force_of, DeviceCall, ruled, offer, unread, answered, DeviceOutcome, settled_device, newest_edition, do_offer, device_step, device_step_by}
use Rattle.pages.specs.Offers.{device_after, DeviceEvent, event_of, device_trace, Read, AllRead, of_rule, of_rules, any_held, accepted_page, newest, free_from, page_in, device_after_by, device_trace_by}
use Rattle.pages.specs.Claims.{GoodDevice, RefusedKeeps}
use Rattle.pages.specs.Carried.{RestartHeldPages, NeverTenPages, HandsOut, DrainsPages, WithoutOffers}
use Rattle.pages.proofs.PartHeld.{held-holds}
use Rattle.pages.proofs.Run.{Run}
use Rattle.pages.proofs.Stretch.{stretch-of}
use Rattle.pages.proofs.Answers.{refused-keeps}

-- ---- restart

restart-no : (d : Device) → any_holds d.state.lanes ≡ true → (device_step d (ruled restart)).reply ≡ answered (refused 15 none)
unfolding device_step_by step do_restart
restart-no d h = simp h

pub restart-held-pages : RestartHeldPages
unfolding RestartHeldPages device_trace_by
restart-held-pages gs s cs a past rest e x k h c =
    let t = stretch-of gs s cs a past (e ∷ []) rest (x ∙ sym (append_assoc past (e ∷ []) rest)) in
    go t.device t.calls t.run t.is
  where
    go : (d : Device) (cs : List DeviceCall) → Run gs past d → device_trace d cs ≡ e ∷ [] → e.reply ≡ answered (refused 15 none)
    go d [] r t = let z : ◌≡◌ {A = ℕ} 0 1 = cc in absurd (omega arith)
    go d (y ∷ cs) r t =
        let first : event_of d y ≡ e = cc in
        let is : y ≡ ruled restart = ap (λ (u : DeviceEvent). u.call) first ∙ c in
        sym (ap (λ (u : DeviceEvent). u.reply) first)
        ∙ subst (λ (u : DeviceCall). (device_step d u).reply ≡ answered (refused 15 none)) (sym is)
        (restart-no d (holds-some d.state.lanes k (held-holds (of_rules past) d.state k r.part h)))

-- ---- 10

offer-not-ten : (d : Device) (p : Page) (q : Option ℕ) → (do_offer d p).reply ≡ answered (refused 10 q) → ⊥
unfolding do_offer
offer-not-ten d p q =
    if-ind (λ (o : DeviceOutcome). o.reply ≡ answered (refused 10 q) → ⊥) (leb p.edition (newest_edition d.edition d.waiting)) _ _
    (λ t e. let z : ◌≡◌ {A = ℕ} 60 10 = cc in omega arith)
    (λ t.
    if-ind (λ (o : DeviceOutcome). o.reply ≡ answered (refused 10 q) → ⊥) (any_holds d.state.lanes) _ _
    (λ u e. let z : ◌≡◌ {A = ℕ} 0 1 = cc in omega arith) (λ u e. let z : ◌≡◌ {A = ℕ} 0 1 = cc in omega arith))

call-not-ten : (d : Device) (c : DeviceCall) (q : Option ℕ) → Read c → (device_step d c).reply ≡ answered (refused 10 q) → ⊥
unfolding device_step_by Read
call-not-ten d (ruled c) q read e = let r : (step d.state c).reply ≡ refused 10 q = cc in subst NotTen r (step-not-ten d.state c) refl
call-not-ten d (offer p) q read e = offer-not-ten d p q e
call-not-ten d (unread n at) q read e = read (let z : n ≡ 10 = cc in z)

pub never-ten-pages : NeverTenPages
unfolding NeverTenPages device_trace_by AllRead
never-ten-pages gs s cs a past rest e p x ten =
    let t = stretch-of gs s cs a past (e ∷ []) rest (x ∙ sym (append_assoc past (e ∷ []) rest)) in
    go t.device t.calls t.read t.is
  where
    go : (d : Device) (cs : List DeviceCall) → AllRead cs → device_trace d cs ≡ e ∷ [] → ⊥
    go d [] b t = let z : ◌≡◌ {A = ℕ} 0 1 = cc in omega arith
    go d (y ∷ cs) b t = let first : event_of d y ≡ e = cc in call-not-ten d y p b.0 (ap (λ (u : DeviceEvent). u.reply) first ∙ ten)

-- ---- draining

-- a take hands a record out or gives 16
pub take_gives : (s : State) → HandsOut (answered (step s take).reply) ⊎ (answered (step s take).reply ≡ answered (refused 16 none))
unfolding step do_take take_of
take_gives s = go (picked s)
  where
    go : (o : Option Pick) → HandsOut (answered (take_of s o).reply) ⊎ (answered (take_of s o).reply ≡ answered (refused 16 none))
    go none = inr refl
    go (some p) = inl (record { lane = p.lane; train = p.first.train; mark = p.first.mark; len = p.first.len; is = refl })

-- a take that gives 16 finds nothing held
sixteen-free : (s : State) → Reached s → (step s take).reply ≡ refused 16 none → any_holds s.lanes ≡ false
unfolding step do_take take_of Live
sixteen-free s r e = go (picked s) (pick_is s) e
  where
    go : (o : Option Pick) → PickIs s o → (take_of s o).reply ≡ refused 16 none → any_holds s.lanes ≡ false
    go none h t =
        not-passed (any_holds s.lanes)
        (λ u. let o = some_holds s.lanes u in false≢true (sym (nothing-held s (reached-good s r).live h o.0) ∙ o.1))
    go (some p) h t = let z : ◌≡◌ {A = ℕ} 0 1 = cc in absurd (omega arith)

pub restart-yes : (d : Device) → any_holds d.state.lanes ≡ false → (device_step d (ruled restart)).reply ≡ answered restarted
unfolding device_step_by step do_restart
restart-yes d h = simp h

stays : (d : Device) → GoodDevice d → (c : DeviceCall) → (device_step d c).reply ≡ answered (refused 16 none) → (device_step d c).device ≡ d
unfolding RefusedKeeps
stays d g c h = refused-keeps d g c 16 none h

two-calls : (gs : List Setting) (past : List DeviceEvent) (d : Device) (cs : List DeviceCall) (e f : DeviceEvent) → Run gs past d → device_trace d cs ≡ e ∷ f ∷ [] → e.call ≡ ruled take
    → (HandsOut e.reply ⊎ (e.reply ≡ answered (refused 16 none))) × (e.reply ≡ answered (refused 16 none) → f.call ≡ ruled restart → f.reply ≡ answered restarted)
unfolding device_trace_by device_step_by
two-calls gs past d [] e f r t c = let z : ◌≡◌ {A = ℕ} 0 1 = cc in absurd (omega arith)
two-calls gs past d (x ∷ []) e f r t c = let z : ◌≡◌ {A = ℕ} 0 1 = cc in absurd (omega arith)
two-calls gs past d (x ∷ y ∷ cs) e f r t c =
    let first : event_of d x ≡ e = cc in
    let d' = (device_step d x).device in
    let second : event_of d' y ≡ f = cc in
    let is : x ≡ ruled take = ap (λ (u : DeviceEvent). u.call) first ∙ c in
    let answer : answered (step d.state take).reply ≡ e.reply = ap (λ (u : DeviceCall). (device_step d u).reply) (sym is) ∙ ap (λ (u : DeviceEvent). u.reply) first in (
      subst (λ (u : DeviceReply). HandsOut u ⊎ (u ≡ answered (refused 16 none))) answer (take_gives d.state),
      λ none_held r2.
          let no_more : (step d.state take).reply ≡ refused 16 none = let z : answered (step d.state take).reply ≡ answered (refused 16 none) = answer ∙ none_held in cc in
          let free : any_holds d.state.lanes ≡ false = sixteen-free d.state r.reached no_more in
          let same : d' ≡ d = stays d (record { state = reached-good d.state r.reached; waiting = r.waiting }) x (ap (λ (u : DeviceEvent). u.reply) first ∙ none_held) in
          sym (ap (λ (u : DeviceEvent). u.reply) second)
          ∙ ap (λ (u : DeviceCall). (device_step d' u).reply) (ap (λ (u : DeviceEvent). u.call) second ∙ r2)
          ∙ ap (λ (u : Device). (device_step u (ruled restart)).reply) same ∙ restart-yes d free,
    )

pub drains-pages : DrainsPages
unfolding DrainsPages
drains-pages gs s cs a past rest e f x c =
    let t = stretch-of gs s cs a past (e ∷ f ∷ []) rest (x ∙ sym (append_assoc past (e ∷ f ∷ []) rest)) in
    two-calls gs past t.device t.calls e f t.run t.is c

-- ---- a list with no offer

ruled-after : (s : State) (cs : List Call) → device_after (record { state = s; edition = 0; waiting = none }) (map ruled cs) ≡ record { state = after s cs; edition = 0; waiting = none }
unfolding device_after_by device_step_by settled_device after
ruled-after s [] = refl
ruled-after s (c ∷ cs) = ruled-after (step s c).state cs

ruled-plain : (s : State) (cs : List Call) → of_rules (device_trace (record { state = s; edition = 0; waiting = none }) (map ruled cs)) ≡ trace s cs
unfolding device_trace_by device_step_by settled_device trace of_rules of_rule
ruled-plain s [] = refl
ruled-plain s (c ∷ cs) = ap (λ (es : List Event). record { call = c; reply = (step s c).reply } ∷ es) (ruled-plain (step s c).state cs)

-- no event of it is an accepted page
unfoldable NoPage : List DeviceEvent → Type 0
NoPage [] = Unit {0}
NoPage (e ∷ es) = ((p : Page) → accepted_page p e.call e.reply ≡ p) × NoPage es

ruled-none : (d : Device) (cs : List Call) → NoPage (device_trace d (map ruled cs))
unfolding device_trace_by NoPage accepted_page
ruled-none d [] = tt
ruled-none d (c ∷ cs) = (λ p. refl, ruled-none (device_step d (ruled c)).device cs)

none-one : (a : List DeviceEvent) (e : DeviceEvent) → NoPage a → ((p : Page) → accepted_page p e.call e.reply ≡ p) → NoPage (a ++ (e ∷ []))
unfolding NoPage
none-one [] e n h = (h, tt)
none-one (x ∷ a) e n h = (n.0, none-one a e n.1 h)

newest-none : (p : Page) (a : List DeviceEvent) → NoPage a → newest p a ≡ p
unfolding newest NoPage
newest-none p [] n = refl
newest-none p (e ∷ a) n = ap (λ (q : Page). newest q a) (n.0 p) ∙ newest-none p a n.1

free-none : (best past a : List DeviceEvent) → NoPage best → NoPage past → NoPage a → NoPage (free_from best past a)
unfolding free_from NoPage
free-none best past [] b n h = b
free-none best past (e ∷ a) b n h =
    let m = none-one past e n h.0 in
    free-none (if any_held (past ++ (e ∷ [])) then best else (past ++ (e ∷ []))) (past ++ (e ∷ [])) a (if-ind NoPage (any_held (past ++ (e ∷ []))) best (past ++ (e ∷ [])) (λ t. b) (λ t. m)) m h.1

pub without-offers : WithoutOffers
unfolding WithoutOffers in_force_of page_in NoPage
without-offers gs cs = (
  ruled-plain (fresh gs) cs,
  ruled-after (fresh gs) cs,
  newest-none (start_page gs) (free_from [] [] (device_trace (fresh_device gs) (map ruled cs))) (free-none [] [] (device_trace (fresh_device gs) (map ruled cs)) tt tt (ruled-none (fresh_device gs) cs)),
)
