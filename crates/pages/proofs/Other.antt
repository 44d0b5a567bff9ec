-- Other rules that give the same answers from every fresh state give the same answers under pages: each part begins with a fresh state of its own. The state
-- inside may differ (an endless clock), so only which lanes hold records is compared. Assumes nothing.
use Prim.Native.Nat.{ℕ}
use mathlib.Core.Path.{◌≡◌, refl, sym, ap, subst, ◌∙◌}
use mathlib.Core.Bool.{Bool, true, false, false≢true}
use mathlib.Core.List.{List, [], ◌∷◌, ◌++◌}
use mathlib.Core.Option.{Option, none, some}
use lib.Dec.{leb}
use Rattle.std.specs.Prelude.{if◌then◌else◌}
use Rattle.units.proofs.Bools.{not-passed}
use Rattle.waiting.specs.Waiting.{Waiting, first}
use Rattle.rules.specs.State.{Setting, State, some?, lane_at, any_holds, holds}
use Rattle.rules.specs.Setup.{Setup}
use Rattle.rules.specs.Calls.{Call, refused, fresh, step}
use Rattle.rules.specs.Runs.{Event, after, trace}
use Rattle.rules.specs.Endless.{Rules, after_by, trace_by, endless, Beside, EndlessClock}
use Rattle.rules.proofs.AlwaysGood.{endless-clock}
use Rattle.rules.proofs.Live.{some_holds, holds-some}
use Rattle.rules.proofs.Runs.{after-append}
use Rattle.pages.specs.Device.{Page, Device, in_force_of, fresh_device, DeviceCall, ruled, offer, unread, DeviceReply, answered, in_force_now, waits_now, DeviceOutcome, settled_device, newest_edition, do_offer, device_step, device_step_by}
use Rattle.pages.specs.Offers.{device_after_by, device_after, DeviceEvent, device_trace, Read, AllRead, device_trace_by}
use Rattle.pages.specs.Other.{SameRules, SameUnits, EndlessPages}

any_same : (s t : State) → ((k : ℕ) → holds (lane_at s k) ≡ holds (lane_at t k)) → any_holds s.lanes ≡ any_holds t.lanes
any_same s t e = go (any_holds t.lanes) refl
  where
    go : (b : Bool) → any_holds t.lanes ≡ b → any_holds s.lanes ≡ any_holds t.lanes
    go true h = let o = some_holds t.lanes h in holds-some s.lanes o.0 (e o.0 ∙ o.1) ∙ sym h
    go false h =
        not-passed (any_holds s.lanes)
        (λ u. let o = some_holds s.lanes u in false≢true (sym h ∙ holds-some t.lanes o.0 (sym (e o.0) ∙ o.1)))
        ∙ sym h

unfoldable WaitingRead : Option Page → Type 0
WaitingRead none = Unit {0}
WaitingRead (some p) = Setup p.settings

module _ (go : Rules) (same : SameRules go) where
  after_one : (s : State) (cs : List Call) (c : Call) → after_by go s (cs ++ (c ∷ [])) ≡ (go (after_by go s cs) c).state
  unfolding after_by
  after_one s [] c = refl
  after_one s (x ∷ cs) c = after_one (go s x).state cs c

  last-reply : (s t : State) (cs : List Call) (c : Call) → trace_by go s (cs ++ (c ∷ [])) ≡ trace t (cs ++ (c ∷ [])) → (go (after_by go s cs) c).reply ≡ (step (after t cs) c).reply
  unfolding after_by trace_by after trace
  last-reply s t [] c e =
      let one : ◌≡◌ {A = Event} (record { call = c; reply = (go s c).reply }) (record { call = c; reply = (step t c).reply }) = cc in
      ap (λ (x : Event). x.reply) one
  last-reply s t (x ∷ cs) c e = last-reply (go s x).state (step t x).state cs c cc

  -- e by the other rules, d by the rules: both in the same part
  record SamePart (e d : Device) : Type 0 where
    edition : e.edition ≡ d.edition
    waiting : e.waiting ≡ d.waiting
    read : WaitingRead d.waiting
    given : List Setting
    setup : Setup given
    now : List Call
    other : e.state ≡ after_by go (fresh given) now
    own : d.state ≡ after (fresh given) now

  beside-any : (e d : Device) → SamePart e d → any_holds e.state.lanes ≡ any_holds d.state.lanes
  unfolding SameRules
  beside-any e d b =
      any_same e.state d.state
      (λ k. ap (λ (s : State). holds (lane_at s k)) b.other ∙ (same b.given b.setup b.now).1 k ∙ ap (λ (s : State). holds (lane_at s k)) (sym b.own))

  beside-fresh : (p : Page) → Setup p.settings → SamePart (in_force_of p) (in_force_of p)
  unfolding in_force_of WaitingRead after_by after
  beside-fresh p s = record { edition = refl; waiting = refl; read = tt; given = p.settings; setup = s; now = []; other = refl; own = refl }

  settle-beside : (s t : State) (n : ℕ) (w : Option Page) → SamePart (record { state = s; edition = n; waiting = w }) (record { state = t; edition = n; waiting = w })
      → SamePart (settled_device s n w) (settled_device t n w)
  unfolding settled_device WaitingRead
  settle-beside s t n none b = b
  settle-beside s t n (some p) b = rw (beside-any _ _ b) (go_on (any_holds t.lanes))
    where
      go_on : (x : Bool) → SamePart (if x then record { state = s; edition = n; waiting = some p } else in_force_of p) (if x then record { state = t; edition = n; waiting = some p } else in_force_of p)
      go_on true = b
      go_on false = beside-fresh p b.read

  record Both (o u : DeviceOutcome) : Type 0 where
    reply : o.reply ≡ u.reply
    beside : SamePart o.device u.device

  rule-both : (e d : Device) (c : Call) → SamePart e d → Both (device_step_by go e (ruled c)) (device_step d (ruled c))
  unfolding device_step_by SameRules after
  rule-both e d c b =
      let f = fresh b.given in
      let all = same b.given b.setup (b.now ++ (c ∷ [])) in
      let reply : (go e.state c).reply ≡ (step d.state c).reply
      = ap (λ (s : State). (go s c).reply) b.other ∙ last-reply f f b.now c all.0 ∙ ap (λ (s : State). (step s c).reply) (sym b.own) in
      let next : SamePart (record { state = (go e.state c).state; edition = d.edition; waiting = d.waiting }) (record { state = (step d.state c).state; edition = d.edition; waiting = d.waiting })
      = record {
        edition = refl;
        waiting = refl;
        read = b.read;
        given = b.given;
        setup = b.setup;
        now = b.now ++ (c ∷ []);
        other = ap (λ (s : State). (go s c).state) b.other ∙ sym (after_one f b.now c);
        own = ap (λ (s : State). (step s c).state) b.own ∙ sym (after-append f b.now (c ∷ []));
      } in
      record {
        reply = ap answered reply;
        beside = rw (b.edition, b.waiting) (settle-beside (go e.state c).state (step d.state c).state d.edition d.waiting next);
      }

  offer-both : (e d : Device) (p : Page) → Setup p.settings → SamePart e d → Both (do_offer e p) (do_offer d p)
  unfolding do_offer WaitingRead
  offer-both e d p s b =
      rw (b.edition, b.waiting, beside-any e d b) (go_on (leb p.edition (newest_edition d.edition d.waiting)) (any_holds d.state.lanes))
    where
      go_on : (x y : Bool)
          → Both
          (if x then record { reply = answered (refused 60 none); device = record { state = e.state; edition = d.edition; waiting = d.waiting } }
          else if y then record { reply = waits_now; device = record { state = e.state; edition = d.edition; waiting = some p } }
          else record { reply = in_force_now; device = in_force_of p })
          (if x then record { reply = answered (refused 60 none); device = d }
          else if y then record { reply = waits_now; device = record { state = d.state; edition = d.edition; waiting = some p } }
          else record { reply = in_force_now; device = in_force_of p })
      go_on true y = record { reply = refl; beside = record { edition = refl; waiting = refl; read = b.read; given = b.given; setup = b.setup; now = b.now; other = b.other; own = b.own } }
      go_on false true = record { reply = refl; beside = record { edition = refl; waiting = refl; read = s; given = b.given; setup = b.setup; now = b.now; other = b.other; own = b.own } }
      go_on false false = record { reply = refl; beside = beside-fresh p s }

  step_both : (e d : Device) (c : DeviceCall) → Read c → SamePart e d → Both (device_step_by go e c) (device_step d c)
  unfolding device_step_by Read
  step_both e d (ruled c) r b = rule-both e d c b
  step_both e d (offer p) r b = offer-both e d p r b
  step_both e d (unread n at) r b = record { reply = refl; beside = b }

  same-trace : (e d : Device) (cs : List DeviceCall) → AllRead cs → SamePart e d → device_trace_by go e cs ≡ device_trace d cs
  unfolding device_trace_by AllRead
  same-trace e d [] r b = refl
  same-trace e d (c ∷ cs) r b =
      let s = step_both e d c r.0 b in
      ap (λ (x : DeviceReply). record { call = c; reply = x } ∷ device_trace_by go (device_step_by go e c).device cs) s.reply
      ∙ ap (λ (es : List DeviceEvent). record { call = c; reply = (device_step d c).reply } ∷ es) (same-trace (device_step_by go e c).device (device_step d c).device cs r.1 s.beside)

  run-both : (e d : Device) (cs : List DeviceCall) → AllRead cs → SamePart e d → SamePart (device_after_by go e cs) (device_after d cs)
  unfolding device_after_by AllRead
  run-both e d [] r b = b
  run-both e d (c ∷ cs) r b = run-both (device_step_by go e c).device (device_step d c).device cs r.1 (step_both e d c r.0 b).beside

  pub same_units : SameUnits go
  unfolding SameUnits
  same_units gs s cs r = same-trace (fresh_device gs) (fresh_device gs) cs r (beside-fresh (record { edition = 0; settings = gs }) s)

-- ---- the endless clock

endless-same : SameRules endless
unfolding SameRules EndlessClock
endless-same gs s cs =
    let e = endless-clock gs s cs in (
      sym e.0,
      λ k. ap (λ (w : Waiting). some? (first w)) (e.1.1.lane k).waiting,
    )

pub endless-pages : EndlessPages
unfolding EndlessPages SameUnits EndlessClock
endless-pages gs s cs r =
    let b = run-both endless endless-same (fresh_device gs) (fresh_device gs) cs r (beside-fresh endless endless-same (record { edition = 0; settings = gs }) s) in
    let n = (endless-clock b.given b.setup b.now).1 in (
      sym (same_units endless endless-same gs s cs r),
      record {
        edition = b.edition;
        waiting = b.waiting;
        by = n.0;
        state = subst (λ (x : State). Beside n.0 x (device_after_by endless (fresh_device gs) cs).state) (sym b.own) (subst (Beside n.0 (after (fresh b.given) b.now)) (sym b.other) n.1);
      },
    )
