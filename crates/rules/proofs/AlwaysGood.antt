-- R6.13: all states that calls make from a fresh one are good, and each stands beside one of the endless rules. `Twins` is what every call keeps and a fresh
-- state has; it gives `Good`, and is stronger: not every call on every good state leaves a good one. Assumes nothing.
use Prim.Native.Nat.{ℕ, ◌+◌, ◌*◌, ◌<◌}
use native.Mathlib.Omega.{arith}
use mathlib.Core.Path.{◌≡◌, refl, sym, ap, subst, ◌∙◌}
use mathlib.Core.Bool.{Bool, true, false}
use mathlib.Core.List.{List, [], ◌∷◌, map}
use mathlib.Core.Option.{Option, none, some}
use Rattle.std.specs.Prelude.{if◌then◌else◌}
use Rattle.rules.specs.State.{clock_step, Rec, Setting, setting_at, Lane, State, slot, finish_r, some?, first_of, holds, lane_at, setup_of}
use Rattle.rules.specs.Setup.{Setup, margin, framing_of}
use Rattle.rules.specs.Calls.{Call, fresh, step, idle, shifted}
use Rattle.rules.specs.Runs.{after, Event, trace}
use Rattle.rules.specs.Good.{Times, Good}
use Rattle.rules.proofs.Lane.{slot-most, slot-pos}
use Rattle.rules.proofs.Claim.{LaneOk, Queued, Inv}
use Rattle.rules.specs.Endless.{after_by, trace_by, endless, endless_after, endless_trace, LaneBeside, Beside, EndlessClock, ClockStays}
use Rattle.rules.proofs.Bounds.{fresh-inv, lower}
use Rattle.rules.proofs.Keep.{Kept, step_kept}
use Rattle.rules.proofs.SameSetup.{same_setup, fresh-setup, setting-lane}
use Rattle.rules.proofs.Figures.{longest-most, framing-most, setup-ok}
use Rattle.rules.proofs.Range.{fresh-range, step_range}
use Rattle.rules.proofs.RangeTake.{Range, LanesOk}
use Rattle.rules.proofs.Live.{Live, fresh-live, step-live}
use Rattle.rules.proofs.Kind.{AllKind, fresh-kind, step-kind}
use Rattle.rules.proofs.Ties.{Tied, fresh-tied, step-tied}
use Rattle.rules.proofs.Beside.{same_beside}
use Rattle.rules.proofs.BesideCalls.{shifted-beside, step-beside}
use Rattle.rules.proofs.GoodShift.{small-lanes, good-above, sees, holds-beside, live-beside}

-- the state s by the rules, and t by the endless rules
pub record Twins (n : ℕ) (s t : State) : Type 0 where
  pub setup : Setup (setup_of s)
  pub range : Range s
  pub tied : Tied s
  pub kind : AllKind s
  pub beside : Beside n s t
  pub kept : Kept (margin (framing_of (setup_of s))) t
  pub live : Live t

-- ---- each lane of s, by its twin

queued-back : (g : Setting) (S F S' F' d : ℕ) (q : Option Rec) → (some? q ≡ true → S' ≡ S + d) → (some? q ≡ true → F' ≡ F + d) → Queued g S' F' q → Queued g S F q
queued-back g S F S' F' d none a b h = tt
queued-back g S F S' F' d (some r) a b h = (h.0, omega (arith, h.1, a refl, b refl), h.2)

lane-ok : (M d v : ℕ) (l m : Lane) → LaneBeside d v l m → LaneOk M (v + d) m → LaneOk M v l
lane-ok M d v l m b k = record {
  queued = queued-back l.given l.start l.finish m.start m.finish d (first_of l) b.start b.finish (rw (b.given, b.waiting) at k.queued);
  waiting = rw (b.given, b.waiting) at k.waiting;
  below = go (holds l) refl (rw (b.given, b.waiting) at k.below);
  short = rw b.given at k.short;
}
  where
    go : (x : Bool) → holds l ≡ x → (if holds l then m.start else m.finish) < v + d + 2 * slot l.given → (if x then l.start else l.finish) < v + 2 * slot l.given
    go true e h = omega (arith, b.start e, rw e at h)
    go false e h = omega (arith, b.idle e, rw e at h, slot-pos l.given)

pub lanes-ok : (M n : ℕ) (s t : State) → Beside n s t → Kept M t → LanesOk M s
lanes-ok M n s t b inv k = lane-ok M (n * clock_step) s.clock (lane_at s k) (lane_at t k) (b.lane k) (subst (λ (v : ℕ). LaneOk M v (lane_at t k)) b.clock (inv.ok k))

-- ---- what is reached is good

numbers : (M v : ℕ) (l : Lane) (o : Option Rec) → first_of l ≡ o → LaneOk M v l → (0 < l.given.weight → M ≡ margin l.given.framing) → (holds l ≡ true → v < finish_r l + M) → Times v l o
numbers M v l none e k same low = subst (λ (b : Bool). (if b then l.start else l.finish) < v + 2 * slot l.given) (ap some? e) k.below
numbers M v l (some r) e k same low = (
  (subst (Queued l.given l.start l.finish) e k.queued).1,
  subst (λ (b : Bool). (if b then l.start else l.finish) < v + 2 * slot l.given) (ap some? e) k.below,
  omega (arith, low (ap some? e), same (subst (Queued l.given l.start l.finish) e k.queued).0),
)

pub twins-good : (n : ℕ) (s t : State) → Twins n s t → Good s
unfolding Live Tied
twins-good n s t r =
    let M : ℕ = margin (framing_of (setup_of s)) in
    let ok = lanes-ok M n s t r.beside r.kept in
    let small = small-lanes s r.setup in
    record {
      setup = r.setup;
      waiting = λ k. (ok k).waiting;
      kind = r.kind;
      clock = omega (arith, r.range.clock);
      numbers = λ k. numbers M s.clock (lane_at s k) (first_of (lane_at s k)) refl (ok k)
          (λ h. ap margin (sym (subst (λ (g : Setting). 0 < g.weight → g.framing ≡ framing_of (setup_of s)) (setting-lane s k) (r.setup.framed k) h)))
          (λ e.
          omega (
            arith,
            lower M t.clock t.lanes r.kept k (holds-beside n s t r.beside small k ∙ e),
            (sees n s t r.beside small k).start e,
            r.beside.clock,
            ap slot (r.beside.lane k).given,
          ));
      live = live-beside n s t r.beside small r.live;
      order = r.tied;
    }

-- ---- every call, and every list of calls

pub record Next (c : Call) (s t : State) : Type 0 where
  pub reply : (step s c).reply ≡ (endless t c).reply
  pub by : ℕ
  pub twins : Twins by (step s c).state (endless t c).state

pub step-twins : (n : ℕ) (s t : State) (c : Call) → Twins n s t → Next c s t
step-twins n s t c r =
    let M : ℕ = margin (framing_of (setup_of s)) in
    let good = twins-good n s t r in
    let above = good-above s good in
    let x = step-beside n s t r.beside (small-lanes s r.setup) above good.waiting c in
    let u = shifted-beside n s t r.beside above in
    record {
      reply = x.reply;
      by = x.by;
      twins = record {
        setup = subst Setup (sym (same_setup s c)) r.setup;
        range = step_range M (omega (arith, r.setup.framing_high)) s c (lanes-ok M n s t r.beside r.kept) (lanes-ok M u.0 (shifted s) t u.1 r.kept) r.range;
        tied = step-tied s c good.waiting r.tied;
        kind = step-kind s c r.kind;
        beside = x.beside;
        kept = subst (λ (x : List Setting). Kept (margin (framing_of x)) (endless t c).state) (sym (same_setup s c)) (step_kept M t c r.kept);
        live = step-live t c (λ k. (r.kept.ok k).waiting) r.live;
      };
    }

pub fresh-twins : (gs : List Setting) → Setup gs → Twins 0 (fresh gs) (fresh gs)
unfolding fresh
fresh-twins gs s = record {
  setup = subst Setup (sym (fresh-setup gs)) s;
  range = fresh-range gs (omega (arith, s.size)) (λ k. slot-most (setting_at gs k) (longest-most gs s k) (framing-most gs s k));
  tied = fresh-tied gs;
  kind = fresh-kind gs;
  beside = same_beside (fresh gs);
  kept = subst (λ (x : List Setting). Inv (margin (framing_of x)) 0 (map idle gs)) (sym (fresh-setup gs)) (fresh-inv (margin (framing_of gs)) gs (setup-ok gs s));
  live = fresh-live gs;
}

pub run-twins : (n : ℕ) (s t : State) (cs : List Call) → Twins n s t → (m : ℕ) × Twins m (after s cs) (endless_after t cs)
unfolding after after_by
run-twins n s t [] r = (n, r)
run-twins n s t (c ∷ cs) r = let x = step-twins n s t c r in run-twins x.by (step s c).state (endless t c).state cs x.twins

-- every answer is the one that the endless clock gives
pub same-answers : (n : ℕ) (s t : State) (cs : List Call) → Twins n s t → trace s cs ≡ endless_trace t cs
unfolding trace trace_by
same-answers n s t [] r = refl
same-answers n s t (c ∷ cs) r =
    let x = step-twins n s t c r in
    rw x.reply (ap (λ (es : List Event). record { call = c; reply = (endless t c).reply } ∷ es) (same-answers x.by (step s c).state (endless t c).state cs x.twins))

pub endless-clock : EndlessClock
unfolding EndlessClock
endless-clock gs s calls =
    let x = run-twins 0 (fresh gs) (fresh gs) calls (fresh-twins gs s) in
    (same-answers 0 (fresh gs) (fresh gs) calls (fresh-twins gs s), (x.0, x.1.beside))

pub clock-stays : ClockStays
unfolding ClockStays
clock-stays gs s calls = let x = run-twins 0 (fresh gs) (fresh gs) calls (fresh-twins gs s) in omega (arith, x.1.range.clock)

-- ---- the same of the state by the rules alone

pub record Reached (s : State) : Type 0 where
  pub by : ℕ
  pub twin : State
  pub twins : Twins by s twin

pub fresh-reached : (gs : List Setting) → Setup gs → Reached (fresh gs)
fresh-reached gs s = record { by = 0; twin = fresh gs; twins = fresh-twins gs s }

pub step-reached : (s : State) (c : Call) → Reached s → Reached (step s c).state
step-reached s c r = let x = step-twins r.by s r.twin c r.twins in record { by = x.by; twin = (endless r.twin c).state; twins = x.twins }

pub reached : (s : State) (cs : List Call) → Reached s → Reached (after s cs)
unfolding after
reached s [] r = r
reached s (c ∷ cs) r = reached (step s c).state cs (step-reached s c r)

pub reached-good : (s : State) → Reached s → Good s
reached-good s r = twins-good r.by s r.twin r.twins

pub reached-live : (s : State) → Reached s → Live s
unfolding Live
reached-live s r = (reached-good s r).live

-- every state that calls make from a fresh one of a setup within the numbers is good
pub always-good : (gs : List Setting) → Setup gs → (cs : List Call) → Good (after (fresh gs) cs)
always-good gs s cs = reached-good (after (fresh gs) cs) (reached (fresh gs) cs (fresh-reached gs s))
