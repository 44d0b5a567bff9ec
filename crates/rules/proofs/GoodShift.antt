-- The shift on any good state: nothing is below K that K is taken from, and what is left is a good state. Assumes nothing.
use Prim.Native.Nat.{ℕ, ◌-◌, ◌*◌, ◌/◌, ◌≤◌, ◌<◌}
use native.Mathlib.Omega.{arith}
use mathlib.Core.Path.{◌≡◌, refl, sym, ap, subst, ◌∙◌}
use mathlib.Core.Bool.{Bool, true}
use mathlib.Core.Option.{Option, none, some}
use lib.ListN.{length-map}
use borrow.Author.Tests.{le-leb}
use Rattle.units.proofs.Round.{round-le}
use Rattle.std.specs.Prelude.{if◌then◌else◌}
use Rattle.units.specs.Plain.{times}
use Rattle.waiting.specs.Waiting.{Waiting, first}
use Rattle.rules.specs.State.{clock_far, clock_step, clock_kept, clock_edge, Rec, Setting, Lane, State, charge, rate, group, slot, some?, first_of, holds, eligible, lane_at, setup_of}
use Rattle.rules.specs.Setup.{Setup}
use Rattle.rules.specs.Calls.{taken_off, lowered, lower_all, shifted}
use Rattle.rules.specs.Endless.{Beside}
use Rattle.rules.specs.Good.{Times, Good}
use Rattle.rules.specs.TakeBack.{TakenOff, TakeBackExact, TakeBackGood, TakeBackEarly}
use Rattle.rules.proofs.Lane.{slot-pos}
use Rattle.rules.proofs.Moves.{busy-first}
use Rattle.rules.proofs.Figures.{framing-at, group_at, slot_at}
use Rattle.rules.proofs.Shift.{lowered-at, taken_off-is, taken_off-le, taken_off-largest}
use Rattle.rules.proofs.Further.{Sees, eligible-same, setup-same}
use Rattle.rules.proofs.Beside.{Small, same_beside}
use Rattle.rules.proofs.BesideCalls.{Above, shifted-beside}
use Rattle.rules.proofs.LaneBeside.{lane-sees}
use Rattle.rules.proofs.Range.{shifted-early}

pub small-lanes : (s : State) → Setup (setup_of s) → Small s
small-lanes s g k = group_at s g k

-- R lies above V - 2s - 1,024 (1,500 + h), and two of the greatest slots and that figure are below 2 ^ 33
pub good-above : (s : State) → Good s → clock_far ≤ s.clock → Above s
good-above s g far k e =
    let l = lane_at s k in
    let f = busy-first (first_of l) e in
    let x : Times s.clock l (some f.0) = subst (Times s.clock l) f.1 (g.numbers k) in
    let low : taken_off s.clock ≤ l.start = omega (arith, taken_off-le s.clock (omega arith), x.2, round-le (slot l.given) l.start, slot_at s g.setup k, framing-at s g.setup k) in
    (low, omega (arith, x.0))

-- each difference is an exact one, but for an idle lane's F below K
pub taken-off : TakeBackExact
unfolding TakeBackExact shifted lowered lower_all
taken-off s g far =
    let d = taken_off s.clock in
    let is : shifted s ≡ lower_all d s = simp (le-leb clock_far s.clock far) in
    let at : (k : ℕ) → lane_at (lower_all d s) k ≡ lowered d (lane_at s k) = lowered-at d s in
    subst (TakenOff d s) (sym is) (record {
      multiple = ((s.clock - clock_kept) / clock_step, taken_off-is s.clock);
      below = taken_off-le s.clock (omega arith);
      largest = taken_off-largest s.clock;
      clock = omega (arith, taken_off-le s.clock (omega arith));
      start = λ k e. omega (arith, ap (λ (l : Lane). l.start) (at k), good-above s g far k e);
      finish = λ k e. omega (arith, ap (λ (l : Lane). l.finish) (at k), good-above s g far k e);
      idle = λ k e h. omega (arith, ap (λ (l : Lane). l.finish) (at k));
      idle_below = λ k e h. omega (arith, ap (λ (l : Lane). l.finish) (at k));
      given = λ k. ap (λ (l : Lane). l.given) (at k);
      waiting = λ k. ap (λ (l : Lane). l.waiting) (at k);
      order = refl;
      size = length-map s.lanes (lowered d);
    })

-- ---- a state beside a good one is good, if its clock is below the edge

module _ (n : ℕ) (s t : State) (b : Beside n s t) (small : Small s) where
  abbrev d : ℕ
  d = n * clock_step

  pub sees : (k : ℕ) → Sees d (lane_at s k) (lane_at t k)
  sees k = lane-sees n s.clock (lane_at s k) (lane_at t k) (small k) (b.lane k)

  pub setup-beside : setup_of t ≡ setup_of s
  setup-beside = setup-same d s.lanes t.lanes b.size sees

  pub holds-beside : (k : ℕ) → holds (lane_at t k) ≡ holds (lane_at s k)
  holds-beside k = ap (λ (w : Waiting). some? (first w)) (b.lane k).waiting

  pub eligible-beside : (k : ℕ) → eligible t.clock (lane_at t k) ≡ eligible s.clock (lane_at s k)
  eligible-beside k = ap (λ (v : ℕ). eligible v (lane_at t k)) b.clock ∙ eligible-same d s.clock (lane_at s k) (lane_at t k) (sees k)

  times-beside : (k : ℕ) (q : Option Rec) → first_of (lane_at s k) ≡ q → Times t.clock (lane_at t k) q → Times s.clock (lane_at s k) q
  times-beside k none e x =
      let c = b.lane k in
      omega (arith, x, c.idle (ap some? e), b.clock, ap slot c.given, slot-pos (lane_at s k).given)
  times-beside k (some r) e x =
      let c = b.lane k in
      let h : holds (lane_at s k) ≡ true = ap some? e in (
        omega (arith, x.0, c.start h, c.finish h, ap (λ (g : Setting). charge g r.len * rate g) c.given),
        omega (arith, x.1, c.start h, b.clock, ap slot c.given),
        omega (arith, x.2, (sees k).start h, b.clock, ap slot c.given, ap (λ (g : Setting). g.framing) c.given),
      )

  pub live-beside : ((k : ℕ) → holds (lane_at t k) ≡ true → (i : ℕ) × (eligible t.clock (lane_at t i) ≡ true))
      → (k : ℕ) → holds (lane_at s k) ≡ true → (i : ℕ) × (eligible s.clock (lane_at s i) ≡ true)
  live-beside live k e = let i = live k (holds-beside k ∙ e) in (i.0, sym (eligible-beside i.0) ∙ i.1)

  pub good-beside : Good t → s.clock < clock_edge → Good s
  good-beside g edge = record {
    setup = subst Setup setup-beside g.setup;
    waiting = λ k. rw (← (b.lane k).given, ← (b.lane k).waiting) (g.waiting k);
    kind = λ k. rw (← (b.lane k).given, ← (b.lane k).waiting) (g.kind k);
    clock = edge;
    numbers = λ k. times-beside k (first_of (lane_at s k)) refl (subst (λ (w : Waiting). Times t.clock (lane_at t k) (first w)) (b.lane k).waiting (g.numbers k));
    live = live-beside g.live;
    order = λ k. ap (times k) (sym b.order) ∙ g.order k ∙ ap (λ (x : Bool). if x then 1 else 0) (holds-beside k);
  }

-- the shift of any good state gives a good state
pub shifted-good : (s : State) → Good s → Good (shifted s)
shifted-good s g =
    let small = small-lanes s g.setup in
    let x = shifted-beside 0 s s (same_beside s) (good-above s g) in
    good-beside x.0 (shifted s) s x.1 (λ k. subst (λ (y : Setting). group y ≤ 31) (x.1.lane k).given (small k)) g (omega (arith, shifted-early s))

pub take-back-good : TakeBackGood
unfolding TakeBackGood
take-back-good = shifted-good

pub take-back-early : TakeBackEarly
unfolding TakeBackEarly
take-back-early = shifted-early
