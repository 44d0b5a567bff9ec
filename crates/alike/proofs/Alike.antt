-- Every call respects `Alike`: from two states with tie orders that differ only where it is never looked at, a call gives the same reply, and two such
-- states again. Assumes nothing.
use Prim.Native.Nat.{ℕ, ◌+◌, ◌*◌}
use mathlib.Core.Path.{◌≡◌, refl, sym, ap, subst, ◌∙◌}
use mathlib.Core.Bool.{Bool, true, false}
use mathlib.Core.List.{List, [], ◌∷◌}
use lib.Dec.{leb}
use lib.ListN.{get_or}
use Rattle.std.specs.Prelude.{if◌then◌else◌}
use Rattle.units.specs.Plain.{times}
use Rattle.rules.specs.State.{clock_far, clock_step, Rec, Lane, no_lane, State, group, holds, lane_at}
use Rattle.rules.specs.Calls.{Call, Reply, accept, fresh, step, taken_off, lower_all, shifted}
use Rattle.rules.specs.Runs.{after, Event, trace}
use Rattle.rules.specs.Good.{Good}
use Rattle.alike.specs.Alike.{Ties, Alike, NoCallTells, NoListTells}
use Rattle.rules.proofs.AlwaysGood.{Reached, fresh-reached, step-reached, reached, reached-good}
use Rattle.rules.proofs.Keep.{Allowed}
use Rattle.rules.proofs.Shift.{shifted-order, shifted-allowed}
use Rattle.rules.proofs.Further.{holds_same}
use Rattle.rules.proofs.Beside.{same_beside}
use Rattle.rules.proofs.BesideCalls.{shifted-beside}
use Rattle.rules.proofs.GoodShift.{small-lanes, good-above, sees, shifted-good}
use Rattle.rules.proofs.Ties.{Tied, step-tied}
use Rattle.alike.proofs.Turns.{Same, Turns, accept-same, step_same}

same_parts : (s t : State) → s.clock ≡ t.clock → s.lanes ≡ t.lanes → ◌≡◌ {A = State} (record { clock = s.clock; lanes = s.lanes; order = t.order }) t
same_parts s t c l =
    ap (λ (v : ℕ). record { clock = v; lanes = s.lanes; order = t.order }) c ∙ ap (λ (ls : List Lane). record { clock = t.clock; lanes = ls; order = t.order }) l

pub alike_refl : (s : State) → Alike s s
alike_refl s = record { clock = refl; lanes = refl; names = λ k. refl; turns = λ j k h. refl }

pub alike-sym : (s t : State) → Alike s t → Alike t s
alike-sym s t a = record {
  clock = sym a.clock;
  lanes = sym a.lanes;
  names = λ k. sym (a.names k);
  turns = λ j k h. sym (a.turns j k (subst (λ (ls : List Lane). Ties (get_or ls j no_lane) (get_or ls k no_lane)) (sym a.lanes) h));
}

pub alike-trans : (s t u : State) → Alike s t → Alike t u → Alike s u
alike-trans s t u a b = record {
  clock = a.clock ∙ b.clock;
  lanes = a.lanes ∙ b.lanes;
  names = λ k. a.names k ∙ b.names k;
  turns = λ j k h. a.turns j k h ∙ b.turns j k (subst (λ (ls : List Lane). Ties (get_or ls j no_lane) (get_or ls k no_lane)) a.lanes h);
}

-- a state alike a good one is good
pub alike-good : (s t : State) → Alike s t → Good s → Good t
alike-good s t a g =
    let e : record { clock = s.clock; lanes = s.lanes; order = t.order } ≡ t = same_parts s t a.clock a.lanes in
    subst Good e (record {
      setup = g.setup;
      waiting = g.waiting;
      kind = g.kind;
      clock = g.clock;
      numbers = g.numbers;
      live = g.live;
      order = λ k. sym (a.names k) ∙ g.order k;
    })

-- ---- states alike, of which one is good (so that both are)

accept-alike : (s t : State) → Good s → Alike s t → (j : ℕ) (r : Rec) → Allowed s j r → Turns (accept s j r) (accept t j r)
accept-alike s t g a j r ok =
    subst (λ (x : State). Turns (accept s j r) (accept x j r)) (same_parts s t a.clock a.lanes)
    (accept-same s.clock s.lanes s.order t.order g.order (λ k. sym (a.names k) ∙ g.order k) a.turns g.waiting j r ok)

-- two lanes that tie after the shift tied before it
shifted-ties : (s : State) → Good s → (a b : ℕ) → Ties (lane_at (shifted s) a) (lane_at (shifted s) b) → Ties (lane_at s a) (lane_at s b)
shifted-ties s g a b h =
    let x = shifted-beside 0 s s (same_beside s) (good-above s g) in
    let small = small-lanes (shifted s) (shifted-good s g).setup in
    let p = sees x.0 (shifted s) s x.1 small a in
    let q = sees x.0 (shifted s) s x.1 small b in
    record {
      first = holds_same (x.0 * clock_step) (lane_at (shifted s) a) (lane_at s a) p ∙ h.first;
      second = holds_same (x.0 * clock_step) (lane_at (shifted s) b) (lane_at s b) q ∙ h.second;
      group = ap group p.given ∙ h.group ∙ sym (ap group q.given);
      start = p.start h.first ∙ ap (λ (n : ℕ). n + x.0 * clock_step) h.start ∙ sym (q.start h.second);
    }

-- the shift does not look at the tie order
shifted-parts : (v : ℕ) (ls : List Lane) (o o' : List ℕ)
    → ((shifted (record { clock = v; lanes = ls; order = o })).clock ≡ (shifted (record { clock = v; lanes = ls; order = o' })).clock)
    × ((shifted (record { clock = v; lanes = ls; order = o })).lanes ≡ (shifted (record { clock = v; lanes = ls; order = o' })).lanes)
unfolding shifted lower_all
shifted-parts v ls o o' = go (leb clock_far v)
  where
    s : List ℕ → State
    s x = record { clock = v; lanes = ls; order = x }

    go : (b : Bool)
        → ((if b then lower_all (taken_off v) (s o) else s o).clock ≡ (if b then lower_all (taken_off v) (s o') else s o').clock)
        × ((if b then lower_all (taken_off v) (s o) else s o).lanes ≡ (if b then lower_all (taken_off v) (s o') else s o').lanes)
    go true = (refl, refl)
    go false = (refl, refl)

shifted-alike : (s t : State) → Good s → Alike s t → Alike (shifted s) (shifted t)
shifted-alike s t g a =
    let e = same_parts s t a.clock a.lanes in
    subst (λ (x : State). Alike (shifted s) (shifted x)) e (record {
      clock = (shifted-parts s.clock s.lanes s.order t.order).0;
      lanes = (shifted-parts s.clock s.lanes s.order t.order).1;
      names = λ k. ap (times k) (shifted-order s) ∙ a.names k ∙ sym (ap (times k) (shifted-order (record { clock = s.clock; lanes = s.lanes; order = t.order })));
      turns = λ j k h. rw (shifted-order s, shifted-order (record { clock = s.clock; lanes = s.lanes; order = t.order })) (a.turns j k (shifted-ties s g j k h));
    })

pub step-alike : NoCallTells
unfolding Tied
step-alike s t g a c =
    let after : (j : ℕ) (r : Rec) → Allowed s j r → Turns (accept (shifted s) j r) (accept (shifted (record { clock = s.clock; lanes = s.lanes; order = t.order })) j r)
    = λ j r ok. subst (λ (x : State). Turns (accept (shifted s) j r) (accept (shifted x) j r)) (sym (same_parts s t a.clock a.lanes))
    (accept-alike (shifted s) (shifted t) (shifted-good s g) (shifted-alike s t g a) j r (shifted-allowed s j r ok)) in
    let same : Same (step s c) (step t c)
    = subst (λ (x : State). Same (step s c) (step x c)) (same_parts s t a.clock a.lanes)
    (step_same s.clock s.lanes s.order t.order g.order (λ k. sym (a.names k) ∙ g.order k) a.turns g.waiting after c) in
    record {
      reply = same.reply;
      state = record {
        clock = same.state.clock;
        lanes = same.state.lanes;
        names = λ k. step-tied s c g.waiting g.order k ∙ ap (λ (ls : List Lane). if holds (get_or ls k no_lane) then 1 else 0) same.state.lanes ∙ sym (step-tied t c (alike-good s t a g).waiting (alike-good s t a g).order k);
        turns = same.state.turns;
      };
    }

traces-alike : (s t : State) → Reached s → Alike s t → (cs : List Call) → trace s cs ≡ trace t cs
unfolding trace
traces-alike s t r a [] = refl
traces-alike s t r a (c ∷ cs) =
    let one = step-alike s t (reached-good s r) a c in
    let rest = traces-alike (step s c).state (step t c).state (step-reached s c r) one.state cs in
    ap (λ (p : Reply). record { call = c; reply = p } ∷ trace (step s c).state cs) one.reply
    ∙ ap (λ (es : List Event). record { call = c; reply = (step t c).reply } ∷ es) rest

pub lists-alike : NoListTells
lists-alike gs ok before calls t a = traces-alike (after (fresh gs) before) t (reached (fresh gs) before (fresh-reached gs ok)) a calls
