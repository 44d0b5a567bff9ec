-- The computed test for a good state and the rule agree. Assumes nothing.
use Prim.Native.Nat.{ℕ, zero, suc, ◌+◌, ◌*◌, ◌≤◌, ◌<◌}
use native.Mathlib.Omega.{arith}
use native.Mathlib.Decide.{dec_lt}
use mathlib.Core.Path.{◌≡◌, refl, ap, ◌∙◌}
use mathlib.Core.Bool.{Bool, true, false, not, ◌&&◌, ◌||◌, false≢true, or-true}
use mathlib.Core.List.{List, [], ◌∷◌}
use lib.Dec.{ltb}
use lib.ListN.{length, get_or, length-map, get_or-eq_default}
use borrow.Author.Tests.{ltb-true, lt-ltb, eqb-true, eq-eqb}
use Rattle.std.specs.Prelude.{if◌then◌else◌}
use Rattle.units.specs.Plain.{times}
use Rattle.units.proofs.Bools.{and_parts, or_right}
use Rattle.rounds.proofs.Test.{below_at, at-below, times_none, named_small}
use Rattle.rounds.specs.Good.{every, every_below}
use Rattle.waiting.specs.Waiting.{none_waiting, is_shared, waiting_test}
use Rattle.waiting.proofs.Laws as waiting
use Rattle.waiting.proofs.Sharing as sharing
use Rattle.rules.specs.State.{clock_edge, no_setting, Lane, no_lane, State, slot, first_of, holds, eligible, lane_at, setup_of, any_holds}
use Rattle.rules.specs.Setup.{Setup}
use Rattle.rules.specs.Good.{Good}
use Rattle.rules.proofs.Lane.{slot-pos}
use Rattle.rules.proofs.Live.{some_holds, holds-some}
use Rattle.rules.proofs.GoodTest.{kind_test, kind-true, true-kind, setup_test, times_test, test_of_lane, any_eligible, is_named_once, good_test, every-at, at_every, setup-true, true-setup, times-true, true-times}

idle-true : (v : ℕ) → test_of_lane v no_lane ≡ true
unfolding test_of_lane every times_test
idle-true v =
    simp (
      waiting.good-test 0 (none_waiting false) (waiting.good-nothing 0 false),
      lt-ltb 0 (v + 2 * slot no_setting) (omega (arith, slot-pos no_setting)),
      true-kind (is_shared (none_waiting false)) false (sharing.shared-nothing false),
    )

eligible-some : (v : ℕ) (ls : List Lane) → any_eligible v ls ≡ true → (k : ℕ) × (eligible v (get_or ls k no_lane) ≡ true)
unfolding any_eligible
eligible-some v [] e = absurd (false≢true e)
eligible-some v (l ∷ ls) e = go (eligible v l) refl (eligible-some v ls)
  where
    go : (b : Bool) → eligible v l ≡ b → (any_eligible v ls ≡ true → (k : ℕ) × (eligible v (get_or ls k no_lane) ≡ true)) → (k : ℕ) × (eligible v (get_or (l ∷ ls) k no_lane) ≡ true)
    go true f r = (0, f)
    go false f r = let i = r (or_right (eligible v l) (any_eligible v ls) e f) in (suc i.0, i.1)

some-eligible : (v : ℕ) (ls : List Lane) (k : ℕ) → eligible v (get_or ls k no_lane) ≡ true → any_eligible v ls ≡ true
unfolding any_eligible eligible
some-eligible v [] k e = absurd (false≢true e)
some-eligible v (l ∷ ls) zero e = simp e
some-eligible v (l ∷ ls) (suc k) e = simp (some-eligible v ls k e, or-true (eligible v l))

-- ---- the two agree

-- a lane that the tie order of a good state names is one of the 64
pub order-inside : (s : State) → Good s → (k : ℕ) → 0 < times k s.order → k < 64
order-inside s g k h = elim (dec_lt k 64) [
  | yes q ↦ q
  | no q ↦
      let far : length s.lanes ≤ k = omega (arith, g.setup.size, length-map s.lanes (λ (l : Lane). l.given)) in
      absurd (omega (arith, rw (get_or-eq_default s.lanes no_lane far) at (g.order k)))
]

module _ (s : State) where
  order-true : Setup (setup_of s) → every (λ (j : ℕ). ltb j 64) s.order ≡ true → every_below (is_named_once s) 64 ≡ true
      → (k : ℕ) → times k s.order ≡ (if holds (lane_at s k) then 1 else 0)
  order-true g small e k = elim (dec_lt k 64) [
    | yes h ↦ eqb-true (times k s.order) _ (below_at (is_named_once s) 64 e k h)
    | no h ↦
        let far : length s.lanes ≤ k = omega (arith, g.size, length-map s.lanes (λ (l : Lane). l.given)) in
        times_none 64 k s.order small (omega arith) ∙ rw (get_or-eq_default s.lanes no_lane far)
  ]

  pub test_good : good_test s ≡ true → Good s
  unfolding good_test test_of_lane
  test_good e =
      let a = and_parts (setup_test (setup_of s)) _ e in
      let b = and_parts (ltb s.clock (clock_edge)) _ a.1 in
      let c = and_parts (every (test_of_lane s.clock) s.lanes) _ b.1 in
      let d = and_parts (not (any_holds s.lanes) || any_eligible s.clock s.lanes) _ c.1 in
      let f = and_parts (every (λ (j : ℕ). ltb j 64) s.order) (every_below (is_named_once s) 64) d.1 in
      let lane : (k : ℕ) → test_of_lane s.clock (lane_at s k) ≡ true = every-at (test_of_lane s.clock) no_lane (idle-true s.clock) s.lanes c.0 in
      let rest : (k : ℕ) → (times_test s.clock (lane_at s k) (first_of (lane_at s k)) && kind_test (is_shared (lane_at s k).waiting) (lane_at s k).given.shared) ≡ true
      = λ k. (and_parts (waiting_test (lane_at s k).given.longest (lane_at s k).waiting) _ (lane k)).1 in
      let setup = setup-true (setup_of s) a.0 in
      record {
        setup = setup;
        waiting = λ k. waiting.test_good (lane_at s k).given.longest (lane_at s k).waiting (and_parts (waiting_test (lane_at s k).given.longest (lane_at s k).waiting) _ (lane k)).0;
        clock = ltb-true s.clock clock_edge b.0;
        kind = λ k. kind-true (is_shared (lane_at s k).waiting) (lane_at s k).given.shared (and_parts (times_test s.clock (lane_at s k) (first_of (lane_at s k))) _ (rest k)).1;
        numbers = λ k. times-true s.clock (lane_at s k) (first_of (lane_at s k)) (and_parts (times_test s.clock (lane_at s k) (first_of (lane_at s k))) _ (rest k)).0;
        live = λ k h. eligible-some s.clock s.lanes (or_right (not (any_holds s.lanes)) (any_eligible s.clock s.lanes) d.0 (ap not (holds-some s.lanes k h)));
        order = order-true setup f.0 f.1;
      }

  pub good-test : Good s → good_test s ≡ true
  unfolding good_test test_of_lane
  good-test g =
      simp (
        true-setup (setup_of s) g.setup,
        lt-ltb s.clock (clock_edge) g.clock,
        at_every (test_of_lane s.clock) no_lane (idle-true s.clock) s.lanes (λ k. lane k),
        live (any_holds s.lanes) refl,
        named_small 64 s.order (order-inside s g),
        at-below (is_named_once s) 64 (λ k. eq-eqb (times k s.order) _ (g.order k)),
      )
    where
      lane : (k : ℕ) → test_of_lane s.clock (lane_at s k) ≡ true
      lane k = simp (waiting.good-test (lane_at s k).given.longest (lane_at s k).waiting (g.waiting k), true-times s.clock (lane_at s k) (first_of (lane_at s k)) (g.numbers k), true-kind (is_shared (lane_at s k).waiting) (lane_at s k).given.shared (g.kind k))

      live : (b : Bool) → any_holds s.lanes ≡ b → (not b || any_eligible s.clock s.lanes) ≡ true
      live false e = refl
      live true e = let h = some_holds s.lanes e in let i = g.live h.0 h.1 in some-eligible s.clock s.lanes i.0 i.1
