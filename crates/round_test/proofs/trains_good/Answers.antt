use Prim.Native.Nat.{ℕ, ◌+◌, ◌*◌}
use native.Mathlib.Omega.{arith}
use mathlib.Core.Path.{◌≡◌, sym, ap, subst, ◌∙◌}
use Rattle.words.proofs.Bits.{shift_one}
use Rattle.round_test.specs.Shared.{numbers_at, lengths_at}
use Rattle.round_test.proofs.Answers.{says-true, says-false}
use Rattle.round_test.proofs.Tally.{Tallying, tallying-none, one-small, small, head-only, waits, covers, tally-says}
use Rattle.round_test.proofs.trains_good.Goals as goal
use Rattle.round_test.proofs.trains_good.Goals.{then-holds+then-covered+else-train-longest, then-holds+else-covered, else-holds+else-train-ge-COUNT_UNIT}

pub loop-k-init : goal.loop-k-init
loop-k-init c = tallying-none _ _ _

pub overflow_add-tally-then-holds : goal.overflow_add-tally-then-holds
overflow_add-tally-then-holds c =
    let l = c.loop-k in
    let lt = c.loop-k-test.true in
    record { fits = omega (arith, shift_one l.k (omega (arith, lt)), one-small _ _ _ _ _ l.invariant lt, small _ _ _ _ _ l.invariant lt) }

pub overflow_add-tally-then-covered : goal.overflow_add-tally-then-covered
overflow_add-tally-then-covered c =
    let l = c.loop-k in
    let lt = c.loop-k-test.true in
    record { fits = omega (arith, shift_one l.k (omega (arith, lt)), one-small _ _ _ _ _ l.invariant lt, small _ _ _ _ _ l.invariant lt) }

pub loop-k-preserved : goal.loop-k-preserved
loop-k-preserved c =
    let s = c in
    let l = s.loop-k in
    let lt = s.loop-k-test.true in
    let a = s.args in
    let is = s.half-train.ensures.0 in
    let one = shift_one l.k (omega (arith, lt)) in
    let to : (x y : ℕ) → x ≡ y → Tallying a.longest (numbers_at a.t.now a.trains) (lengths_at a.lens.now a.lengths) y (l.k + 1) → Tallying a.longest (numbers_at a.t.now a.trains) (lengths_at a.lens.now a.lengths) x (l.k + 1) =
    λ x y e i. subst (λ (z : ℕ). Tallying a.longest (numbers_at a.t.now a.trains) (lengths_at a.lens.now a.lengths) z (l.k + 1)) (sym e) i in
    elim c.if-holds.branch [
      | then-holds+then-covered+else-train-longest w ↦
          to _ _ (w.tally-is ∙ ap (λ (x : ℕ). l.tally + (x + 256) + 4096 * x) one)
          (covers _ _ _ _ _ l.invariant lt _ is (says-true s.holds.result s.holds.ensures w.if-holds.true) (says-true w.covered.result w.covered.ensures w.if-covered.true) w.if-train-longest.false)
      | then-holds+else-covered w ↦
          to _ _ (w.tally-is ∙ ap (λ (x : ℕ). l.tally + (x + 256)) one)
          (waits _ _ _ _ _ l.invariant lt _ is (says-true s.holds.result s.holds.ensures w.if-holds.true) (says-false w.covered.result w.covered.ensures w.if-covered.false))
      | else-holds+else-train-ge-COUNT_UNIT w ↦
          to _ _ w.tally-is (head-only _ _ _ _ _ l.invariant lt _ is w.if-train-ge-COUNT_UNIT.false (omega arith))
    ]

pub returns : goal.returns
returns c =
    let l = c.loop-k in
    tally-says _ _ _ _ _ _ _ _ l.invariant c.loop-k-test.false c.requires.2 c.wanted.ensures
