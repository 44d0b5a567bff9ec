use mathlib.Core.Path.{◌≡◌, sym, subst}
use Prim.Native.Nat.{ℕ, ◌+◌, ◌^◌, ◌<◌}
use native.Mathlib.Omega.{arith}
use Rattle.words.specs.Bits.{bit}
use Rattle.words.proofs.Bits.{add-below, shift_one}
use Rattle.lane_test.proofs.Setting.{says-yes, says-no}
use Rattle.lists_test.specs.Stored.{FitsSlot, RingSays}
use Rattle.lists_test.proofs.RingWalk.{Read, read-far, read_twice, read-misfit, read_more, read_all}
use mathlib.Core.Path.{ap}
use mathlib.Core.Bool.{not}
use Rattle.lists_test.proofs.ring_met.Goals as goal

pub returns-then-n-eq0 : goal.returns-then-n-eq0
unfolding RingSays
returns-then-n-eq0 c = λ fine new. omega (arith, c.if-n-eq0.true, c.held-n.ensures.0, fine.some_lane)

pub returns-then-k-ge-LANES : goal.returns-then-k-ge-LANES
unfolding RingSays
returns-then-k-ge-LANES c =
    let r = c.loop-j in
    read-far _ _ _ _ _ _ _ r.invariant.0 (omega (arith, c.loop-j-test.true, c.held-n.ensures.0)) (omega (arith, c.if-k-ge-LANES.true, c.entry-k.ensures.0))

pub returns-then-met-k-eq1 : goal.returns-then-met-k-eq1
unfolding RingSays
returns-then-met-k-eq1 c =
    let r = c.loop-j in
    read_twice _ _ _ _ _ _ _ r.invariant.0 (omega (arith, c.loop-j-test.true, c.held-n.ensures.0)) (subst (λ (x : ℕ). bit x r.met ≡ 1) c.entry-k.ensures.0 c.if-met-k-eq1.true)

pub returns-then-not-fits : goal.returns-then-not-fits
unfolding RingSays
returns-then-not-fits c =
    let r = c.loop-j in
    read-misfit _ _ _ _ _ _ _ r.invariant.0 (omega (arith, c.loop-j-test.true, c.held-n.ensures.0)) (λ f. says-no c.stands-fits.result c.stands-fits.ensures (ap not c.if-not-fits.true) (subst (λ (x : ℕ). FitsSlot c.args.t.now x c.args.g c.args.at) (sym c.entry-k.ensures.0) f))

pub overflow_add-met : goal.overflow_add-met
overflow_add-met c =
    let r = c.loop-j in
    let k = c.entry-k.result in
    let new : bit k r.met ≡ 0 = omega (arith, c.if-met-k-eq1.false) in
    omega (arith, add-below 64 k r.met c.if-k-ge-LANES.false r.invariant.1 new, shift_one k c.if-k-ge-LANES.false)

pub loop-j-preserved : goal.loop-j-preserved
loop-j-preserved c =
    let r = c.loop-j in
    let k = c.entry-k.result in
    let new : bit k r.met ≡ 0 = omega (arith, c.if-met-k-eq1.false) in
    let small = c.if-k-ge-LANES.false in
    let e = c.entry-k.ensures.0 in
    let fits : FitsSlot c.args.t.now k c.args.g c.args.at = says-yes c.stands-fits.result c.stands-fits.ensures (ap not c.if-not-fits.false) in
    let more = read_more _ _ _ _ _ _ _ r.invariant.0 (omega (arith, c.loop-j-test.true, c.held-n.ensures.0)) (subst (λ (x : ℕ). x < 64) e small) (subst (λ (x : ℕ). bit x r.met ≡ 0) e new) (subst (λ (x : ℕ). FitsSlot c.args.t.now x c.args.g c.args.at) e fits) in
    (rw (shift_one k small) (subst (λ (x : ℕ). Read c.args.t.now c.args.i c.args.g c.args.at c.args.before (r.j + 1) (r.met + 2 ^ x)) (sym e) more), omega (arith, add-below 64 k r.met small r.invariant.1 new, shift_one k small))

pub returns : goal.returns
unfolding RingSays
returns c =
    let r = c.loop-j in
    read_all _ _ _ _ _ _ _ r.invariant.0 (omega (arith, c.loop-j-test.false, c.held-n.ensures.0)) (omega (arith, c.if-n-eq0.false, c.held-n.ensures.0))
