-- `train_held` meets its contract. Assumes nothing.
use Prim.Native.Nat.{◌<◌}
use mathlib.Core.Path.{subst}
use mathlib.Core.Bool.{Bool}
use borrow.Author.Tests.{eq-eqb, ne_eqb, not-true, not-false}
use Rattle.engine.specs.Does.{lane_trains, held_by}
use Rattle.engine.proofs.train_held.Goals as goal

pub returns-then-not-l : goal.returns-then-not-l
unfolding held_by
returns-then-not-l c =
    let l = c.args.l in rw (not-true l.shared c.if-not-l.true)

pub returns-then-l-eq0 : goal.returns-then-l-eq0
unfolding held_by
returns-then-l-eq0 c =
    let l = c.args.l in
    rw (not-false l.shared c.if-not-l.false, eq-eqb l.count 0 c.if-l-eq0.true)

pub train-requires : goal.train-requires
train-requires c =
    let s = c in
    (s.requires.0, s.requires.1, subst (λ (b : Bool). s.args.j < lane_trains b) (not-false s.args.l.shared c.if-not-l.false) s.requires.2)

pub returns : goal.returns
unfolding held_by
returns c =
    let l = c.args.l in
    rw (not-false l.shared c.if-not-l.false, ne_eqb l.count 0 c.if-l-eq0.false, c.train.ensures.0)
