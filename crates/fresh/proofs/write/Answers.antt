use Rattle.fresh.proofs.Writing.{makes-sound, write-none, write-weight, framed-most, framed-numbers, framed-more, write_skip, write-all}
use mathlib.Core.Path.{◌∙◌}
use native.Mathlib.Omega.{arith}
use Rattle.fresh.proofs.write.Goals as goal
use Rattle.fresh.proofs.write.Goals.{then-g-ne0, else-g-ne0}

pub loop-k-init : goal.loop-k-init
loop-k-init c = (write-none c.args.lanes _ _ c.begin.ensures.0, c.begin.ensures.1)

pub add_lane-requires : goal.add_lane-requires
add_lane-requires c =
    let s = c in
    let f = c.line_framing-h.ensures in
    let l = c.loop-k in
    let lt = c.loop-k-test.true in
    let some = c.if-g-ne0.true in (
      makes-sound _ _ _ (omega arith) l.invariant.0,
      omega arith,
      framed-numbers s.args.lanes s.requires.1 _ f l.k some _ _ (omega arith) l.invariant.0,
      write-weight s.args.lanes _ _ l.k (omega arith) l.invariant.0,
      framed-most s.args.lanes s.requires.1 _ f l.k some,
      l.invariant.1,
    )

pub loop-k-preserved : goal.loop-k-preserved
loop-k-preserved c =
    let s = c in
    let f = c.line_framing-h.ensures in
    let l = c.loop-k in
    elim c.if-g-ne0.branch [
      | then-g-ne0 w ↦ (
        rw w.t-is (framed-more s.args.lanes s.requires.1 _ f l.k w.if-g-ne0.true _ _ (omega arith) l.invariant.0 _ w.add_lane.ensures.0),
        rw w.t-is (w.add_lane.ensures.1 ∙ l.invariant.1),
      )
      | else-g-ne0 w ↦ (
        rw w.t-is (write_skip s.args.lanes _ _ l.k (omega arith) l.invariant.0 s.requires.1 w.if-g-ne0.false),
        rw w.t-is l.invariant.1,
      )
    ]

pub returns : goal.returns
returns c =
    let l = c.loop-k in
    write-all c.args.lanes _ _ _ l.k (omega arith) c.requires.1 c.begin.ensures.0 l.invariant.0
