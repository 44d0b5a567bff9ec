-- `within` meets its contract. Assumes nothing.
use borrow.Author.Tests.{not-true, not-false}
use mathlib.Core.Path.{sym, ◌∙◌}
use Rattle.plan_writer.proofs.Judging.{so-outside, so-more, so-skip, so-all}
use Rattle.plan_writer.proofs.Lane.{tells-no}
use mathlib.Core.Path.{ap}
use mathlib.Core.Bool.{not}
use Rattle.plan_writer.proofs.within.Goals as goal
use Rattle.plan_writer.proofs.within.Goals.{then-l-ne0, else-l-ne0}

pub returns-then-not-lane_within : goal.returns-then-not-lane_within
returns-then-not-lane_within c =
    let l = c.loop-l in
    let p = c.args.plan in
    let f = c.line_framing-h in
    tells-no (so-outside p.lanes f.result f.ensures l.l-index l.total l.there l.invariant c.loop-l-test.true (λ ok. c.lane_within.ensures.no (not-true c.lane_within.result (ap not c.if-not-lane_within.true)) ok) p.format p.count)

pub loop-l-preserved : goal.loop-l-preserved
loop-l-preserved c =
    let l = c.loop-l in
    let lt = c.loop-l-test.true in
    let ok = c.lane_within.ensures.yes (not-false c.lane_within.result (ap not c.if-not-lane_within.false)) in
    let lanes = c.args.plan.lanes in
    let f = c.line_framing-h in
    elim c.if-l-ne0.branch [
      | then-l-ne0 w ↦ rw (w.total-is, w.there-is) (so-more lanes f.result f.ensures l.l-index l.total l.there l.invariant lt ok w.if-l-ne0.true)
      | else-l-ne0 w ↦ rw (w.total-is, w.there-is) (so-skip lanes f.result f.ensures l.l-index l.total l.there l.invariant lt ok w.if-l-ne0.false)
    ]

pub returns : goal.returns
returns c =
    let l = c.loop-l in
    let p = c.args.plan in
    let f = c.line_framing-h in
    let known = c.known_format in
    so-all p.lanes f.result f.ensures l.l-index l.total l.there l.invariant c.loop-l-test.false p.format p.count (sym known.ensures ∙ not-false known.result (ap not c.if-not-known_format.false)) c.if-h-gt-MOST_FRAMING.false c.if-total-eq0.false c.if-total-gt-MOST_TOTAL.false
