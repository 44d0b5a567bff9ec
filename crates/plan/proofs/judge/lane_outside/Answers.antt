-- `lane_outside` meets its contract. Assumes nothing.
use borrow.Author.Tests.{not-true, not-false}
use mathlib.Core.Path.{sym, ◌∙◌}
use Rattle.plan.proofs.Judged.{outside-number, outside-weight, outside-longest, outside-none}
use mathlib.Core.Path.{ap}
use mathlib.Core.Bool.{not}
use Rattle.plan.proofs.judge.lane_outside.Goals as goal

pub returns-then-l-gt-LAST_LANE : goal.returns-then-l-gt-LAST_LANE
returns-then-l-gt-LAST_LANE c = sym (outside-number c.args.l c.if-l-gt-LAST_LANE.true)

pub returns-then-not-within : goal.returns-then-not-within
returns-then-not-within c = sym (outside-weight c.args.l c.if-l-gt-LAST_LANE.false (sym c.within.ensures ∙ not-true c.within.result (ap not c.if-not-within.true)))

pub returns-then-not-longest_right : goal.returns-then-not-longest_right
returns-then-not-longest_right c = sym (outside-longest c.args.l c.if-l-gt-LAST_LANE.false (sym c.within.ensures ∙ not-false c.within.result (ap not c.if-not-within.false)) (sym c.longest_right.ensures ∙ not-true c.longest_right.result (ap not c.if-not-longest_right.true)))

pub returns : goal.returns
returns c = sym (outside-none c.args.l c.if-l-gt-LAST_LANE.false (sym c.within.ensures ∙ not-false c.within.result (ap not c.if-not-within.false)) (sym c.longest_right.ensures ∙ not-false c.longest_right.result (ap not c.if-not-longest_right.false)))
