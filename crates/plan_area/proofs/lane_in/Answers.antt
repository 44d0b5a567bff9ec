-- `lane_in` meets its contract. Assumes nothing.
use borrow.Author.Tests.{ne_eqb}
use borrow.Author.Rules.{rules}
use Rattle.plan_area.proofs.lane_in.Goals as goal

pub returns-then-weight-eq0 : goal.returns-then-weight-eq0
returns-then-weight-eq0 c = rw (c.fitted-longest.ensures.0, c.longest_in.ensures, c.if-weight-eq0.true)

pub returns : goal.returns
returns c = rw (c.fitted-framing.ensures.0, c.fitted-longest.ensures.0, c.longest_in.ensures, ne_eqb _ 0 c.if-weight-eq0.false)
