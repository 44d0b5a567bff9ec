-- `plan::judge::misplaced` meets its contract. Assumes nothing.
use mathlib.Core.Path.{sym, ap, ◌∙◌}
use Rattle.plan.specs.Judge.{misplaced}
use Rattle.plan.proofs.judge.misplaced.Goals as goal

-- src/judge.rt:128:1
pub returns-then-seen : goal.returns-then-seen
returns-then-seen c = sym (ap (misplaced c.args.seen) c.in-Lane.is ∙ rw c.if-seen.true)

-- src/judge.rt:128:1
pub returns-then-seen-2 : goal.returns-then-seen-2
returns-then-seen-2 c = sym (ap (misplaced c.args.seen) c.in-Shared.is ∙ rw c.if-seen-2.true)

-- src/judge.rt:128:1
pub returns-in-End : goal.returns-in-End
returns-in-End c = sym (ap (misplaced c.args.seen) c.in-End.is)
