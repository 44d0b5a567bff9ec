-- `lane_word` meets its contract. Assumes nothing.
use native.Mathlib.Omega.{arith}
use Rattle.plan_area.proofs.Stored.{shared-most}
use borrow.Author.Rules.{rules}
use Rattle.plan_area.proofs.lane_word.Goals as goal

pub overflow_add-result-2 : goal.overflow_add-result-2
overflow_add-result-2 c = omega (arith, c.shared_part.ensures, shared-most c.args.l.shared)
