-- `is_of` meets its contract. Assumes nothing.
use Rattle.board.proofs.Tested.{of-free, of_other, of-same}
use Rattle.board.proofs.is_of.Goals as goal

pub returns-then-l-train : goal.returns-then-l-train
returns-then-l-train c = of_other c.line_at-l.result _ c.line_at-l.ensures c.args.train c.if-l-train.true

pub returns-then-l-eq0 : goal.returns-then-l-eq0
returns-then-l-eq0 c = of-free c.line_at-l.result _ c.line_at-l.ensures c.args.train c.if-l-eq0.true

pub returns : goal.returns
returns c = of-same c.line_at-l.result _ c.line_at-l.ensures c.args.train c.if-l-train.false c.if-l-eq0.false
