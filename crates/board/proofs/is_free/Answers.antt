-- `is_free` meets its contract. Assumes nothing.
use Rattle.board.proofs.Tested.{free-kind}
use Rattle.board.proofs.is_free.Goals as goal

pub returns : goal.returns
returns c = free-kind c.line_at-l.result _ c.line_at-l.ensures
