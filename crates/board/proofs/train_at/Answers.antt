-- `train_at` meets its contract. Assumes nothing.
use Rattle.board.proofs.Tested.{train-of}
use Rattle.board.proofs.train_at.Goals as goal

pub returns : goal.returns
returns c = train-of c.line_at-l.result _ c.line_at-l.ensures
