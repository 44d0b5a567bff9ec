-- `line_at` meets its contract. Assumes nothing.
use Rattle.board.proofs.Means.{board-line}
use Rattle.board.proofs.line_at.Goals as goal

pub returns : goal.returns
returns c =
    let a = c.args in rw (board-line a.t.now a.k c.requires.1, ← c.word-a.ensures, ← c.word-c.ensures)
