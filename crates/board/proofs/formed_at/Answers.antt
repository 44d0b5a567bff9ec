-- `formed_at` meets its contract. Assumes nothing.
use native.Mathlib.Omega.{arith}
use Rattle.board.proofs.formed_at.Goals as goal

pub returns : goal.returns
returns c = (rw (← c.word-a.ensures, ← c.word-c.ensures) c.formed.ensures, omega arith)
