-- `lowest` meets its contract. Assumes nothing.
use mathlib.Core.Path.{◌≡◌}
use mathlib.Core.Bool.{false}
use Prim.Native.Nat.{ℕ, ◌<◌}
use Rattle.desk.specs.Board.{line_at, is_free}
use Rattle.board.specs.Layout.{board_of}
use Rattle.board.proofs.lowest.Given as goal

abbrev pub invariant-loop-k : goal.invariant-loop-k
invariant-loop-k l = (j : ℕ) → j < l.k → is_free (line_at (board_of l.t) j) ≡ false
