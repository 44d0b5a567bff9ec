-- `sound` meets its contract. Assumes nothing.
use mathlib.Core.Path.{◌≡◌}
use lib.ListN.{length}
use Rattle.board.specs.Layout.{BoardRoom, board_of, SeenBelow}
use Rattle.board.proofs.Means.{Passed}
use Rattle.board.proofs.sound.Given as goal

abbrev pub invariant-loop-k : goal.invariant-loop-k
invariant-loop-k l = BoardRoom l.t × Passed l.t l.k × SeenBelow (board_of l.t) l.k l.seen × (length l.seen ≡ 16)
