-- `zf_board_line` meets its contract. Assumes nothing.
use native.Mathlib.Omega.{arith}
use Rattle.zenfrosta.proofs.Crossed.{not_made_lem, crossed}
use borrow.Author.Rules.{rules}
use Rattle.zenfrosta.proofs.boards.zf_board_line.Goals as goal

pub returns-then-out-lt32 : goal.returns-then-out-lt32
returns-then-out-lt32 c = not_made_lem (omega (arith, c.if-out-lt32.true)) tt

pub returns : goal.returns
returns c =
    let m = c.line in
    let w = c.tell_shown.ensures in
    crossed (omega (arith, c.if-out-lt32.false)) m.result m.ensures w
