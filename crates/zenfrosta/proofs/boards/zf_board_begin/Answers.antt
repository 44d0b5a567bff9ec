-- `zf_board_begin` meets its contract. Assumes nothing.
use mathlib.Core.Path.{refl}
use native.Mathlib.Omega.{arith}
use Rattle.zenfrosta.proofs.Crossed.{not_made_lem, crossed}
use borrow.Author.Rules.{rules}
use Rattle.zenfrosta.proofs.boards.zf_board_begin.Goals as goal

pub returns-then-out-lt32 : goal.returns-then-out-lt32
returns-then-out-lt32 c = not_made_lem (omega (arith, c.if-out-lt32.true)) refl

pub returns : goal.returns
returns c =
    let m = c.begin in
    let w = c.tell_begun.ensures in
    crossed (omega (arith, c.if-out-lt32.false)) m.result m.ensures w
