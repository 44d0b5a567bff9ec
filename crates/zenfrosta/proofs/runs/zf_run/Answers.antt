-- `zf_run` meets its contract. Assumes nothing.
use mathlib.Core.Path.{refl}
use native.Mathlib.Omega.{arith}
use Rattle.zenfrosta.proofs.Crossed.{not_made_lem, crossed}
use Rattle.zenfrosta.proofs.Spoken.{told-as}
use borrow.Author.Rules.{rules}
use Rattle.zenfrosta.proofs.runs.zf_run.Goals as goal

pub returns-then-out-lt32 : goal.returns-then-out-lt32
returns-then-out-lt32 c = not_made_lem (omega (arith, c.if-out-lt32.true)) (refl, refl)

pub returns : goal.returns
returns c =
    let m = c.run-result in
    let room = c.if-out-lt32.false in
    crossed (omega (arith, room)) m.result m.ensures
    (c.stop_code.ensures, told-as _ _ _ _ c.run_words-w.ensures c.speak.ensures)
