-- `answered` meets its contract. Assumes nothing.
use native.Mathlib.Omega.{arith}
use Rattle.console.proofs.Printing.{prints-long, prints-run}
use borrow.Author.Rules.{rules}
use Rattle.console.proofs.answered.Goals as goal

pub returns-then-input-gt-MOST_INPUT : goal.returns-then-input-gt-MOST_INPUT
returns-then-input-gt-MOST_INPUT c = prints-long _ _ _ _ c.if-input-gt-MOST_INPUT.true c.put_no.ensures (omega (arith, c.requires.1))

pub returns : goal.returns
returns c = prints-run _ _ _ _ _ _ c.if-input-gt-MOST_INPUT.false c.requires.0 c.requires.1 c.run-result.ensures
