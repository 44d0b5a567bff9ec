-- `enter` meets its contract. Assumes nothing.
use mathlib.Core.Path.{sym, ◌∙◌}
use Rattle.journal.specs.Record.{rec_line}
use Rattle.journal.proofs.Entered.{unknown-kind}
use borrow.Author.Tests.{not-true}
use mathlib.Core.Path.{ap}
use mathlib.Core.Bool.{not}
use Rattle.journal.proofs.enter.Goals as goal

pub returns-then-not-known : goal.returns-then-not-known
returns-then-not-known c = unknown-kind c.args.t.now (rec_line c.args.r) c.requires.0 (sym c.known.ensures ∙ not-true c.known.result (ap not c.if-not-known.true))
