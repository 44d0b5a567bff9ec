-- `enter_first` meets its contract. Assumes nothing.
use mathlib.Core.Path.{refl, sym, subst}
use Rattle.desk.specs.Calls.{enter_record}
use Rattle.journal.specs.Step.{BoardStep}
use Rattle.std.specs.Prelude.{Ok}
use Rattle.journal.specs.Record.{rec_line}
use Rattle.journal.proofs.Entered.{no-free-line, first-leave, first-join}
use Rattle.journal.proofs.enter_first.Goals as goal

pub returns-in_default : goal.returns-in_default
returns-in_default c = no-free-line c.args.t.now (rec_line c.args.r) c.requires.0 c.requires.2 c.requires.3 64 c.in_default.ensures refl

pub returns-then-r-ne-JOINED : goal.returns-then-r-ne-JOINED
returns-then-r-ne-JOINED c = first-leave c.args.t.now (rec_line c.args.r) c.requires.0 c.requires.2 c.requires.3 c.in-Some.k c.in-Some.ensures.0 c.in-Some.ensures.1 c.if-r-ne-JOINED.true

pub returns : goal.returns
returns c = subst (BoardStep (enter_record (rec_line c.args.r)) c.args.t.now (Ok c.in-Some.k)) (sym c.set_line.ensures) (first-join c.args.t.now (rec_line c.args.r) c.requires.0 c.requires.2 c.requires.3 c.in-Some.k c.requires.1 c.in-Some.ensures.0 c.in-Some.ensures.1 c.if-r-ne-JOINED.false)
