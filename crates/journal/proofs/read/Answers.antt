-- `read` meets its contract. Assumes nothing.
use mathlib.Core.Path.{sym, ◌∙◌}
use borrow.Author.Tests.{not-true, not-false, leb-true}
use lib.ListN.{length}
use Rattle.journal.proofs.Entered.{read-nothing, read-cut, read-tag, read_length, read_short, read_whole}
use mathlib.Core.Path.{ap}
use mathlib.Core.Bool.{not}
use Rattle.journal.proofs.read.Goals as goal

pub returns-then-tag-ne-RECORD : goal.returns-then-tag-ne-RECORD
returns-then-tag-ne-RECORD c = read-tag c.args.s.now _ _ _ (sym c.field_at.ensures ∙ c.in-Header.is) c.if-tag-ne-RECORD.true

pub returns-then-length-ne-RECORD_LENGTH : goal.returns-then-length-ne-RECORD_LENGTH
returns-then-length-ne-RECORD_LENGTH c = read_length c.args.s.now _ _ _ (sym c.field_at.ensures ∙ c.in-Header.is) c.if-tag-ne-RECORD.false c.if-length-ne-RECORD_LENGTH.true

pub returns-then-not-fits : goal.returns-then-not-fits
returns-then-not-fits c = read_short c.args.s.now _ _ _ (sym c.field_at.ensures ∙ c.in-Header.is) c.if-tag-ne-RECORD.false c.if-length-ne-RECORD_LENGTH.false (sym c.fits.ensures ∙ not-true c.fits.result (ap not c.if-not-fits.true))

pub values-requires : goal.values-requires
values-requires c = leb-true 14 (length c.args.s.now) (sym c.fits.ensures ∙ not-false c.fits.result (ap not c.if-not-fits.false))

pub returns-in-Nothing : goal.returns-in-Nothing
returns-in-Nothing c = read-nothing c.args.s.now (sym c.field_at.ensures ∙ c.in-Nothing.is)

pub returns-in-Cut : goal.returns-in-Cut
returns-in-Cut c = read-cut c.args.s.now (sym c.field_at.ensures ∙ c.in-Cut.is)

pub returns-else-not-fits : goal.returns-else-not-fits
returns-else-not-fits c = (read_whole c.args.s.now _ _ _ (sym c.field_at.ensures ∙ c.in-Header.is) c.if-tag-ne-RECORD.false c.if-length-ne-RECORD_LENGTH.false (sym c.fits.ensures ∙ not-false c.fits.result (ap not c.if-not-fits.false)) c.values.result c.values.ensures, c.values.ensures.carried)
