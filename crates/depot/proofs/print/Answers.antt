-- `print` meets its contract. Assumes nothing.
use Rattle.depot.proofs.Printing.{prints-long, prints-refused, prints-plan, plan-good}
use Rattle.depot.proofs.print.Goals as goal

pub returns-then-input-gt-MOST_INPUT : goal.returns-then-input-gt-MOST_INPUT
returns-then-input-gt-MOST_INPUT c =
    let s = c in
    prints-long s.args.form s.args.input.now _ _ _ s.requires c.if-input-gt-MOST_INPUT.true c.put_no.ensures

pub write_plan-requires : goal.write_plan-requires
write_plan-requires c = (plan-good c.args.form c.args.input.now c.in-Ok.r c.in-Ok.ensures, c.requires)

pub returns-in-Err : goal.returns-in-Err
returns-in-Err c =
    let s = c in
    prints-refused s.args.form s.args.input.now _ _ _ s.requires c.if-input-gt-MOST_INPUT.false _ c.in-Err.ensures c.put_no-in-Err.ensures
