-- `write_plan` meets its contract. Assumes nothing.
use Rattle.depot.proofs.Printing.{setup-written, setup-always, sheet-written, sheet-framed}
use Rattle.depot.proofs.write_plan.Goals as goal

pub unwrap-requires : goal.unwrap-requires
unwrap-requires c = setup-always c.args.plan c.requires.0 _ c.requires.1 _ _ c.write_setup.ensures

pub returns-in-Setup : goal.returns-in-Setup
returns-in-Setup c = rw c.in-Setup.is (setup-written c.args.plan c.requires.0 _ c.requires.1 _ _ c.write_setup.ensures _ c.unwrap.ensures)

pub returns-in-Ok : goal.returns-in-Ok
returns-in-Ok c = rw c.in-Sheet.is (sheet-written c.args.plan c.requires.0 _ c.requires.1 _ _ c.write_sheet.ensures _ c.in-Ok.is)

pub returns-in-Err : goal.returns-in-Err
returns-in-Err c = rw c.in-Sheet.is (sheet-framed c.args.plan c.requires.0 _ c.requires.1 _ _ c.write_sheet.ensures _ c.in-Err.is _ _ c.put_no.ensures)
