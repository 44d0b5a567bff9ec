-- `read_other` meets its contract. Assumes nothing.
use borrow.Author.Rules.{rules}
use Rattle.depot.proofs.read_other.Goals as goal

pub returns-in-Setup : goal.returns-in-Setup
returns-in-Setup c = rw c.in-Setup.is c.read_sheet.ensures

pub returns-in-Sheet : goal.returns-in-Sheet
returns-in-Sheet c = rw c.in-Sheet.is c.read_setup.ensures
