-- `form::begin` meets its contract. Assumes nothing.
use Rattle.sheet.proofs.form.begin.Goals as goal

pub returns : goal.returns
returns c = rw c.unread-none.ensures
