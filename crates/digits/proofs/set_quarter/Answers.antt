use Rattle.digits.proofs.Widths.{quarter-stored}
use Rattle.digits.proofs.set_quarter.Goals as goal

pub returns : goal.returns
returns c = quarter-stored c.args.t.now c.byte.ensures.2 c.args.i c.args.v c.requires.0 c.requires.1
