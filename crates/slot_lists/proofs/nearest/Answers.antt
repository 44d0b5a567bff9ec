-- `nearest` meets its contract. Assumes nothing.
use Rattle.slot_lists.proofs.Bits.{nearest-is}
use Rattle.slot_lists.proofs.nearest.Goals as goal

pub returns : goal.returns
returns c = nearest-is c.args.map c.args.b c.requires.0 c.requires.1 c.requires.2
