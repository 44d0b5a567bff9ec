use native.Mathlib.Omega.{arith}
use Rattle.digits.proofs.Widths.{quarter-read}
use Rattle.digits.proofs.quarter.Goals as goal

pub returns : goal.returns
returns c = rw (c.byte.ensures.0, c.byte-2.ensures.0) (quarter-read c.args.t.now c.byte-2.ensures.2 c.args.i c.requires, omega (arith, c.byte-2.ensures.0, c.byte.ensures.0))
