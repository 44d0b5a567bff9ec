use native.Mathlib.Omega.{arith}
use Rattle.digits.proofs.Widths.{half-read}
use Rattle.digits.proofs.half.Goals as goal

pub returns : goal.returns
returns c = rw (c.byte.ensures.0, c.byte-2.ensures.0, c.byte-3.ensures.0, c.byte-4.ensures.0) (half-read c.args.t.now c.byte-4.ensures.2 c.args.i c.requires, omega (arith, c.byte-4.ensures.0, c.byte-3.ensures.0, c.byte-2.ensures.0, c.byte.ensures.0))
