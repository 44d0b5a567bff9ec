use native.Mathlib.Omega.{arith}
use Rattle.rings.proofs.Laws.{push-leaves, length-ring}
use Rattle.rings.proofs.push.Goals as goal

pub overflow_cast-n : goal.overflow_cast-n
overflow_cast-n c = omega (arith, length-ring c.args.t.now c.args.i, c.requires.3, c.byte-n.ensures.0)

pub returns : goal.returns
returns c = push-leaves _ _ _ _ _ _ _ c.requires.0 c.requires.1 c.requires.3 c.byte-h.ensures.0 c.byte-n.ensures.0 c.set_byte.ensures c.set_byte-2.ensures
