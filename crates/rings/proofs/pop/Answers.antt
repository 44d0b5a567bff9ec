-- `pop` meets its contract. Assumes nothing.
use native.Mathlib.Omega.{arith}
use lib.ListN.{length-drop}
use Rattle.rings.proofs.Laws.{pop-leaves, length-ring}
use Rattle.rings.proofs.pop.Goals as goal

pub overflow_sub-left : goal.overflow_sub-left
overflow_sub-left c = omega (arith, length-ring c.args.t.now c.args.i, c.requires.2, c.byte-n.ensures.0)

pub returns : goal.returns
returns c =
    let s = c in (
      simp length-drop (omega (arith, length-ring s.args.t.now s.args.i, c.byte-n.ensures.0)),
      pop-leaves _ _ _ _ _ _ s.requires.0 s.requires.1 s.requires.2 c.byte-h.ensures.0 c.byte-n.ensures.0 c.set_byte.ensures c.set_byte-2.ensures,
    )
