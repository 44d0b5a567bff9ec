use mathlib.Core.Path.{sym, ap, ◌∙◌}
use Prim.Native.Nat.{ℕ, ◌+◌}
use lib.ListN.{get_or}
use native.Mathlib.Omega.{arith}
use Rattle.rings.proofs.Laws.{entry-ring, length-ring}
use Rattle.rings.specs.Rings.{place_byte}
use Rattle.rings.proofs.entry.Goals as goal

pub returns : goal.returns
returns c =
    let s = c in
    let a = entry-ring s.args.t.now s.args.i s.args.j (omega (arith, length-ring s.args.t.now s.args.i, s.requires.3)) in
    (c.byte.ensures.0 ∙ ap (λ (h : ℕ). get_or s.args.t.now (place_byte s.args.i (h + s.args.j)) 0) c.byte-h.ensures.0 ∙ sym a, c.byte.ensures.1)
