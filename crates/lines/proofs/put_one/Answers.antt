-- `put_one` meets its contract. Assumes nothing.
use Prim.Native.Nat.{◌≤◌}
use native.Mathlib.Omega.{arith}
use mathlib.Core.List.{[], ◌∷◌}
use lib.ListN.{length}
use Rattle.lines.specs.Line.{text_line}
use Rattle.lines.proofs.Most.{one-most}
use Rattle.lines.proofs.put_one.Goals as goal

pub put_line-requires : goal.put_line-requires
put_line-requires c =
    let long : length (text_line c.args.word.now (c.args.n ∷ [])) ≤ 64 = let s = c in one-most s.args.word.now s.args.n s.requires.0 s.ranges.n.fits in
    omega (arith, c.requires.1, long)

pub returns : goal.returns
returns c =
    let long : length (text_line c.args.word.now (c.args.n ∷ [])) ≤ 64 = let s = c in one-most s.args.word.now s.args.n s.requires.0 s.ranges.n.fits in
    record { wrote = c.put_line.ensures; most = long }
