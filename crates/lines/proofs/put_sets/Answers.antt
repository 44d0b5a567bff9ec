-- `put_sets` meets its contract. Assumes nothing.
use mathlib.Core.Bool.{false}
use native.Mathlib.Omega.{arith}
use Rattle.rules.specs.Calls.{words}
use Rattle.lines.proofs.Most.{line-most}
use Rattle.lines.proofs.put_sets.Goals as goal

pub put_line-requires : goal.put_line-requires
put_line-requires c =
    let w = c.args.w in omega (arith, c.requires.1, line-most false (words w.er w.ir w.eb w.ib) c.requires.0)

pub returns : goal.returns
returns c =
    let w = c.args.w in record { wrote = c.put_line.ensures; most = line-most false (words w.er w.ir w.eb w.ib) c.requires.0 }
