-- `put_restarted` meets its contract. Assumes nothing.
use mathlib.Core.Bool.{false}
use native.Mathlib.Omega.{arith}
use Rattle.rules.specs.Calls.{restarted}
use Rattle.lines.proofs.Most.{line-most}
use Rattle.lines.proofs.put_restarted.Goals as goal

pub put_line-requires : goal.put_line-requires
put_line-requires c = omega (arith, c.requires, line-most false restarted tt)

pub returns : goal.returns
returns c = record { wrote = c.put_line.ensures; most = line-most false restarted tt }
