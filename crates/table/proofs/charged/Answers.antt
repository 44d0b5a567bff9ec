use native.Mathlib.Omega.{arith}
use Rattle.rules.specs.State.{charge}
use Rattle.table.proofs.charged.Goals as goal

pub returns : goal.returns
unfolding charge
returns c = (omega arith, omega arith)
