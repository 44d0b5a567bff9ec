-- `charge_of` meets its contract. Assumes nothing.
use native.Mathlib.Omega.{arith}
use mathlib.Core.Path.{refl}
use Rattle.waits.proofs.Bounds.{bytes_small, more-small, charge-small}
use Rattle.waits.proofs.charge_of.Goals as goal

pub overflow_mul-result : goal.overflow_mul-result
overflow_mul-result c = record { fits = omega (arith, bytes_small c.args.count c.args.times c.args.length c.args.c.0 c.requires.0 c.requires.1 c.requires.2 c.requires.3) }

pub overflow_mul-result-2 : goal.overflow_mul-result-2
overflow_mul-result-2 c = record { fits = omega (arith, more-small c.args.count c.args.times c.args.length c.args.c.0 c.requires.0 c.requires.1 c.requires.2 c.requires.3) }

pub overflow_mul-result-3 : goal.overflow_mul-result-3
overflow_mul-result-3 c =
    let s = c in record { fits = omega (arith, charge-small s.args.count s.args.times s.args.length s.args.c.0 s.requires.0 s.requires.1 s.requires.2 s.requires.3) }

pub returns : goal.returns
returns c =
    let s = c in (refl, omega (arith, charge-small s.args.count s.args.times s.args.length s.args.c.0 s.requires.0 s.requires.1 s.requires.2 s.requires.3))
