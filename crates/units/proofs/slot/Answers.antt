use mathlib.Core.Path.{refl}
use native.Mathlib.Nat.{one-mul, mod-eq_of_lt}
use native.Mathlib.Omega.{arith}
use lib.Pow.{pow-lt, pow_pos, pow_mono}
use Rattle.units.proofs.slot.Goals as goal

pub returns : goal.returns
returns c =
    let i = c.args.index in
    rw (one-mul, mod-eq_of_lt (pow-lt {i = i} {j = 64} (omega arith))) (refl, pow_pos i, pow_mono {i = i} {j = 31} (omega arith))
