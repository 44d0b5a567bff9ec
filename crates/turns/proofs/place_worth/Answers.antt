use Prim.Native.Nat.{◌*◌}
use native.Mathlib.Nat.{one-mul, mod-eq_of_lt}
use native.Mathlib.Omega.{arith}
use lib.Pow.{pow-lt, pow_mono}
use Rattle.turns.proofs.Round.{four-bits}
use Rattle.turns.proofs.place_worth.Goals as goal

-- src/lib.rt:15:1
pub returns : goal.returns
returns c =
    let n = c.args.n in
    rw (one-mul, mod-eq_of_lt (pow-lt {i = 4 * n} {j = 64} (omega arith))) (four-bits n, pow_mono {i = 4 * n} {j = 28} (omega arith))
