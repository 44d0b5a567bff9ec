use mathlib.Core.Path.{refl}
use Prim.Native.Nat.{◌*◌, ◌/◌, ◌^◌, ◌<◌}
use native.Mathlib.Nat.{mod-eq_of_lt, div-mul-le_self}
use native.Mathlib.Omega.{arith}
use Rattle.units.proofs.Round.{round-div}
use Rattle.units.proofs.rounded_start.Goals as goal

pub returns : goal.returns
returns c =
    let s = c.args.start.0 in
    let i = c.args.index in
    let fits : s / 2 ^ i * 2 ^ i < 2 ^ 64 = omega (arith, div-mul-le_self s (2 ^ i), c.struct_known-1.given) in
    rw (mod-eq_of_lt fits, round-div) (refl, div-mul-le_self s (2 ^ i))
