use native.Mathlib.Omega.{arith}
use Rattle.fields.proofs.Numbers.{big-two}
use Rattle.fields.proofs.u16_at.Goals as goal

pub returns : goal.returns
returns c =
    let a = c.args in
    let e = c.from_be_bytes.ensures in
    omega (arith, big-two a.s.now a.at, e)
