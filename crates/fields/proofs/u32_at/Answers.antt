-- `fields::u32_at` meets its contract. Assumes nothing.
use native.Mathlib.Omega.{arith}
use Rattle.fields.proofs.Numbers.{big-four}
use Rattle.fields.proofs.u32_at.Goals as goal

pub returns : goal.returns
returns c =
    let a = c.args in (omega (arith, big-four a.s.now a.at, c.u16_at-high.ensures.0, c.u16_at-low.ensures.0), omega (arith, c.u16_at-high.ensures.1, c.u16_at-low.ensures.1))
