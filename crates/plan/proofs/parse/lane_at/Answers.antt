-- `plan::parse::lane_at` meets its contract. Assumes nothing.
use native.Mathlib.Omega.{arith}
use Rattle.plan.proofs.Tags.{lane-three}
use Rattle.plan.proofs.parse.lane_at.Goals as goal

pub bounds-s-at : goal.bounds-s-at
bounds-s-at c =
    let a = c.args in omega (arith, lane-three a.n c.requires.0)

pub u16_at-requires : goal.u16_at-requires
u16_at-requires c =
    let a = c.args in omega (arith, lane-three a.n c.requires.0)

pub returns : goal.returns
returns c = rw (c.u16_at.ensures.0, c.longest_at.ensures)
