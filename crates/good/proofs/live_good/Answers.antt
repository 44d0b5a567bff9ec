use Rattle.good.proofs.Whole.{says-live}
use native.Mathlib.Omega.{arith}
use Rattle.good.proofs.live_good.Goals as goal

pub returns-then-f-eq0 : goal.returns-then-f-eq0
returns-then-f-eq0 c = λ h. absurd (omega (arith, c.if-f-eq0.true))

pub returns : goal.returns
returns c = says-live c.args.f.eligible c.args.f.held (omega (arith, c.if-f-eq0.false))
