-- `make` meets its contract. Assumes nothing.
use native.Mathlib.Omega.{arith}
use Rattle.plan_area.proofs.Steps.{setup-good}
use Rattle.scheduler.proofs.Made.{make-short, make-made}
use Rattle.scheduler.proofs.make.Goals as goal

pub returns-then-t-lt-SIZE : goal.returns-then-t-lt-SIZE
returns-then-t-lt-SIZE c = make-short c.args.setup.now c.args.t.now c.if-t-lt-SIZE.true

pub come_in_force-requires : goal.come_in_force-requires
come_in_force-requires c = (c.if-t-lt-SIZE.false, omega arith, setup-good c.args.setup.now c.in_ok-plan.field-0 c.in_ok-plan.ensures)

pub returns : goal.returns
returns c = make-made c.args.setup.now c.args.t.now _ c.if-t-lt-SIZE.false c.in_ok-plan.field-0 c.in_ok-plan.ensures c.come_in_force.auto.t c.come_in_force.ensures
