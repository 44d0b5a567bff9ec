-- `other_plan` meets its contract. Assumes nothing.
use Rattle.plan_area.proofs.Steps.{setup-good}
use Rattle.halt.proofs.Setups.{judged-refused, judged-by}
use Rattle.halt.proofs.other_plan.Goals as goal

pub lanes_are-requires : goal.lanes_are-requires
lanes_are-requires c = setup-good c.args.setup.now c.in-Ok.r c.in-Ok.ensures

pub returns-in-Ok : goal.returns-in-Ok
returns-in-Ok c = judged-by c.args.setup.now c.in-Ok.r c.in-Ok.ensures c.lanes_are.result c.lanes_are.ensures

pub returns-in-Err : goal.returns-in-Err
returns-in-Err c = judged-refused c.args.setup.now _ c.in-Err.ensures
