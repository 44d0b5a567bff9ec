use Rattle.lane_test.proofs.Lane.{tops-say}
use Rattle.lane_test.proofs.no_top.Goals as goal

pub returns : goal.returns
returns c = tops-say c.args.x
