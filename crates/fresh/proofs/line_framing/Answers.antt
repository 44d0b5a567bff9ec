use Rattle.fresh.proofs.Writing.{found-framing, weightless-at, none-framing}
use Rattle.fresh.specs.Makes.{lane_settings}
use Rattle.rules.specs.State.{setting_at}
use borrow.Author.Count.{below_more}
use mathlib.Core.Path.{◌≡◌}
use native.Mathlib.Omega.{arith}
use Rattle.fresh.proofs.line_framing.Goals as goal

pub returns-then-g-ne0 : goal.returns-then-g-ne0
returns-then-g-ne0 c = found-framing c.args.lanes c.requires c.loop-g.g-index c.if-g-ne0.true

pub loop-g-preserved : goal.loop-g-preserved
loop-g-preserved c =
    let l = c.loop-g in
    below_more (λ j. (setting_at (lane_settings c.args.lanes) j).weight ≡ 0) l.g-index l.invariant (weightless-at c.args.lanes c.requires l.g-index c.if-g-ne0.false)

pub returns : goal.returns
returns c = none-framing c.args.lanes c.requires (λ k b. c.loop-g.invariant k (omega arith))
