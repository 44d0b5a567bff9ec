use Rattle.good.proofs.Whole.{whole-good, good-found, good-lanes, good-framing, says-iff}
use Rattle.good.specs.declared.Found.{Found}
use Rattle.std.specs.Prelude.{Option}
use Rattle.good.specs.Pass.{PassSays}
use lib.ListN.{get_or}
use Rattle.rules.specs.State.{clock_edge, lane_depth}
use Rattle.table.specs.Layout.{cells, depth_word, framing_word}
use Rattle.table.specs.Means.{lane_of}
use Rattle.lane_test.specs.Says.{LaneGood}
use mathlib.Core.Path.{◌≡◌, subst}
use native.Mathlib.Omega.{arith}
use Prim.Native.Nat.{◌<◌, ◌≤◌}
use borrow.Author.Rules.{rules}
use Rattle.good.proofs.good.Goals as goal

pub returns-then-cell-gt-MOST_FRAMING : goal.returns-then-cell-gt-MOST_FRAMING
returns-then-cell-gt-MOST_FRAMING c = λ g. omega (arith, good-framing _ g, c.cell-2.ensures, c.if-cell-gt-MOST_FRAMING.true)

pub returns-in-None : goal.returns-in-None
unfolding PassSays
returns-in-None c =
    let t = c.args.t.now in
    let v = c.clock-v.result.0 in
    λ g. (subst (λ (r : Option Found). PassSays v (cells t) (lane_of (cells t)) (LaneGood v (cells t)) r) c.in-None.is c.lanes_good.ensures) (good-lanes t v c.clock-v.ensures g)

pub returns-in-Some : goal.returns-in-Some
unfolding PassSays
returns-in-Some c =
    let t = c.args.t.now in
    let v = c.clock-v.result.0 in
    let clock = c.clock-v.ensures in
    let deep : get_or (cells t) depth_word 0 ≡ lane_depth = omega (arith, c.cell.ensures, c.if-cell-ne-DEPTH.false) in
    let framed : get_or (cells t) framing_word 0 ≤ 64 = omega (arith, c.cell-2.ensures, c.if-cell-gt-MOST_FRAMING.false) in
    let found = subst (λ (r : Option Found). PassSays v (cells t) (lane_of (cells t)) (LaneGood v (cells t)) r) c.in-Some.is c.lanes_good.ensures in
    let near : v < clock_edge = search rules in
    says-iff c.found_good.result
    (λ q. whole-good t v _ clock found c.if-t-lt-SIZE.false near deep framed q)
    (good-found t v _ clock found)
    c.found_good.ensures
