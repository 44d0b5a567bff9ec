use mathlib.Core.Path.{subst}
use Prim.Native.Nat.{◌<◌, ◌≤◌}
use borrow.Author.Rules.{rules}
use native.Mathlib.Omega.{arith}
use lib.ListN.{get_or}
use Rattle.rules.specs.Older.{old_edge}
use Rattle.table.specs.Layout.{cells, framing_word}
use Rattle.good.specs.declared.Found.{Found}
use Rattle.std.specs.Prelude.{Option}
use Rattle.good.specs.Pass.{PassSays}
use Rattle.good.proofs.Whole.{says-iff}
use Rattle.old_table.specs.Old.{old_lane}
use Rattle.old_table.specs.Tested.{OldLaneGood}
use Rattle.old_table.proofs.Whole.{whole-old, old-found, old-lanes, old-framed, old-clock}
use Rattle.old_table.proofs.good.Goals as goal

pub returns-then-ge : goal.returns-then-ge
returns-then-ge c =
    let past : old_edge ≤ c.cell.result = search rules in
    λ g. omega (arith, past, c.cell.ensures, old-clock _ g)

pub returns-then-cell-gt-MOST_FRAMING : goal.returns-then-cell-gt-MOST_FRAMING
returns-then-cell-gt-MOST_FRAMING c = λ g. omega (arith, old-framed _ g, c.cell-2.ensures, c.if-cell-gt-MOST_FRAMING.true)

pub returns-in-None : goal.returns-in-None
unfolding PassSays
returns-in-None c =
    let l = c in
    let v = l in
    let t = v.args.t.now in
    λ g. (subst (λ (r : Option Found). PassSays v.cell.result (cells t) (old_lane (cells t)) (OldLaneGood v.cell.result (cells t)) r) c.in-None.is l.lanes_good.ensures) (old-lanes t v.cell.result v.cell.ensures g)

pub returns-in-Some : goal.returns-in-Some
unfolding PassSays
returns-in-Some c =
    let l = c in
    let e = l in
    let v = e in
    let t = v.args.t.now in
    let framed : get_or (cells t) framing_word 0 ≤ 64 = omega (arith, e.cell-2.ensures, e.if-cell-gt-MOST_FRAMING.false) in
    let found = subst (λ (r : Option Found). PassSays v.cell.result (cells t) (old_lane (cells t)) (OldLaneGood v.cell.result (cells t)) r) c.in-Some.is l.lanes_good.ensures in
    let near : v.cell.result < old_edge = search rules in
    says-iff c.found_good.result
    (λ q. whole-old t v.cell.result _ v.cell.ensures found v.if-t-lt-SIZE.false near framed q)
    (old-found t v.cell.result _ v.cell.ensures found)
    c.found_good.ensures
