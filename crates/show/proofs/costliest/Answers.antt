-- `costliest` meets its contract. Assumes nothing.
use Prim.Native.Nat.{◌-◌, ◌≤◌, max}
use native.Mathlib.Omega.{arith}
use mathlib.Core.Path.{◌≡◌}
use lib.ListN.{drop}
use borrow.Author.Rules.{rules}
use Rattle.rules.specs.State.{setup_of}
use Rattle.rules.specs.Setup.{longest_charge}
use Rattle.table.specs.Means.{meant}
use Rattle.show.proofs.WorstWaits.{most-more, most-all}
use Rattle.show.proofs.costliest.Goals as goal

pub loop-k-init : goal.loop-k-init
loop-k-init c = omega arith

pub loop-k-preserved : goal.loop-k-preserved
loop-k-preserved c =
    let l = c.loop-k in
    let s = c in
    most-more s.args.t.now s.requires l.k l.most l.invariant (omega arith) c.most_of-here.result c.greater-most.result c.most_of-here.ensures c.greater-most.ensures

pub returns : goal.returns
returns c =
    let l = c.loop-k in
    let s = c in
    most-all s.args.t.now s.requires l.k l.most l.invariant (omega arith)
