-- `convert` meets its contract. Assumes nothing.
use native.Mathlib.Omega.{arith}
use Rattle.lane_test.proofs.Setting.{says-yes, says-no}
use Rattle.convert.proofs.Answering.{converts-short, converts-bad, converts-done}
use borrow.Author.Rules.{rules}
use mathlib.Core.Path.{ap}
use mathlib.Core.Bool.{not}
use Rattle.convert.proofs.convert.Goals as goal

pub returns-then-new-lt-NEW_SIZE : goal.returns-then-new-lt-NEW_SIZE
returns-then-new-lt-NEW_SIZE c =
    let s = c in converts-short s.args.old.now s.args.new.now c.if-new-lt-NEW_SIZE.true

pub returns-then-not-good : goal.returns-then-not-good
returns-then-not-good c =
    let s = c in converts-bad s.args.old.now s.args.new.now c.if-new-lt-NEW_SIZE.false (says-no c.good.result c.good.ensures (ap not c.if-not-good.true))

pub write-requires : goal.write-requires
write-requires c = (says-yes c.good.result c.good.ensures (ap not c.if-not-good.false), omega (arith, c.if-new-lt-NEW_SIZE.false))

pub returns : goal.returns
returns c =
    let s = c in
    let w = c.write in
    let p = c.set_taken in
    converts-done s.args.old.now s.args.new.now w.new.new p.new.p c.if-new-lt-NEW_SIZE.false (says-yes c.good.result c.good.ensures (ap not c.if-not-good.false)) w.auto.new w.ensures.0 w.ensures.1 p.auto.p p.ensures
