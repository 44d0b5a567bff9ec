-- `sound` meets its contract. Assumes nothing.
use mathlib.Core.Path.{◌≡◌, refl, sym, ◌∙◌}
use native.Mathlib.Omega.{arith}
use borrow.Author.Tests.{not-true, not-false}
use lib.ListN.{get_or, length-set}
use Rattle.board.specs.Layout.{board_of}
use Rattle.board.proofs.Means.{passed-more, passed-all, fails-formed, fails-parted}
use Rattle.board.proofs.Tested.{parted-known, seen_more}
use mathlib.Core.Path.{ap}
use mathlib.Core.Bool.{not}
use Rattle.board.proofs.sound.Goals as goal

pub returns-then-not-formed_at : goal.returns-then-not-formed_at
returns-then-not-formed_at c =
    let l = c.loop-k in fails-formed c.args.t.now l.k (omega arith) (sym c.formed_at.ensures.0 ∙ not-true c.formed_at.result (ap not c.if-not-formed_at.true))

pub returns-then-not-parted : goal.returns-then-not-parted
returns-then-not-parted c =
    let l = c.loop-k in fails-parted c.args.t.now l.k (parted-known (board_of c.args.t.now) l.k c.parted.result _ c.parted.ensures (not-true c.parted.result (ap not c.if-not-parted.true)))

pub loop-k-preserved : goal.loop-k-preserved
loop-k-preserved c =
    let l = c.loop-k in
    let f = c.formed_at in
    let p = c.parted in
    let i = c.bucket-i in
    let u = c.train_at-train in (
      l.invariant.0,
      passed-more c.args.t.now l.k l.invariant.1 (omega arith) f.ensures.1 (sym f.ensures.0 ∙ not-false f.result (ap not c.if-not-formed_at.false)) (parted-known (board_of c.args.t.now) l.k p.result _ p.ensures (not-false p.result (ap not c.if-not-parted.false))),
      seen_more (board_of c.args.t.now) l.k u.result i.result (get_or l.seen i.result 0) c.mark.result l.seen l.invariant.3 l.invariant.2 u.ensures i.ensures.0 refl c.mark.ensures,
      length-set l.seen i.result c.mark.result ∙ l.invariant.3,
    )

pub returns : goal.returns
returns c =
    let l = c.loop-k in passed-all c.args.t.now l.invariant.0 (let e : l.k ≡ 64 = omega arith in rw e at l.invariant.1)
