use Rattle.std.proofs.Common.{arith}
use Rattle.digits.proofs.Under.{gathered_none, gathered-more}
use Rattle.lane_test.proofs.gather.Goals as goal

pub loop-i-init : goal.loop-i-init
loop-i-init c = gathered_none c.args.t.now c.args.from c.args.bound

pub loop-i-preserved : goal.loop-i-preserved
loop-i-preserved c =
    let s = c in
    let l = c.loop-i in
    let w = c.word-x in
    gathered-more s.args.t.now s.args.from l.i s.args.bound l.tops w.result c.wrapping_add_u64.result s.requires.1 s.requires.2 w.ensures (omega (arith, w.type_inv)) c.wrapping_add_u64.ensures.value l.invariant
