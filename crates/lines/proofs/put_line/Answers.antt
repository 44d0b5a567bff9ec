-- `put_line` meets its contract. The loop's invariant: what is left of the line is its numbers from this one on. Assumes nothing.
use Prim.Native.Nat.{◌+◌, ◌≤◌}
use mathlib.Core.List.{[], ◌∷◌, ◌++◌}
use native.Mathlib.Omega.{arith}
use lib.ListN.{length, get_or}
use Rattle.text.specs.Decimal.{decimal}
use Rattle.lines.proofs.Writing.{Left, left-part, left-none, left-fits, wrote-both, wrote-byte, tail, line-long, tail-end, tail_more}
use Rattle.lines.proofs.put_line.Goals as goal

pub put_spaced-p-requires : goal.put_spaced-p-requires
put_spaced-p-requires c =
    let room : c.put_word-p.result + length (tail c.args.ns.now 0) ≤ length c.put_word-p.new.a = let s = c in
    let w = c.put_word-p in
    omega (arith, s.requires, line-long s.args.word.now s.args.ns.now, w.ensures.1, w.auto.a) in
    let next : Left c.put_word-p.new.a c.loop-n.a c.put_word-p.result (tail c.args.ns.now 0) c.loop-n.p
    ((32 ∷ decimal (get_or c.args.ns.now c.loop-n.n-index 0)) ++ tail c.args.ns.now (c.loop-n.n-index + 1)) = rw (tail_more c.args.ns.now c.loop-n.n-index c.loop-n-test.true) at c.loop-n.invariant in
    left-fits (32 ∷ decimal (get_or c.args.ns.now c.loop-n.n-index 0)) _ next room

pub loop-n-preserved : goal.loop-n-preserved
loop-n-preserved c =
    let next : Left c.put_word-p.new.a c.loop-n.a c.put_word-p.result (tail c.args.ns.now 0) c.loop-n.p
    ((32 ∷ decimal (get_or c.args.ns.now c.loop-n.n-index 0)) ++ tail c.args.ns.now (c.loop-n.n-index + 1)) = rw (tail_more c.args.ns.now c.loop-n.n-index c.loop-n-test.true) at c.loop-n.invariant in
    left-part (32 ∷ decimal (get_or c.args.ns.now c.loop-n.n-index 0)) _ next c.put_spaced-p.ensures

pub returns : goal.returns
returns c =
    let feed : Left c.put_word-p.new.a c.loop-n.a c.put_word-p.result (tail c.args.ns.now 0) c.loop-n.p (10 ∷ []) = rw (tail-end c.args.ns.now c.loop-n.n-index (omega arith)) at c.loop-n.invariant in
    let w = c.put_word-p.ensures in
    let s = c in
    wrote-both s.args.word.now (tail s.args.ns.now 0) (record { is = w.0; past = w.1 }) (left-none (left-part (10 ∷ []) [] feed (wrote-byte _ _ _)))
