-- `lengths_good` meets its contract. The loop's invariant: the records before the next one have lengths within the lane's numbers. Assumes nothing.
use mathlib.Core.Path.{ap}
use native.Mathlib.Omega.{arith}
use Rattle.table.specs.Layout.{cells}
use Rattle.table.specs.declared.Entry.{Entry}
use Rattle.old_table.proofs.Lengths.{ring-length, ring-lengths}
use Rattle.old_table.proofs.lengths_good.Goals as goal

pub returns-then-length-lt1 : goal.returns-then-length-lt1
returns-then-length-lt1 c =
    let s = c in
    let l = c.loop-i in
    let at = ap (λ (e : Entry). e.length.0) c.record_at-length.ensures in
    λ q. omega (arith, (ring-length s.args.l.longest.0 (cells s.args.t.now) s.args.k s.args.l.head s.args.l.count l.i c.loop-i-test.true q).0, at, c.if-length-lt1.true)

pub returns-then-length-longest : goal.returns-then-length-longest
returns-then-length-longest c =
    let s = c in
    let l = c.loop-i in
    let at = ap (λ (e : Entry). e.length.0) c.record_at-length.ensures in
    λ q. omega (arith, (ring-length s.args.l.longest.0 (cells s.args.t.now) s.args.k s.args.l.head s.args.l.count l.i c.loop-i-test.true q).1, at, c.if-length-longest.true)

pub returns : goal.returns
returns c =
    let s = c in
    let l = c.loop-i in
    ring-lengths s.args.l.longest.0 (cells s.args.t.now) s.args.k s.args.l.head s.args.l.count (λ i p. l.invariant i (omega (arith, c.loop-i-test.false)))
