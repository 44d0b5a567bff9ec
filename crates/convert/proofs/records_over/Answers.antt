-- `records_over` meets its contract. The loop's invariant: the records before the next one are written. Assumes nothing.
use mathlib.Core.Path.{◌≡◌, subst}
use native.Mathlib.Omega.{arith}
use Rattle.convert.specs.Over.{Filled}
use Rattle.convert.proofs.Filling.{filled_none, filled-start, filled-then, filled_more, record-fits}
use Rattle.convert.proofs.records_over.Goals as goal

pub loop-i-init : goal.loop-i-init
loop-i-init c =
    let s = c in
    let n = c.clear_lengths in
    filled-start s.args.old.now s.args.new.now s.args.k s.requires.2 s.args.l _ (filled_none s.args.old.now s.args.new.now s.args.k s.requires.2 s.args.l _ s.requires.5 n.ensures)

pub set_record-requires : goal.set_record-requires
set_record-requires c =
    let l = c.loop-i in
    let s = c in
    let f = record-fits s.args.old.now s.args.new.now s.args.k s.requires.2 s.args.l l.i c.record_at-e.result s.requires.6 c.loop-i-test.true s.requires.7 c.record_at-e.ensures in
    (omega arith, s.requires.2, f.0.some, f.0.length)

pub loop-i-preserved : goal.loop-i-preserved
loop-i-preserved c =
    let l = c.loop-i in
    let s = c in
    let r = c.record_at-e in
    let lt = c.loop-i-test.true in
    let f = record-fits s.args.old.now s.args.new.now s.args.k s.requires.2 s.args.l l.i r.result s.requires.6 lt s.requires.7 r.ensures in
    filled_more s.args.old.now _ s.args.k s.requires.2 s.args.l l.new _ l.i r.result (omega (arith, lt, s.requires.4)) r.ensures f.0 f.1 l.invariant c.set_record.ensures

pub returns : goal.returns
returns c =
    let l = c.loop-i in
    let s = c in
    let n = c.clear_lengths in
    let e : l.i ≡ s.args.l.count = omega arith in
    subst (Filled _ _ _ _ _) e (filled-then s.args.old.now s.args.new.now s.args.k s.requires.2 s.args.l _ l.new l.i (filled_none s.args.old.now s.args.new.now s.args.k s.requires.2 s.args.l _ s.requires.5 n.ensures) l.invariant)
