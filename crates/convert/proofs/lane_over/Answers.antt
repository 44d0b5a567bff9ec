-- `lane_over` meets its contract. Assumes nothing.
use mathlib.Core.Path.{refl}
use native.Mathlib.Omega.{arith}
use Rattle.table.proofs.Stores.{behind-refl}
use Rattle.convert.proofs.Moving.{row_sized, none_over, moved}
use borrow.Author.Rules.{rules}
use Rattle.convert.proofs.lane_over.Goals as goal

pub row-l-requires : goal.row-l-requires
row-l-requires c =
    let s = c in (omega (arith, s.requires.0.room), s.requires.2)

pub returns-then-l-eq0 : goal.returns-then-l-eq0
returns-then-l-eq0 c =
    let s = c in
    let r = c.row-l in
    let idle = c.if-l-eq0.true in
    moved s.args.old.now s.args.k s.requires.2 s.requires.3 (s.requires.0.agrees.rows s.args.k s.requires.2 s.requires.3) (s.requires.0.agrees.paced s.args.k s.requires.2 s.requires.3) s.args.new.now s.args.new.now _ s.requires.4 (λ i q. refl) behind-refl r.result r.ensures.0
    (none_over _ _ s.args.k _ _ idle) (λ some. absurd (omega (arith, idle))) c.row_over.ensures

pub records_over-requires : goal.records_over-requires
records_over-requires c =
    let s = c in
    let r = c.row-l in
    let l = row_sized s.args.old.now s.args.k r.result r.ensures.0 s.requires.0 s.requires.2 s.requires.3 in
    (s.requires.0.room, s.requires.1, s.requires.2, r.ensures.1, l.count, l.low, l.high, l.lengths)

pub row_over-requires-2 : goal.row_over-requires-2
row_over-requires-2 c =
    let s = c in
    let r = c.row-l in
    let l = row_sized s.args.old.now s.args.k r.result r.ensures.0 s.requires.0 s.requires.2 s.requires.3 in
    (omega (arith, s.requires.1, c.records_over.auto.new), s.requires.2, l.count)

pub returns : goal.returns
returns c =
    let s = c in
    let r = c.row-l in
    let f = c.records_over.ensures in
    moved s.args.old.now s.args.k s.requires.2 s.requires.3 (s.requires.0.agrees.rows s.args.k s.requires.2 s.requires.3) (s.requires.0.agrees.paced s.args.k s.requires.2 s.requires.3) s.args.new.now _ _ s.requires.4 f.kept f.rest r.result r.ensures.0
    f.ring (λ some. f.places) c.row_over-2.ensures
