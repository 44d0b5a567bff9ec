-- `most_of` meets its contract. Assumes nothing.
use mathlib.Core.Path.{sym, ◌∙◌}
use borrow.Author.Tests.{not-true, not-false}
use Rattle.show.specs.Shows.{RowFound}
use Rattle.show.proofs.WorstWaits.{most-absent, row_small, row-most-is}
use mathlib.Core.Path.{ap}
use mathlib.Core.Bool.{not}
use Rattle.show.proofs.most_of.Goals as goal

pub returns-then-not-present : goal.returns-then-not-present
returns-then-not-present c =
    let s = c in
    most-absent s.args.t.now s.args.k s.requires.1 (sym c.present.ensures ∙ not-true c.present.result (ap not c.if-not-present.true))

pub row_most-requires : goal.row_most-requires
row_most-requires c =
    let s = c in
    let p = c.present in
    let f : RowFound s.args.t.now s.args.k c.row.result
    = (s.requires.0, s.requires.1, sym p.ensures ∙ not-false p.result (ap not c.if-not-present.false), c.row.ensures.0, c.row.ensures.1) in
    row_small s.args.t.now s.args.k c.row.result f

pub returns : goal.returns
returns c =
    let s = c in
    let p = c.present in
    let r = c.row in
    let f : RowFound s.args.t.now s.args.k r.result
    = (s.requires.0, s.requires.1, sym p.ensures ∙ not-false p.result (ap not c.if-not-present.false), r.ensures.0, r.ensures.1) in
    c.row_most.ensures ∙ row-most-is s.args.t.now s.args.k r.result f
