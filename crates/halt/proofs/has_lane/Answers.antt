-- `has_lane` meets its contract. Assumes nothing.
use mathlib.Core.Path.{sym, ◌∙◌}
use borrow.Author.Tests.{not-true, not-false}
use Rattle.halt.proofs.Tables.{absent-says, row-says}
use borrow.Author.Rules.{rules}
use mathlib.Core.Path.{ap}
use mathlib.Core.Bool.{not}
use Rattle.halt.proofs.has_lane.Goals as goal

pub returns-then-not-present : goal.returns-then-not-present
returns-then-not-present c =
    let s = c in
    let p = c.present in
    absent-says s.args.t.now s.args.k s.args.weight s.requires.1 s.requires.2 (sym p.ensures ∙ not-true p.result (ap not c.if-not-present.true))

pub returns : goal.returns
returns c =
    let s = c in
    let p = c in
    let r = c.row-l in
    row-says s.args.t.now s.args.k s.args.weight s.requires.1 (sym p.present.ensures ∙ not-false p.present.result (ap not p.if-not-present.false))
    r.result r.ensures.0 c.numbers_are.result c.numbers_are.ensures
