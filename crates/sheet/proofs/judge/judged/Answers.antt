-- `judge::judged` meets its contract. Assumes nothing.
use mathlib.Core.Path.{refl, sym, ◌∙◌}
use borrow.Author.Tests.{lt-ltb, le-ltb, lt-leb, le-leb, not-false, not-true}
use Rattle.sheet.proofs.Rows.{verdict-by}
use mathlib.Core.Path.{ap}
use mathlib.Core.Bool.{not}
use Rattle.sheet.proofs.judge.judged.Goals as goal

pub returns-then-lane : goal.returns-then-lane
returns-then-lane c = verdict-by _ _ (lt-leb _ 63 c.if-lane.true) refl refl refl refl

pub returns-then-not-within : goal.returns-then-not-within
returns-then-not-within c = verdict-by _ _ (le-leb _ 63 c.if-lane.false) (sym c.within.ensures ∙ not-true c.within.result (ap not c.if-not-within.true)) refl refl refl

pub returns-then-not-within-2 : goal.returns-then-not-within-2
returns-then-not-within-2 c = verdict-by _ _ (le-leb _ 63 c.if-lane.false) (sym c.within.ensures ∙ not-false c.within.result (ap not c.if-not-within.false)) (sym c.within-2.ensures ∙ not-true c.within-2.result (ap not c.if-not-within-2.true)) refl refl

pub returns-then-lane-seen : goal.returns-then-lane-seen
returns-then-lane-seen c = verdict-by _ _ (le-leb _ 63 c.if-lane.false) (sym c.within.ensures ∙ not-false c.within.result (ap not c.if-not-within.false)) (sym c.within-2.ensures ∙ not-false c.within-2.result (ap not c.if-not-within-2.false)) (lt-ltb _ _ c.if-lane-seen.true) refl

pub returns-then-seen-weight-gt-MOST_TOTAL : goal.returns-then-seen-weight-gt-MOST_TOTAL
returns-then-seen-weight-gt-MOST_TOTAL c = verdict-by _ _ (le-leb _ 63 c.if-lane.false) (sym c.within.ensures ∙ not-false c.within.result (ap not c.if-not-within.false)) (sym c.within-2.ensures ∙ not-false c.within-2.result (ap not c.if-not-within-2.false)) (le-ltb _ _ c.if-lane-seen.false) (lt-ltb 1024 _ c.if-seen-weight-gt-MOST_TOTAL.true)

pub returns : goal.returns
returns c = verdict-by _ _ (le-leb _ 63 c.if-lane.false) (sym c.within.ensures ∙ not-false c.within.result (ap not c.if-not-within.false)) (sym c.within-2.ensures ∙ not-false c.within-2.result (ap not c.if-not-within-2.false)) (le-ltb _ _ c.if-lane-seen.false) (le-ltb 1024 _ c.if-seen-weight-gt-MOST_TOTAL.false)
