-- `page_good` meets its contract. Assumes nothing.
use borrow.Author.Rules.{rules}
use mathlib.Core.Path.{sym, ◌∙◌}
use native.Mathlib.Omega.{arith}
use Rattle.plan_writer.specs.Write.{planned}
use Rattle.page_test.proofs.Tested.{good_none, good-some, not-held, plan-tells}
use mathlib.Core.Path.{ap}
use mathlib.Core.Bool.{not}
use Rattle.page_test.proofs.page_good.Goals as goal

pub returns-then-waits-eq0 : goal.returns-then-waits-eq0
returns-then-waits-eq0 c =
    let s = c in
    good_none s.args.held s.args.p.now (sym c.new-waits.ensures ∙ c.if-waits-eq0.true) (omega (arith, c.last-taken.ensures, c.if-taken-gt-MOST_EDITION.false))

pub returns-then-not-held : goal.returns-then-not-held
returns-then-not-held c =
    let s = c in
    not-held s.args.held s.args.p.now (λ z. c.if-waits-eq0.false (c.new-waits.ensures ∙ z)) (ap not c.if-not-held.true)

pub returns-then-waits-taken : goal.returns-then-waits-taken
returns-then-waits-taken c = λ g.
    let s = c in
    let new = c.new-waits.ensures in
    omega (
      arith,
      (good-some s.args.held s.args.p.now (λ z. c.if-waits-eq0.false (new ∙ z)) g).2,
      new,
      c.last-taken.ensures,
      c.if-waits-taken.true,
    )

pub returns : goal.returns
returns c =
    let s = c in
    let last = c.last-taken.ensures in
    let new = c.new-waits.ensures in
    plan-tells s.args.held s.args.p.now
    (λ z. c.if-waits-eq0.false (new ∙ z))
    (ap not c.if-not-held.false)
    (omega (arith, last, c.if-taken-gt-MOST_EDITION.false))
    (omega (arith, new, c.if-waits-gt-MOST_EDITION.false))
    (omega (arith, last, new, c.if-waits-taken.false))
    c.within.result
    (planned c.plan.result)
    c.plan.ensures.0
    c.within.ensures
