-- `numbers_are` meets its contract. Assumes nothing.
use mathlib.Core.Path.{sym, ap, ◌∙◌}
use mathlib.Core.Bool.{false≢true}
use Rattle.rules.specs.State.{Setting}
use Rattle.halt.proofs.Setups.{lane-last}
use Rattle.halt.proofs.numbers_are.Goals as goal

pub returns-then-shared : goal.returns-then-shared
returns-then-shared c = λ e. false≢true (sym (ap (λ (x : Setting). x.shared) e) ∙ c.if-shared.true)

pub returns-then-weight-wanted : goal.returns-then-weight-wanted
returns-then-weight-wanted c = λ e. c.if-weight-wanted.true (ap (λ (x : Setting). x.weight) e)

pub returns-then-longest-ne-LONGEST : goal.returns-then-longest-ne-LONGEST
returns-then-longest-ne-LONGEST c = λ e. c.if-longest-ne-LONGEST.true (ap (λ (x : Setting). x.longest) e)

pub returns : goal.returns
returns c =
    let a = c.args in
    lane-last a.weight a.longest a.framing a.shared a.wanted c.if-shared.false c.if-weight-wanted.false c.if-longest-ne-LONGEST.false
