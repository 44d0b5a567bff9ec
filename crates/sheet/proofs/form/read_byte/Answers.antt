-- `form::read_byte` meets its contract. Assumes nothing.
use mathlib.Core.Path.{sym, ap, ◌∙◌}
use Rattle.sheet.specs.declared.form.Step.TheVariants.{More}
use Rattle.sheet.proofs.Answers.{step-digit, step-many, step-stop, step_other, step-none, digit-is, extends-low}
use Rattle.sheet.proofs.form.read_byte.Goals as goal

pub grown-requires : goal.grown-requires
grown-requires c = (extends-low _ _ (sym c.extends.ensures ∙ c.if-extends.true) c.requires.1, digit-is _ (sym c.digit.ensures ∙ c.if-digit.true))

pub returns-then-extends : goal.returns-then-extends
returns-then-extends c = ap More c.grown.ensures ∙ step-digit _ _ _ (sym c.digit.ensures ∙ c.if-digit.true) (sym c.extends.ensures ∙ c.if-extends.true)

pub returns-then-digit : goal.returns-then-digit
returns-then-digit c = step-many _ _ _ (sym c.digit.ensures ∙ c.if-digit.true) (sym c.extends.ensures ∙ c.if-extends.false)

pub returns-then-b-stop : goal.returns-then-b-stop
returns-then-b-stop c = c.closed.ensures ∙ step-stop _ _ _ (sym c.digit.ensures ∙ c.if-digit.false) c.if-f.true (c.if-b-stop.true ∙ c.stop.ensures)

pub returns-else-b-stop : goal.returns-else-b-stop
returns-else-b-stop c = step_other _ _ _ (sym c.digit.ensures ∙ c.if-digit.false) (λ e. c.if-b-stop.false (e ∙ sym c.stop.ensures)) c.if-f.true

pub returns-else-f : goal.returns-else-f
returns-else-f c = step-none _ _ _ (sym c.digit.ensures ∙ c.if-digit.false) c.if-f.false
