-- `head_at` meets its contract. Assumes nothing.
use mathlib.Core.Path.{sym, ap, ◌∙◌}
use Rattle.requests.specs.Request.{size_is}
use Rattle.requests.proofs.Heads.{head-none, head-cut, head-unknown, head-wrong, head-right}
use Rattle.requests.proofs.head_at.Goals as goal

pub returns-in-Nothing : goal.returns-in-Nothing
returns-in-Nothing c = sym (head-none _ _ (sym c.field_at.ensures ∙ c.in-Nothing.is))

pub returns-in-Cut : goal.returns-in-Cut
returns-in-Cut c = sym (head-cut _ _ (sym c.field_at.ensures ∙ c.in-Cut.is))

pub returns-in-None : goal.returns-in-None
returns-in-None c = sym (head-unknown _ _ _ _ _ (sym c.field_at.ensures ∙ c.in-Header.is) (sym c.size_of.ensures ∙ ap size_is c.in-None.is))

pub returns-then-length-n : goal.returns-then-length-n
returns-then-length-n c = sym (head-right _ _ _ _ _ (sym c.field_at.ensures ∙ c.in-Header.is) _ (sym c.size_of.ensures ∙ ap size_is c.in-Some.is) c.if-length-n.true)

pub returns-else-length-n : goal.returns-else-length-n
returns-else-length-n c = sym (head-wrong _ _ _ _ _ (sym c.field_at.ensures ∙ c.in-Header.is) _ (sym c.size_of.ensures ∙ ap size_is c.in-Some.is) c.if-length-n.false)
