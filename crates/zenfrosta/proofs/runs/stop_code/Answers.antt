-- `stop_code` meets its contract. Assumes nothing.
use mathlib.Core.Path.{sym, ap, ◌∙◌}
use borrow.Author.Rules.{rules}
use Rattle.walk.specs.Follows.{why_of}
use Rattle.walk.specs.declared.Stop.{Stop}
use Rattle.zenfrosta.specs.Crossing.{stop_code}
use Rattle.zenfrosta.proofs.runs.stop_code.Goals as goal

pub returns-in-Refused : goal.returns-in-Refused
returns-in-Refused c = c.number.ensures.0 ∙ sym (ap (λ (w : Stop). stop_code (why_of w)) c.in-Refused.is)
