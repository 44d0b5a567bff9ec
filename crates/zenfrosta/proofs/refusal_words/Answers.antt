-- `refusal_words` meets its contract. Assumes nothing.
use mathlib.Core.Path.{sym, ap, ◌∙◌}
use Rattle.lines.specs.Line.{place_is}
use Rattle.zenfrosta.specs.Crossing.{refusal_words}
use borrow.Author.Rules.{rules}
use Rattle.zenfrosta.proofs.refusal_words.Goals as goal

pub returns-in-Some : goal.returns-in-Some
returns-in-Some c = ap refusal_words (sym (ap place_is c.in-Some.is) ∙ c.place_of.ensures)

pub returns-in-None : goal.returns-in-None
returns-in-None c = c.one.ensures ∙ ap refusal_words (sym (ap place_is c.in-None.is) ∙ c.place_of.ensures)
