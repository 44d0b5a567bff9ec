-- `shared_lane` meets its contract. Assumes nothing.
use mathlib.Core.Path.{sym, ap, ◌∙◌}
use Rattle.table.specs.declared.LaneRow.{LaneRow}
use Rattle.answers.proofs.Shared.{weighed-small, row_shared}
use borrow.Author.Rules.{rules}
use Rattle.answers.proofs.shared_lane.Goals as goal

pub row-l-requires : goal.row-l-requires
row-l-requires c = (search rules, weighed-small _ _ c.requires.1)

pub returns : goal.returns
returns c = ap (λ (l : LaneRow). l.shared) c.row-l.ensures.0 ∙ sym (row_shared _ _ c.requires.1)
