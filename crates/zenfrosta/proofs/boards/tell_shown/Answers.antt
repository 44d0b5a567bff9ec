-- `boards::tell_shown` meets its contract. Assumes nothing.
use mathlib.Core.Path.{◌≡◌, refl, ◌∙◌}
use Rattle.std.specs.Prelude.{Option, Some, None, Ok, Err}
use Rattle.desk_line.specs.declared.Line.{Line}
use Rattle.journal.specs.Reads.{shown}
use Rattle.zenfrosta.specs.Board.{board_code}
use Rattle.zenfrosta.proofs.Spoken.{told-as}
use Rattle.zenfrosta.proofs.boards.tell_shown.Goals as goal

-- what stands on a line is told by 0
shown-code : (l : Option Line) → 0 ≡ board_code (shown (Ok l))
shown-code None = refl
shown-code (Some l) = refl

pub returns-in-Ok : goal.returns-in-Ok
returns-in-Ok c =
    let e = c.in-Ok.is in (rw e (shown-code c.in-Ok.l), told-as _ _ _ _ (c.line_words.ensures ∙ rw e) c.speak.ensures)

pub returns-in-Err : goal.returns-in-Err
returns-in-Err c =
    let e = c.in-Err.is in let w = c.refuse.ensures in (rw e w.0, rw e w.1)
