-- `clear` meets its contract. Assumes nothing.
use mathlib.Core.Path.{refl, sym, subst}
use native.Mathlib.Omega.{arith}
use Rattle.desk.specs.Calls.{clear}
use Rattle.journal.specs.Step.{BoardStep}
use Rattle.std.specs.Prelude.{Ok}
use Rattle.journal.proofs.Steps.{found-board, clear-absent, clear-joined, clear-done}
use mathlib.Core.Path.{ap}
use mathlib.Core.Bool.{not}
use Rattle.journal.proofs.clear.Goals as goal

pub returns-in_default : goal.returns-in_default
returns-in_default c = clear-absent c.args.t.now c.args.train 64 (found-board c.args.t.now c.sound.result c.sound.ensures (ap not c.if-not-sound.false)) c.in_default.ensures refl

pub returns-then-l-ne-LEFT : goal.returns-then-l-ne-LEFT
returns-then-l-ne-LEFT c = clear-joined c.args.t.now c.args.train c.in-Some.k (found-board c.args.t.now c.sound.result c.sound.ensures (ap not c.if-not-sound.false)) c.in-Some.ensures.0 c.line_at-l.result c.line_at-l.ensures c.if-l-ne-LEFT.true

pub returns : goal.returns
returns c = subst (BoardStep (clear c.args.train) c.args.t.now (Ok c.in-Some.k)) (sym c.set_line.ensures) (clear-done c.args.t.now c.args.train c.in-Some.k (found-board c.args.t.now c.sound.result c.sound.ensures (ap not c.if-not-sound.false)) c.in-Some.ensures.0 c.line_at-l.result c.line_at-l.ensures (omega arith) c.in-Some.ensures.1 (omega arith))
