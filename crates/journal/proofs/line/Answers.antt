-- `line` meets its contract. Assumes nothing.
use native.Mathlib.Omega.{arith}
use Rattle.journal.proofs.Steps.{found-board, found_none, line-bad, line-beyond, line-free, line-holds}
use mathlib.Core.Path.{ap}
use mathlib.Core.Bool.{not}
use Rattle.journal.proofs.line.Goals as goal

pub returns-then-not-sound : goal.returns-then-not-sound
returns-then-not-sound c = line-bad _ c.args.t.now (found_none c.args.t.now c.sound.result c.sound.ensures (ap not c.if-not-sound.true))

pub returns-then-k-ge-LINES : goal.returns-then-k-ge-LINES
returns-then-k-ge-LINES c = line-beyond c.args.at c.args.t.now (found-board c.args.t.now c.sound.result c.sound.ensures (ap not c.if-not-sound.false)) c.if-k-ge-LINES.true

pub line_at-l-requires : goal.line_at-l-requires
line_at-l-requires c = ((found-board c.args.t.now c.sound.result c.sound.ensures (ap not c.if-not-sound.false)).room, omega arith)

pub returns-then-l-eq0 : goal.returns-then-l-eq0
returns-then-l-eq0 c = line-free c.args.at c.args.t.now c.line_at-l.result (found-board c.args.t.now c.sound.result c.sound.ensures (ap not c.if-not-sound.false)) c.line_at-l.ensures c.if-l-eq0.true

pub returns : goal.returns
returns c = line-holds c.args.at c.args.t.now c.line_at-l.result (found-board c.args.t.now c.sound.result c.sound.ensures (ap not c.if-not-sound.false)) c.line_at-l.ensures c.if-l-eq0.false
