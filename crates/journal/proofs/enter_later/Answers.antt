-- `enter_later` meets its contract. Assumes nothing.
use mathlib.Core.Path.{sym, subst, ◌∙◌}
use Rattle.desk.specs.Calls.{enter_record}
use Rattle.journal.specs.Step.{BoardStep}
use Rattle.std.specs.Prelude.{Ok}
use Rattle.journal.specs.Record.{rec_line}
use Rattle.journal.proofs.Entered.{out-of-turn, not-following, follows_on, follows_next}
use borrow.Author.Tests.{not-true, not-false}
use mathlib.Core.Path.{ap}
use mathlib.Core.Option.{some}
use Rattle.board.specs.Layout.{put_line}
use mathlib.Core.Bool.{not}
use Rattle.journal.proofs.enter_later.Goals as goal

pub returns-then-not-in_turn : goal.returns-then-not-in_turn
returns-then-not-in_turn c = out-of-turn c.args.t.now (rec_line c.args.r) c.requires.0 c.args.k c.requires.2 c.requires.3 c.requires.4 c.line_at-old.result c.line_at-old.ensures (sym c.in_turn.ensures ∙ not-true c.in_turn.result (ap not c.if-not-in_turn.true))

pub returns-then-not-follows : goal.returns-then-not-follows
returns-then-not-follows c = not-following c.args.t.now (rec_line c.args.r) c.requires.0 c.args.k c.requires.2 c.requires.3 c.requires.4 c.line_at-old.result c.line_at-old.ensures (sym c.in_turn.ensures ∙ not-false c.in_turn.result (ap not c.if-not-in_turn.false)) (sym c.follows.ensures ∙ not-true c.follows.result (ap not c.if-not-follows.true))

pub returns : goal.returns
returns c = subst (BoardStep (enter_record (rec_line c.args.r)) c.args.t.now (Ok c.args.k)) (sym (c.set_line.ensures ∙ ap (λ x. put_line c.args.t.now c.args.k (some x)) (follows_next c.args.t.now (rec_line c.args.r) c.requires.0 c.args.k c.requires.2 c.requires.3 c.requires.4 c.line_at-old.result c.line_at-old.ensures c.changed-next.result c.changed-next.ensures))) (follows_on c.args.t.now (rec_line c.args.r) c.requires.0 c.args.k c.requires.2 c.requires.3 c.requires.4 c.line_at-old.result c.line_at-old.ensures c.requires.1 (sym c.in_turn.ensures ∙ not-false c.in_turn.result (ap not c.if-not-in_turn.false)) (sym c.follows.ensures ∙ not-false c.follows.result (ap not c.if-not-follows.false)))
