-- `record` meets its contract. Assumes nothing.
use mathlib.Core.Path.{refl, ap}
use mathlib.Core.Bool.{not}
use Rattle.std.proofs.lemmas.Result.{err_from_is_err_and}
use Rattle.journal.specs.Record.{read_record}
use Rattle.journal.proofs.Steps.{found-board, found_none}
use Rattle.journal.proofs.Entered.{record-bad, record-faulty, record-said}
use Rattle.journal.proofs.record.Goals as goal

pub returns-then-not-sound : goal.returns-then-not-sound
returns-then-not-sound c = record-bad (read_record c.args.field.now) c.args.t.now (found_none c.args.t.now c.sound.result c.sound.ensures (ap not c.if-not-sound.true))

pub enter-requires : goal.enter-requires
enter-requires c = (found-board c.args.t.now c.sound.result c.sound.ensures (ap not c.if-not-sound.false), c.in_ok-r.ensures.1)

pub returns-in_err-r : goal.returns-in_err-r
returns-in_err-r c =
    let p = err_from_is_err_and c.from_residual.result c.from_residual.ensures.1 in
    rw (p.1, p.2) (record-faulty (read_record c.args.field.now) c.args.t.now _ _ _ (found-board c.args.t.now c.sound.result c.sound.ensures (ap not c.if-not-sound.false)) refl c.in_err-r.ensures)

pub returns : goal.returns
returns c = record-said (read_record c.args.field.now) c.args.t.now _ _ _ c.in_ok-r.ensures.0 c.enter.ensures
