-- `write` meets its contract. Assumes nothing.
use mathlib.Core.Path.{◌∙◌}
use native.Mathlib.Omega.{arith}
use Rattle.convert.proofs.Copying.{carried, copied-past}
use borrow.Author.Rules.{rules}
use Rattle.convert.proofs.write.Goals as goal

pub copy-requires : goal.copy-requires
copy-requires c = (c.requires.0.room, c.requires.1)

pub lanes_over-requires : goal.lanes_over-requires
lanes_over-requires c =
    let s = c in
    let copied = c.copy in
    let deep = c.set_cell in
    (s.requires.0, omega (arith, s.requires.1, copied.auto.new, deep.auto.t), carried s.args.old.now s.args.new.now _ _ copied.ensures deep.ensures)

pub returns : goal.returns
returns c =
    let s = c in
    let copied = c.copy in
    let deep = c.set_cell in
    let lanes = c.lanes_over in
    (lanes.ensures.0, lanes.ensures.1.past ∙ copied-past s.args.old.now s.args.new.now _ _ copied.ensures deep.ensures)
