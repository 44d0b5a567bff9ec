-- `editions_of` meets its contract. Assumes nothing.
use mathlib.Core.Path.{ap, ◌∙◌}
use Rattle.editions.specs.Part.{last_in, new_in}
use Rattle.editions.proofs.Lent.{tail_all}
use Rattle.table.specs.Layout.{SIZE}
use Rattle.show.proofs.editions_of.Goals as goal

pub returns : goal.returns
returns c =
    let s = c in
    let t = s.args.t.now in
    (c.last-last.ensures ∙ ap last_in (tail_all SIZE t), c.new-waiting.ensures ∙ ap new_in (tail_all SIZE t))
