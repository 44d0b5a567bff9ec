use mathlib.Core.Path.{◌∙◌}
use Rattle.slot_lists.specs.Lists.{list_at}
use Rattle.filing.specs.Filing.{in_aRow}
use Rattle.table.proofs.Leave.{meant-now}
use Rattle.table.proofs.Footprint.{clock-changed, clock-beside}
use Rattle.table.proofs.Stores.{length-cells}
use Rattle.table.specs.Layout.{cells}
use Rattle.table.proofs.set_clock.Goals as goal

pub returns : goal.returns
returns c =
    let s = c in
    let w = cells s.args.t.now in
    let v = s.args.v.0 in
    let n = c.set_cell.ensures in
    record {
      state = meant-now s.args.t.now _ _ n ∙ clock-changed w v (in_aRow (list_at s.args.t.now)) (length-cells s.args.t.now);
      beside = λ b. rw n.words (clock-beside w v b);
      rest = n.rest;
    }
