-- `find` meets its contract. Assumes nothing.
use mathlib.Core.Path.{◌≡◌, refl, sym, ap, ◌∙◌}
use mathlib.Core.Bool.{not}
use mathlib.Core.Logic.{inr}
use borrow.Author.Tests.{not-true}
use Rattle.rules.specs.State.{lane_at, no_lane}
use Rattle.table.specs.Means.{meant}
use Rattle.engine.proofs.RowIs.{absent-lane, far-lane}
use Rattle.show.proofs.find.Goals as goal
use Rattle.show.proofs.find.Goals.{then-k-ge-LANES-via-then-k-ge-LANES, then-k-ge-LANES-via-else-k-ge-LANES+then-not-present}

pub returns-then-k-ge-LANES : goal.returns-then-k-ge-LANES
returns-then-k-ge-LANES c =
    let t = c.args.t.now in
    let absent : lane_at (meant t) c.args.lane ≡ no_lane = elim c.then-k-ge-LANES.branch [
      | then-k-ge-LANES-via-then-k-ge-LANES w ↦ far-lane t c.args.lane w.if-k-ge-LANES.true
      | then-k-ge-LANES-via-else-k-ge-LANES+then-not-present w ↦
          absent-lane t c.args.lane w.if-k-ge-LANES.false (sym w.present.ensures ∙ not-true w.present.result (ap not w.if-not-present.true))
    ] in
    inr ((c.in_ok-tested.ensures.good, absent), refl)
