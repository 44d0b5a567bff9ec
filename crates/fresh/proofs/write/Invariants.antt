use Rattle.fresh.specs.Makes.{Makes, lane_settings, up_to}
use Rattle.table.specs.Layout.{cells, framing_word}
use lib.ListN.{get_or}
use mathlib.Core.Path.{◌≡◌}
use Rattle.fresh.proofs.write.Given as goal

abbrev pub invariant-loop-k : goal.invariant-loop-k
invariant-loop-k l = Makes l.initial.t l.t (up_to l.k (lane_settings l.fn.lanes)) × (get_or (cells l.t) framing_word 0 ≡ l.h.0)
