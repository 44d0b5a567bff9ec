use native.Mathlib.Omega.{arith}
use Rattle.table.specs.Layout.{place_in_lane}
use Rattle.table.proofs.Places.{entry_read}
use Rattle.table.proofs.record_at.Goals as goal

pub returns : goal.returns
returns c =
    let s = c in
    (entry_read (place_in_lane s.args.k s.args.i) (omega (arith, s.requires.1)) s.args.t.now c.quarter-length.result c.half-mark.result c.quarter-length.ensures.0 c.half-mark.ensures.0, omega (arith, c.quarter-length.ensures.1))
