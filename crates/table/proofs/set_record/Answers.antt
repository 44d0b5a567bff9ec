use native.Mathlib.Omega.{arith}
use Rattle.table.specs.Layout.{place_in_lane}
use Rattle.table.proofs.Places.{length-stored, mark-stored, entry-stored}
use Rattle.table.proofs.set_record.Goals as goal

pub returns : goal.returns
returns c =
    let s = c in
    let p = place_in_lane s.args.k s.args.i in
    entry-stored p (omega (arith, s.requires.1)) s.args.t.now _ _ s.args.e (length-stored p (omega (arith, s.requires.1)) _ _ _ c.set_quarter.ensures) (mark-stored p (omega (arith, s.requires.1)) _ _ _ c.set_half.ensures)
