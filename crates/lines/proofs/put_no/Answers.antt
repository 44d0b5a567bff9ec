-- `put_no` meets its contract. Assumes nothing.
use Prim.Native.Nat.{◌≤◌}
use native.Mathlib.Omega.{arith}
use mathlib.Core.Path.{◌≡◌}
use mathlib.Core.Option.{some}
use lib.ListN.{length}
use Rattle.rules.specs.Reads.{number, place_of}
use Rattle.lines.specs.Line.{no_line}
use Rattle.lines.proofs.Most.{no-most}
use borrow.Author.Rules.{rules}
use Rattle.lines.proofs.put_no.Goals as goal

pub put_line-requires : goal.put_line-requires
put_line-requires c =
    let long : length (no_line c.number-n.result (some c.in-Some.p)) ≤ 64 = no-most c.number-n.result (some c.in-Some.p) (omega (arith, c.number-n.ensures.1), search rules) in
    omega (arith, c.requires, long)

pub returns-in-Some : goal.returns-in-Some
returns-in-Some c =
    let with-place : no_line (number c.args.x) (place_of c.args.x) ≡ no_line c.number-n.result (some c.in-Some.p) = rw (← c.number-n.ensures.0, ← c.place_of.ensures, c.in-Some.is) in
    let long : length (no_line c.number-n.result (some c.in-Some.p)) ≤ 64 = no-most c.number-n.result (some c.in-Some.p) (omega (arith, c.number-n.ensures.1), search rules) in
    rw with-place (record { wrote = c.put_line.ensures; most = long })
