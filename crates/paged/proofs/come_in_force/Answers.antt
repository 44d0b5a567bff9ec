-- `come_in_force` meets its contract. Assumes nothing.
use borrow.Author.Rules.{rules}
use mathlib.Core.List.{map}
use native.Mathlib.Omega.{arith}
use Rattle.plan.specs.Read.{setting_of}
use Rattle.paged.proofs.Lending.{forced}
use Rattle.paged.proofs.come_in_force.Goals as goal

pub returns : goal.returns
returns c =
    let s = c in
    let w = c.write in
    let p = c.set_taken in
    forced s.args.t.now w.new.t p.new.p s.args.edition (map setting_of s.args.lanes) (omega (arith, s.requires.0, w.auto.t)) w.ensures p.auto.p p.ensures
