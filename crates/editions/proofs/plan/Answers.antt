-- `plan` meets its contract. Assumes nothing.
use borrow.Author.Rules.{rules}
use mathlib.Core.List.{List}
use mathlib.Core.Path.{sym, ap, subst, ◌∙◌}
use Prim.Native.Nat.{ℕ}
use lib.ListN.{drop}
use Rattle.plan.specs.Read.{settings}
use Rattle.plan_writer.specs.Write.{Planned, planned}
use Rattle.plan_writer.proofs.Numbered.{numbered-all}
use Rattle.plan_area.specs.Area.{plan_in, Gives}
use Rattle.editions.proofs.Lent.{tail_all}
use Rattle.editions.proofs.plan.Goals as goal

pub returns : goal.returns
returns c =
    let r = c.plan_in.result in
    let p = c.args.p.now in
    let g : Gives (plan_in (drop 16 p)) (planned r) = subst (λ (a : List ℕ). Gives (plan_in a) (planned r)) (tail_all 16 p) c.plan_in.ensures.0 in
    (g, λ w. sym (numbered-all (settings r) c.plan_in.ensures.1) ∙ ap (λ (x : Planned). x.lanes) (g.same w))
