-- `shared_lanes` meets its contract. Assumes nothing.
use Rattle.std.proofs.Common.{◌≡◌, ◌∙◌, length, arith, rules}
use Rattle.std.specs.Prelude.{count_by}
use Rattle.std.proofs.lemmas.List.Sums.{count_by-le-length}
use Rattle.plan.specs.declared.Lane.{Lane}
use Rattle.plan_writer.proofs.Lane.{shares-counted}
use Rattle.plan_writer.proofs.shared_lanes.Goals as goal

pub returns : goal.returns
returns c =
    let size : length c.args.lanes ≡ 64 = search rules in
    let counted : c.count.result ≡ count_by (λ (l : Lane). l.shared) c.args.lanes = search rules in
    (counted ∙ shares-counted c.args.lanes size, omega (arith, count_by-le-length (λ (l : Lane). l.shared) c.args.lanes))
