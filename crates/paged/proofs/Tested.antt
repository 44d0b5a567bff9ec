-- From the two tests to a good table. Assumes nothing.
use Prim.Native.Nat.{ℕ, ◌-◌, ◌≤◌}
use mathlib.Core.Path.{◌≡◌, sym, subst}
use mathlib.Core.Bool.{Bool}
use mathlib.Core.List.{List}
use lib.ListN.{length, take, drop}
use Rattle.rules.specs.State.{any_holds}
use Rattle.lane_test.specs.Says.{Says}
use Rattle.good.specs.Table.{GoodTable}
use Rattle.good.proofs.Whole.{says-iff}
use Rattle.editions.specs.Part.{GoodPart}
use Rattle.editions.proofs.Lent.{tail_all}
use Rattle.table.specs.Layout.{SIZE, table_size}
use Rattle.table.specs.Means.{meant}
use Rattle.paged.specs.Paged.{part_of, GoodUnit}

pub unit-says : (t : List ℕ) (held b : Bool) → table_size ≤ length t → GoodTable t → held ≡ any_holds (meant t).lanes → Says b (GoodPart held (take (length t - SIZE) (drop SIZE t)))
    → Says b (GoodUnit t)
unit-says t held b room core e s =
    let at : GoodPart held (take (length t - SIZE) (drop SIZE t)) → GoodPart (any_holds (meant t).lanes) (part_of t) =
    λ g. subst (λ (h : Bool). GoodPart h (part_of t)) e (subst (GoodPart held) (tail_all SIZE t) g) in
    let back : GoodPart (any_holds (meant t).lanes) (part_of t) → GoodPart held (take (length t - SIZE) (drop SIZE t)) =
    λ g. subst (GoodPart held) (sym (tail_all SIZE t)) (subst (λ (h : Bool). GoodPart h (part_of t)) (sym e) g) in
    says-iff b (λ g. record { room = room; core = core; part = at g }) (λ g. back g.part) s
