use mathlib.Core.Path.{ap, ◌∙◌}
use Prim.Native.Nat.{ℕ, ◌*◌}
use native.Mathlib.Nat.{mul-le-mul}
use native.Mathlib.Omega.{arith}
use Rattle.table.specs.Means.{given_of}
use Rattle.table.proofs.Agrees.{setting-group, group-worked}
use Rattle.table.proofs.pace_of.Goals as goal

pub group_index-group-requires : goal.group_index-group-requires
group_index-group-requires c =
    let charged = c.charged in
    let rate = c.lane_rate-rate in
    omega (arith, c.lane_charge.ensures, mul-le-mul {n₁ = charged.result.0} {m₁ = rate.result.0} {n₂ = 1564} {m₂ = 1048576} (omega (arith, charged.ensures.1, c.requires.numbers.longest_high)) rate.ensures.2)

pub returns : goal.returns
returns c =
    let span = c.lane_charge in
    let charged = c.charged in
    let rate = c.lane_rate-rate in
    let s = c in
    let l = s.args.l in
    let grouped = group-worked (given_of l) rate.result.0 span.result.0 c.group_index-group.result rate.ensures.0 (span.ensures ∙ ap (λ (x : ℕ). x * rate.result.0) charged.ensures.0) c.group_index-group.ensures.0 in
    let bounds = setting-group l s.requires in
    (record { rated = rate.ensures.0; grouped = grouped }, rate.ensures.2, omega (arith, grouped, bounds.0), omega (arith, grouped, bounds.1))
