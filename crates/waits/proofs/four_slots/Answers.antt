-- `four_slots` meets its contract. Assumes nothing.
use native.Mathlib.Omega.{arith}
use mathlib.Core.Path.{ap, ◌∙◌}
use Prim.Native.Nat.{ℕ, ◌*◌}
use Rattle.waits.proofs.Laws.{product_small, index-small, slots-are}
use Rattle.waits.proofs.four_slots.Goals as goal

pub group_index-requires : goal.group_index-requires
group_index-requires c =
    let s = c in
    omega (arith, c.lane_charge.ensures, product_small s.args.charged.0 s.args.c.0 s.requires.0 s.requires.1)

pub slot-requires : goal.slot-requires
slot-requires c =
    let s = c in
    let p = c.lane_charge in
    let g = c.group_index in
    index-small s.args.charged.0 s.args.c.0 p.result.0 g.result p.ensures g.ensures.0
    (omega (arith, p.ensures, product_small s.args.charged.0 s.args.c.0 s.requires.0 s.requires.1))

pub returns : goal.returns
returns c =
    let s = c in
    let p = c.lane_charge in
    let g = c.group_index in
    let x = c.slot in
    (ap (λ (n : ℕ). 4 * n) x.ensures.0 ∙ slots-are s.args.charged.0 s.args.c.0 p.result.0 g.result p.ensures g.ensures.0, omega (arith, x.ensures.2))
