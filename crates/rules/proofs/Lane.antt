-- Facts about one lane's numbers, on which the fairness proof rests:
--   (A) w c ≥ 2 ^ 20, since c is rounded up;
--   (B) an accepted record's charge times c is at most the slot;
--   (C) R ≤ S < R + s (units/proofs/Round.antt);
--   (D) rounding down keeps the order (there too).
-- And what the rest knows of a charge: it grows with the length, and is at most `most` for the longest record of all. Assumes nothing.
use Prim.Native.Nat.{ℕ, ◌+◌, ◌*◌, ◌^◌, ◌≤◌, ◌<◌}
use native.Mathlib.Nat.{le_trans, mul-le-mul_right}
use native.Mathlib.Omega.{arith}
use lib.Pow.{pow_pos, pow_mono}
use Rattle.units.proofs.PerByte.{rate-weight-ge}
use Rattle.units.proofs.Group.{span-le-slot, group-le, group-ge}
use Rattle.rules.specs.State.{Setting, charge, rate, group, slot}
use Rattle.rules.specs.Setup.{InNumbers}

-- (A)
pub weight-rate : (g : Setting) → 0 < g.weight → 2 ^ 20 ≤ g.weight * rate g
weight-rate g h = omega (arith, rate-weight-ge g.weight h)

-- ---- the only places that know how a record is charged

pub charge-mono : (g : Setting) (n m : ℕ) → n ≤ m → charge g n ≤ charge g m
unfolding charge
charge-mono g n m h = omega arith

pub le-charge : (g : Setting) (n : ℕ) → n ≤ charge g n
unfolding charge
le-charge g n = omega arith

pub charge-le : (g : Setting) (n : ℕ) → n ≤ 1500 → charge g n ≤ 1500 + g.framing
unfolding charge
charge-le g n h = omega arith

-- ---- the slot

-- (B)
pub charge-slot : (g : Setting) (n : ℕ) → n ≤ g.longest → charge g n * rate g ≤ slot g
unfolding slot group
charge-slot g n h = le_trans (mul-le-mul_right (rate g) (charge-mono g n g.longest h)) (span-le-slot (charge g g.longest * rate g))

pub slot-pos : (g : Setting) → 0 < slot g
unfolding slot
slot-pos g = pow_pos (group g)

pub group-most : (g : Setting) → g.longest ≤ 1500 → g.framing ≤ 64 → group g ≤ 31
unfolding group
group-most g h f = group-le g.weight (charge g g.longest) (omega (arith, charge-le g g.longest h))

pub group-least : (g : Setting) → InNumbers g → 16 ≤ group g
unfolding group
group-least g n = group-ge g.weight (charge g g.longest) n.weight_low n.weight_high (omega (arith, n.longest_low, le-charge g g.longest))

pub slot-most : (g : Setting) → g.longest ≤ 1500 → g.framing ≤ 64 → slot g ≤ 2 ^ 31
unfolding slot
slot-most g h f = pow_mono (group-most g h f)
