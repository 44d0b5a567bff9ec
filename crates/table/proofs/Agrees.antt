-- What a row that agrees with its setting gives: its group lies in 16 to 31. Assumes nothing.
use mathlib.Core.Path.{◌≡◌, ap, ◌∙◌}
use Prim.Native.Nat.{ℕ, ◌*◌, ◌≤◌}
use native.Mathlib.Omega.{arith}
use Rattle.units.specs.Numbers.{least_power, Least}
use Rattle.units.proofs.Group.{least-unique}
use Rattle.rules.specs.State.{Setting, charge, rate, group}
use Rattle.rules.proofs.Lane.{group-most, group-least}
use Rattle.table.specs.Means.{RowAgrees, RowPaced, given_of}
use Rattle.table.specs.declared.LaneRow.{LaneRow}
use Rattle.table.proofs.Rows.{retimed}

-- that of its setting does
pub setting-group : (l : LaneRow) → RowAgrees l → (16 ≤ group (given_of l)) × (group (given_of l) ≤ 31)
setting-group l a = (group-least (given_of l) a.numbers, group-most (given_of l) a.numbers.longest_high a.framing)

-- and so does the one that stands in the row, while the lane holds records
pub paced-group : (l : LaneRow) → RowAgrees l → RowPaced l → (16 ≤ l.group) × (l.group ≤ 31)
paced-group l a p = (omega (arith, p.grouped, (setting-group l a).0), omega (arith, p.grouped, (setting-group l a).1))

-- clock word and ring say nothing of it
pub paced-retimed : (l : LaneRow) (x h n : ℕ) → RowPaced l → RowPaced (retimed l x h n)
paced-retimed l x h n p = record { rated = p.rated; grouped = p.grouped }

-- the least power for the charge of the longest record
pub group-worked : (g : Setting) (c n i : ℕ) → c ≡ rate g → n ≡ charge g g.longest * c → Least n i → i ≡ group g
unfolding group
group-worked g c n i rated span l = least-unique n i l ∙ ap least_power (span ∙ ap (λ (x : ℕ). charge g g.longest * x) rated)
