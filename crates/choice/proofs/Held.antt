-- What is small in a good state: lane numbers, S, R and the groups' starts. Assumes nothing.
use Prim.Native.Nat.{ℕ, ◌^◌, ◌<◌}
use native.Mathlib.Omega.{arith}
use mathlib.Core.Path.{◌≡◌, subst}
use mathlib.Core.Bool.{true}
use mathlib.Core.List.{List}
use mathlib.Core.Option.{Option, none, some}
use Rattle.units.proofs.Round.{round-le}
use Rattle.rules.specs.State.{State, slot, start_r, first_of, holds, lane_at}
use Rattle.rules.specs.Good.{Times, Good}
use Rattle.rules.specs.Sets.{in_group, group_start}
use Rattle.rules.proofs.Queues.{held-inside}
use Rattle.rules.proofs.Figures.{slot_at}
use Rattle.rules.proofs.Lowest.{LowOf}
use Rattle.rules.proofs.GroupRule.{in_group_lem, group-low}
use Rattle.rules.proofs.Moves.{busy-first}
use Rattle.table.specs.Means.{meant}
use Rattle.table.proofs.Footprint.{lanes-many}

pub held_small : (t : List ℕ) (k : ℕ) → holds (lane_at (meant t) k) ≡ true → k < 64
held_small t k e =
    let f = busy-first (first_of (lane_at (meant t) k)) e in
    omega (arith, held-inside (meant t).lanes k f.0 f.1, lanes-many t)

-- a holding lane's S is below 2 ^ 63
pub start_small : (s : State) → Good s → (k : ℕ) → holds (lane_at s k) ≡ true → (lane_at s k).start < 2 ^ 63
start_small s g k e =
    let f = busy-first (first_of (lane_at s k)) e in
    let n : Times s.clock (lane_at s k) (some f.0) = subst (Times s.clock (lane_at s k)) f.1 (g.numbers k) in
    omega (arith, n.1, g.clock, slot_at s g.setup k)

-- every holding lane's R is below 2 ^ 63
pub held-early : (s : State) → Good s → (k : ℕ) → holds (lane_at s k) ≡ true → start_r (lane_at s k) < 2 ^ 63
held-early s g k e = omega (arith, round-le (slot (lane_at s k).given) (lane_at s k).start, start_small s g k e)

-- and so is every group's start
pub start-early : (s : State) → Good s → (i r : ℕ) → group_start s.lanes i ≡ some r → r < 2 ^ 63
start-early s g i r e = go (group_start s.lanes i) (group-low s.lanes i) e
  where
    go : (o : Option ℕ) → LowOf (in_group i) s.lanes o → o ≡ some r → r < 2 ^ 63
    go none h q = let z : ◌≡◌ {A = ℕ} 0 1 = cc in absurd (omega arith)
    go (some x) h q = let same : x ≡ r = cc in omega (arith, h.start, held-early s g h.at (in_group_lem i (lane_at s h.at) h.is).0)
