use Rattle.fresh.specs.Makes.{lane_settings}
use Rattle.rules.specs.State.{setting_at}
use Prim.Native.Nat.{ℕ, ◌<◌}
use mathlib.Core.Path.{◌≡◌}
use Rattle.fresh.proofs.line_framing.Given as goal

abbrev pub invariant-loop-g : goal.invariant-loop-g
invariant-loop-g l = (j : ℕ) → j < l.g-index → (setting_at (lane_settings l.fn.lanes) j).weight ≡ 0
