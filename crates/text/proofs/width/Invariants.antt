-- `width` meets its contract. The loop's invariant: `left` is n without its k lowest digits, and no smaller k is enough. Assumes nothing.
use mathlib.Core.Path.{◌≡◌}
use Prim.Native.Nat.{ℕ, ◌/◌, ◌^◌, ◌≤◌, ◌<◌}
use Rattle.text.proofs.width.Given as goal

abbrev pub invariant-loop-left : goal.invariant-loop-left
invariant-loop-left l = (l.left ≡ l.n / 10 ^ l.k) × (0 < l.k) × (l.k ≤ 20) × ((j : ℕ) → 0 < j → l.n < 10 ^ j → l.k ≤ j)

abbrev pub decreases-loop-left : goal.decreases-loop-left
decreases-loop-left l = l.left
