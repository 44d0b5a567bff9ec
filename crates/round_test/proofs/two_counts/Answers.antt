use Prim.Native.Nat.{ℕ, ◌/◌}
use mathlib.Core.Path.{ap, ◌∙◌}
use lib.Bits.{bit_and}
use Rattle.round_test.proofs.Counts.{two-masked}
use Rattle.round_test.proofs.two_counts.Goals as goal

pub returns : goal.returns
returns c = ap (λ (x : ℕ). bit_and (x / 8) 64424509455) c.both.ensures.0 ∙ two-masked _ _ c.both.ensures.1
