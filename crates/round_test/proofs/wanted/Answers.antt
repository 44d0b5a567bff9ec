use Prim.Native.Nat.{ℕ, ◌+◌, ◌*◌, ◌%◌}
use native.Mathlib.Omega.{arith}
use mathlib.Core.Path.{ap}
use Rattle.words.proofs.Bits.{shift_one}
use Rattle.round_test.proofs.wanted.Goals as goal

pub returns : goal.returns
returns c =
    let a = c.args in
    record {
      names = c.seen.result;
      seen = c.seen.ensures;
      is = ap (λ (x : ℕ). c.seen.result + 256 * a.named + 4096 * (x % 256)) (shift_one (a.order % 16) (omega arith));
    }
