-- `group_bit` meets its contract. Assumes nothing.
use native.Mathlib.Nat.{one-mul, mod-eq_of_lt}
use native.Mathlib.Omega.{arith}
use lib.Pow.{pow-lt}
use borrow.Author.Rules.{rules}
use Rattle.choice.proofs.group_bit.Goals as goal

pub returns : goal.returns
returns c =
    let i = c.args.i in
    rw (one-mul, mod-eq_of_lt (pow-lt {i = i} {j = 64} (omega arith)))
