-- `group_index` meets its contract: the digits of span - 1 are the least exponent. Assumes nothing.
use native.Mathlib.Omega.{arith}
use lib.Count.{leading_le}
use Rattle.units.proofs.Group.{least-leading}
use Rattle.units.proofs.group_index.Goals as goal

pub overflow_sub-result-2 : goal.overflow_sub-result-2
overflow_sub-result-2 c = leading_le 64 _

pub returns : goal.returns
returns c =
    let l = least-leading c.args.span.0 (omega arith) (omega arith) in
    (l, l.none_below 63 (omega arith))
