-- `put_digits` meets its contract. The loop's invariant: the digits behind place i are stored, and `left` is the number without them. Assumes nothing.
use mathlib.Core.Path.{◌≡◌}
use Prim.Native.Nat.{◌+◌, ◌-◌, ◌/◌, ◌^◌}
use lib.Seq.{sets}
use Rattle.text.specs.Decimal.{digits}
use Rattle.text.proofs.put_digits.Given as goal

abbrev pub invariant-loop-i : goal.invariant-loop-i
invariant-loop-i l = (l.left ≡ l.n / 10 ^ (l.k - l.i)) × (l.a ≡ sets l.initial.a (l.at + l.i) (digits (l.k - l.i) l.n))
