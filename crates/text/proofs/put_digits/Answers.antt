-- `put_digits` meets its contract. The loop's invariant: the digits behind place i are stored, and `left` is the number without them. Assumes nothing.
use mathlib.Core.Path.{◌≡◌, refl, ap, ◌∙◌}
use Prim.Native.Nat.{ℕ, suc, ◌+◌, ◌-◌, ◌/◌, ◌%◌, ◌^◌}
use native.Mathlib.Nat.{sub_self}
use native.Mathlib.Omega.{arith}
use Rattle.text.specs.Decimal.{digits}
use Rattle.text.proofs.Stores.{sets-before}
use Rattle.text.proofs.Widths.{left-next}
use Rattle.text.proofs.put_digits.Goals as goal

pub loop-i-init : goal.loop-i-init
unfolding digits
loop-i-init c = rw sub_self (omega arith, refl)

pub loop-i-preserved : goal.loop-i-preserved
unfolding digits
loop-i-preserved c =
    let at = c.args.at in
    let k = c.args.k in
    let n = c.args.n in
    let i = c.loop-i.i in
    let left = c.loop-i.left in
    let inv = c.loop-i.invariant in
    let more : k - (i - 1) ≡ suc (k - i) = omega arith in
    let place : at + i ≡ suc (at + (i - 1)) = omega arith in
    let digit : 48 + left % 10 ≡ 48 + n / 10 ^ (k - i) % 10 = ap (λ (x : ℕ). 48 + x % 10) inv.0 in
    (rw more (ap (λ (x : ℕ). x / 10) inv.0 ∙ left-next n (k - i)), rw (more, inv.1, place, digit) (sets-before c.args.a.now (at + (i - 1)) (48 + n / 10 ^ (k - i) % 10) (digits (k - i) n)))
