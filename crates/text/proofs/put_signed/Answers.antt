-- `put_signed` meets its contract. Assumes nothing.
use mathlib.Core.Path.{◌≡◌, ap, ◌∙◌}
use lib.IntN.{nat_abs}
use mir.Syntax.{w64}
use mir.ValLaws.{to_z-of_z}
use Prim.Native.Nat.{ℕ}
use native.Mathlib.Numerals.{add-one}
use native.Mathlib.Omega.{arith}
use lib.ListN.{length, length-set}
use Rattle.text.specs.Decimal.{decimal}
use Rattle.text.proofs.Signed.{signed_below, signed-not-below}
use Rattle.text.proofs.put_signed.Goals as goal

pub bounds-a-at : goal.bounds-a-at
bounds-a-at c = let s = c in omega (arith, ap length (signed_below s.args.z s.ranges.z c.if-z-lt0.true))

pub put_number-requires : goal.put_number-requires
put_number-requires c =
    let s = c in
    simp length-set (omega (arith, ap length (signed_below s.args.z s.ranges.z c.if-z-lt0.true), ap (λ (n : ℕ). length (decimal n)) (c.unsigned_abs-n.ensures.value ∙ ap nat_abs (to_z-of_z w64 s.args.z s.ranges.z))))

pub put_number-requires-else-z-lt0 : goal.put_number-requires-else-z-lt0
put_number-requires-else-z-lt0 c =
    let s = c in
    omega (arith, ap length (signed-not-below s.args.z s.ranges.z c.if-z-lt0.false), ap (λ (n : ℕ). length (decimal n)) (c.unsigned_abs-n.ensures.value ∙ ap nat_abs (to_z-of_z w64 s.args.z s.ranges.z)))

pub returns-then-z-lt0 : goal.returns-then-z-lt0
returns-then-z-lt0 c =
    let s = c in
    let p = c.put_number.ensures in
    let m : c.unsigned_abs-n.result ≡ nat_abs s.args.z = c.unsigned_abs-n.ensures.value ∙ ap nat_abs (to_z-of_z w64 s.args.z s.ranges.z) in
    let text = signed_below s.args.z s.ranges.z c.if-z-lt0.true in
    (p.0 ∙ rw (add-one, m, text), omega (arith, p.1, ap length text, ap (λ (n : ℕ). length (decimal n)) m))

pub returns-else-z-lt0 : goal.returns-else-z-lt0
returns-else-z-lt0 c =
    let s = c in
    let p = c.put_number-else-z-lt0.ensures in
    let m : c.unsigned_abs-n.result ≡ nat_abs s.args.z = c.unsigned_abs-n.ensures.value ∙ ap nat_abs (to_z-of_z w64 s.args.z s.ranges.z) in
    let text = signed-not-below s.args.z s.ranges.z c.if-z-lt0.false in
    (p.0 ∙ rw (m, text), omega (arith, p.1, ap length text, ap (λ (n : ℕ). length (decimal n)) m))
