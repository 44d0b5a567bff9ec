-- `width` meets its contract. The loop's invariant: `left` is n without its k lowest digits, and no smaller k is enough. Assumes nothing.
use mathlib.Core.Path.{ap, ◌∙◌}
use Prim.Native.Nat.{ℕ, ◌/◌, ◌^◌, ◌≤◌}
use native.Mathlib.Numerals.{add-one}
use native.Mathlib.Omega.{arith}
use Rattle.text.proofs.Widths.{left-next, left-some, left-none, ten-small, ten-mono}
use Rattle.text.proofs.width.Goals as goal

pub loop-left-preserved : goal.loop-left-preserved
loop-left-preserved c =
    let n = c.args.n in
    let k = c.loop-left.k in
    let inv = c.loop-left.invariant in
    let some : 10 ^ k ≤ n = left-some n k (omega (arith, inv.0)) in
    rw (add-one k)
    (ap (λ (x : ℕ). x / 10) inv.0 ∙ left-next n k, omega arith, ten-small n k c.ranges.n.fits some, λ j p q. ten-mono n k j some q)

pub returns : goal.returns
returns c =
    let n = c.args.n in
    let k = c.loop-left.k in
    let inv = c.loop-left.invariant in
    (record { some = inv.1; enough = left-none n k (omega (arith, inv.0)); none_below = inv.3 }, inv.2)
