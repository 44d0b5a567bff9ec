-- `put_number` meets its contract: the digits of a short number one by one, of any other by their width. Assumes nothing.
use mathlib.Core.Path.{refl, ap, ◌∙◌}
use mathlib.Core.List.{List, [], ◌∷◌}
use Prim.Native.Nat.{ℕ, ◌+◌, ◌/◌, ◌%◌}
use native.Mathlib.Numerals.{add-one}
use native.Mathlib.Omega.{arith}
use lib.ListN.{length, length-set}
use lib.Seq.{sets}
use Rattle.text.proofs.Stores.{sets-append}
use Rattle.text.proofs.Widths.{written-width, written-digits, decimal-one, decimal-two, decimal-three, decimal-four}
use Rattle.text.proofs.put_number.Goals as goal

pub bounds-a-at : goal.bounds-a-at
bounds-a-at c = omega (arith, ap length (decimal-one _ c.if-n-lt10.true))

pub returns-then-n-lt10 : goal.returns-then-n-lt10
returns-then-n-lt10 c = rw (decimal-one _ c.if-n-lt10.true, c.digit.ensures) (refl, refl)

pub put_two-requires : goal.put_two-requires
put_two-requires c = (omega (arith, ap length (decimal-two _ c.if-n-lt10.false c.if-n-lt100.true)), c.if-n-lt100.true)

pub returns-then-n-lt100 : goal.returns-then-n-lt100
returns-then-n-lt100 c = rw (decimal-two _ c.if-n-lt10.false c.if-n-lt100.true) (c.put_two.ensures, refl)

pub bounds-a-at-then-n-lt1000 : goal.bounds-a-at-then-n-lt1000
bounds-a-at-then-n-lt1000 c = omega (arith, ap length (decimal-three _ c.if-n-lt100.false c.if-n-lt1000.true))

pub put_two-requires-then-n-lt1000 : goal.put_two-requires-then-n-lt1000
put_two-requires-then-n-lt1000 c = (simp length-set (omega (arith, ap length (decimal-three _ c.if-n-lt100.false c.if-n-lt1000.true))), omega arith)

pub returns-then-n-lt1000 : goal.returns-then-n-lt1000
returns-then-n-lt1000 c = rw (decimal-three _ c.if-n-lt100.false c.if-n-lt1000.true) (c.put_two-then-n-lt1000.ensures ∙ rw (c.digit-then-n-lt1000.ensures, add-one), refl)

pub put_two-requires-then-n-lt10000 : goal.put_two-requires-then-n-lt10000
put_two-requires-then-n-lt10000 c = (omega (arith, ap length (decimal-four _ c.if-n-lt1000.false c.if-n-lt10000.true)), omega arith)

pub put_two-requires-then-n-lt10000-2 : goal.put_two-requires-then-n-lt10000-2
put_two-requires-then-n-lt10000-2 c = (omega (arith, ap length (decimal-four _ c.if-n-lt1000.false c.if-n-lt10000.true), c.put_two-then-n-lt10000.auto.a), omega arith)

pub returns-then-n-lt10000 : goal.returns-then-n-lt10000
returns-then-n-lt10000 c =
    let s = c in
    let n = s.args.n in
    rw (decimal-four n c.if-n-lt1000.false c.if-n-lt10000.true)
    (c.put_two-then-n-lt10000-2.ensures ∙ rw c.put_two-then-n-lt10000.ensures (sets-append s.args.a.now s.args.at ((48 + n / 100 / 10) ∷ (48 + n / 100 % 10) ∷ []) ((48 + n % 100 / 10) ∷ (48 + n % 100 % 10) ∷ [])), refl)

pub put_digits-requires : goal.put_digits-requires
put_digits-requires c = omega (arith, written-width _ c.ranges.n.fits c.width-k.ensures.0)

pub returns : goal.returns
returns c =
    let s = c in
    let w = c.width-k.ensures.0 in
    (c.put_digits.ensures ∙ ap (λ (ds : List ℕ). sets s.args.a.now s.args.at ds) (written-digits s.args.n s.ranges.n.fits w), omega (arith, written-width s.args.n s.ranges.n.fits w))
