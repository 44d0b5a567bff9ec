-- `lanes_over` meets its contract. The loop's invariant: the lanes below some number are taken over, and what is left of the word are its bits from
-- there on. Assumes nothing.
use Prim.Native.Nat.{ℕ, ◌+◌}
use mathlib.Core.Path.{◌≡◌, sym, ap, subst, ◌∙◌}
use native.Mathlib.Omega.{arith}
use lib.ListN.{get_or}
use Rattle.words.specs.declared.SetBits.{SetBits}
use Rattle.words.proofs.Walk.{Left, left-all, next-present, left-after}
use Rattle.table.specs.Layout.{cells, present_word}
use Rattle.table.proofs.Stores.{behind-refl, behind-then}
use Rattle.table.proofs.Next.{next-bit, next-end, bit-present}
use Rattle.convert.proofs.Lanes.{over_none, over_skip, over-more}
use Rattle.convert.proofs.lanes_over.Goals as goal

pub cell-requires : goal.cell-requires
cell-requires c = (omega (arith, c.requires.0.room), omega arith)

pub loop-k-init : goal.loop-k-init
loop-k-init c =
    let old = c.args.old.now in
    let word : c.into_iter-k-iterator.result.0 ≡ get_or (cells old) present_word 0 = ap (λ (s : SetBits). s.0) c.into_iter-k-iterator.ensures.into_iter_gives ∙ c.cell.ensures in
    (0, subst (λ (x : ℕ). Left (get_or (cells old) present_word 0) x 0) (sym word) (left-all _), over_none old _ c.requires.2, behind-refl)

pub lane_over-requires : goal.lane_over-requires
lane_over-requires c =
    let w = c.loop-k.invariant in
    let next = c.in-Some.ensures.steps in
    (c.requires.0, omega arith, next.small, bit-present _ c.in-Some.k (next-present w.1 next), w.2.carried)

pub loop-k-preserved : goal.loop-k-preserved
loop-k-preserved c =
    let w = c.loop-k.invariant in
    let m = c.lane_over in
    let next = c.in-Some.ensures.steps in
    let here = over_skip c.args.old.now c.loop-k.new w.0 _ (next-bit w.1 next) w.2 in
    (c.in-Some.k + 1, left-after w.1 next, over-more c.args.old.now c.loop-k.new _ c.in-Some.k next.small m.ensures here, behind-then w.3 m.ensures.rest)

pub returns : goal.returns
returns c =
    let w = c.loop-k.invariant in (over_skip c.args.old.now c.loop-k.new w.0 64 (next-end w.1 c.in-None.ensures.steps.0) w.2, w.3)
