-- `rest_lanes` meets its contract. Assumes nothing.
use Rattle.fresh.proofs.Leaves.{still-weight, rest-none, rest_skip, rest-same, rest_more}
use Rattle.fresh.specs.Makes.{rested_to}
use Rattle.words.specs.declared.SetBits.{SetBits}
use Rattle.words.proofs.Walk.{Left, left-all, next-present, left-after}
use Rattle.table.specs.Layout.{cells, present_word}
use Rattle.table.specs.Means.{meant, Leaves}
use Rattle.table.proofs.Leave.{sound-after}
use Rattle.table.proofs.Next.{next-bit, next-end}
use lib.ListN.{get_or}
use Prim.Native.Nat.{ℕ, ◌+◌}
use mathlib.Core.Path.{◌≡◌, refl, sym, ap, subst, ◌∙◌}
use native.Mathlib.Omega.{arith}
use Rattle.fresh.proofs.rest_lanes.Goals as goal

pub loop-k-init : goal.loop-k-init
loop-k-init c =
    let t = c.args.t.now in
    let word : c.into_iter-k-iterator.result.0 ≡ get_or (cells t) present_word 0 = ap (λ (s : SetBits). s.0) c.into_iter-k-iterator.ensures.into_iter_gives ∙ c.cell.ensures in
    (0, subst (λ (x : ℕ). Left (get_or (cells t) present_word 0) x 0) (sym word) (left-all _), rest-none t, c.requires)

pub rest_lane-requires : goal.rest_lane-requires
rest_lane-requires c =
    let t = c.args.t.now in
    let l = c.loop-k in
    let w = l.invariant in
    let next = c.in-Some.ensures.steps in
    let here = rest_skip t _ refl w.0 _ (next-bit w.1 next) w.2 in
    (w.3, next.small, still-weight t _ _ refl c.requires c.in-Some.k next.small (rest-same t _ refl l.t _ next.small here) (next-present w.1 next))

pub loop-k-preserved : goal.loop-k-preserved
loop-k-preserved c =
    let t = c.args.t.now in
    let l = c.loop-k in
    let w = l.invariant in
    let r = c.rest_lane in
    let next = c.in-Some.ensures.steps in
    let here = rest_skip t _ refl w.0 _ (next-bit w.1 next) w.2 in
    (c.in-Some.k + 1, left-after w.1 next, rest_more t _ refl l.t _ next.small here _ r.ensures, sound-after w.3 r.ensures r.auto.t)

pub returns : goal.returns
returns c =
    let w = c.loop-k.invariant in rest_skip c.args.t.now _ refl w.0 64 (next-end w.1 c.in-None.ensures.steps.0) w.2
