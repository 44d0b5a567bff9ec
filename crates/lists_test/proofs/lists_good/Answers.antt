use mathlib.Core.Path.{◌≡◌, sym, ap, subst, ◌∙◌}
use Prim.Native.Nat.{ℕ, ◌+◌, ◌%◌, ◌^◌, ◌<◌}
use native.Mathlib.Omega.{arith}
use Rattle.words.specs.declared.SetBits.{SetBits}
use Rattle.words.proofs.Walk.{Left, left-all, next-present, left-after}
use Rattle.table.proofs.Next.{next-bit, next-end}
use Rattle.slot_lists.specs.Lists.{groups_at}
use Rattle.lists_test.specs.Stored.{GroupSays}
use Rattle.std.specs.Prelude.{Option}
use Rattle.lists_test.proofs.WordBits.{bit-under, bit-over}
use Rattle.lists_test.proofs.GroupWalk.{pass-none, pass-next, pass_step, pass-bad, pass_same, pass-other, pass-empty}
use Rattle.lists_test.proofs.lists_good.Goals as goal

pub returns-then-back-ne0 : goal.returns-then-back-ne0
returns-then-back-ne0 c = λ stored. c.if-back-ne0.true (ap (λ (x : ℕ). x % 2147483648) c.word-back.ensures ∙ stored.back_whole)

pub returns-then-back-ge-BACK_END : goal.returns-then-back-ge-BACK_END
returns-then-back-ge-BACK_END c = λ stored. omega (arith, c.if-back-ge-BACK_END.true, c.word-back.ensures, stored.back_small)

pub returns-then-groups-eq0 : goal.returns-then-groups-eq0
returns-then-groups-eq0 c =
    let s = c in
    let back = c.word-back.ensures in
    pass-empty _ _ s.ranges.lanes.fits (ap (λ (x : ℕ). x % 2147483648) (sym back) ∙ c.if-back-ne0.false) (omega (arith, back, c.if-back-ge-BACK_END.false)) (sym c.word-groups.ensures ∙ c.if-groups-eq0.true)

pub returns-then-groups-ne0 : goal.returns-then-groups-ne0
returns-then-groups-ne0 c = λ stored. c.if-groups-ne0.true (ap (λ (x : ℕ). x % 65536) c.word-groups.ensures ∙ stored.low)

pub returns-then-groups-ge-END : goal.returns-then-groups-ge-END
returns-then-groups-ge-END c = λ stored. omega (arith, c.if-groups-ge-END.true, c.word-groups.ensures, stored.high)

pub loop-g-init : goal.loop-g-init
loop-g-init c =
    let groups = groups_at c.args.t.now in
    let word : c.into_iter-g-iterator.result.0 ≡ groups = ap (λ (s : SetBits). s.0) c.into_iter-g-iterator.ensures.into_iter_gives ∙ c.word-groups.ensures in
    (0, subst (λ (x : ℕ). Left groups x 0) (sym word) (left-all groups), pass-none _, omega arith)

pub group_met-requires : goal.group_met-requires
group_met-requires c =
    let s = c in
    let has = next-present c.loop-g.invariant.1 c.in-Some.ensures.steps in
    let high : groups_at s.args.t.now < 2 ^ 32 = omega (arith, c.if-groups-ge-END.false, c.word-groups.ensures) in
    let low : groups_at s.args.t.now % 65536 ≡ 0 = ap (λ (x : ℕ). x % 65536) (sym c.word-groups.ensures) ∙ c.if-groups-ne0.false in
    let back = c.word-back.ensures in
    (s.requires, bit-over _ _ low has, omega (arith, bit-under 32 _ _ high has), back, omega (arith, c.if-back-ge-BACK_END.false))

pub returns-in_default : goal.returns-in_default
unfolding GroupSays
returns-in_default c =
    let s = c in
    let w = c.loop-g.invariant in
    let next = c.in-Some.ensures.steps in
    let has = next-present w.1 next in
    let high : groups_at s.args.t.now < 2 ^ 32 = omega (arith, c.if-groups-ge-END.false, c.word-groups.ensures) in
    let low : groups_at s.args.t.now % 65536 ≡ 0 = ap (λ (x : ℕ). x % 65536) (sym c.word-groups.ensures) ∙ c.if-groups-ne0.false in
    pass-bad _ _ _ (pass-next _ _ _ _ w.2 (next-bit w.1 next)) (omega (arith, bit-under 32 _ _ high has)) has _ (bit-over _ _ low has) (subst (λ (r : Option ℕ). GroupSays s.args.t.now c.in-Some.g c.loop-g.met r) c.in_default.is c.group_met.ensures)

pub loop-g-preserved : goal.loop-g-preserved
unfolding GroupSays
loop-g-preserved c =
    let s = c in
    let w = c.loop-g.invariant in
    let next = c.in-Some.ensures.steps in
    let has = next-present w.1 next in
    let high : groups_at s.args.t.now < 2 ^ 32 = omega (arith, c.if-groups-ge-END.false, c.word-groups.ensures) in
    let fine = subst (λ (r : Option ℕ). GroupSays s.args.t.now c.in-Some.g c.loop-g.met r) c.in-Some-group_met.is c.group_met.ensures in
    (c.in-Some.g + 1, left-after w.1 next, pass_step _ _ _ (pass-next _ _ _ _ w.2 (next-bit w.1 next)) (omega (arith, bit-under 32 _ _ high has)) has _ fine.0 fine.1, omega arith)

pub returns-then-met-lanes : goal.returns-then-met-lanes
returns-then-met-lanes c =
    let s = c in
    let w = c.loop-g.invariant in
    pass-other _ 64 _ _ (pass-next _ _ _ _ w.2 (next-end w.1 c.in-None.ensures.steps.0)) (omega arith) (omega (arith, c.if-groups-ge-END.false, c.word-groups.ensures)) w.3 s.ranges.lanes.fits c.if-met-lanes.true

pub returns : goal.returns
returns c =
    let w = c.loop-g.invariant in
    let back = c.word-back.ensures in
    pass_same _ 64 _ _ (pass-next _ _ _ _ w.2 (next-end w.1 c.in-None.ensures.steps.0)) (omega arith) (omega (arith, c.if-groups-ge-END.false, c.word-groups.ensures)) (ap (λ (x : ℕ). x % 2147483648) (sym back) ∙ c.if-back-ne0.false) (omega (arith, back, c.if-back-ge-BACK_END.false)) (ap (λ (x : ℕ). x % 65536) (sym c.word-groups.ensures) ∙ c.if-groups-ne0.false) c.if-met-lanes.false
