-- `group_met` meets its contract. Assumes nothing.
use mathlib.Core.Path.{◌≡◌, sym, ap, subst, ◌∙◌}
use Prim.Native.Nat.{ℕ, ◌+◌, ◌/◌, ◌^◌, ◌<◌}
use native.Mathlib.Omega.{arith}
use lib.Pow.{shr_le}
use Rattle.words.specs.declared.SetBits.{SetBits}
use Rattle.words.proofs.Walk.{Left, left-all, next-present, left-after}
use Rattle.table.proofs.Next.{next-bit, next-end}
use Rattle.words.specs.Words.{word_at}
use Rattle.slot_lists.specs.Lists.{map_word}
use Rattle.lists_test.specs.Stored.{RingSays, GroupSays}
use Rattle.lists_test.proofs.ListWalk.{walk_none, walk-next, walk_step, walk-bad, walk-all}
use Rattle.lists_test.proofs.GroupWords.{slot_small, not-whole, not_first, ring-told, group-fine}
use Rattle.lists_test.proofs.WordBits.{bit-under}
use Rattle.std.specs.Prelude.{None}
use borrow.Author.Rules.{rules}
use Rattle.lists_test.proofs.group_met.Goals as goal

pub returns-then-map-ge-END : goal.returns-then-map-ge-END
unfolding GroupSays
returns-then-map-ge-END c = λ fine new. omega (arith, c.if-map-ge-END.true, c.word-map.ensures, fine.narrow)

pub returns-then-own-g : goal.returns-then-own-g
unfolding GroupSays
returns-then-own-g c =
    let s = c in
    λ fine new. not-whole s.args.t.now s.args.g _ _ s.args.back c.word-map.ensures c.word-start.ensures s.requires.3 (omega (arith, c.word-start.type_inv)) c.if-own-g.true fine

pub overflow_add-slot : goal.overflow_add-slot
overflow_add-slot c =
    let s = c in
    omega (arith, slot_small s.args.g c.word-start.result s.args.back s.requires.1 (omega (arith, c.word-start.type_inv)) s.requires.4)

pub returns-then-map-first-eq0 : goal.returns-then-map-first-eq0
unfolding GroupSays
returns-then-map-first-eq0 c =
    let s = c in
    λ fine new. not_first s.args.t.now s.args.g _ _ s.args.back c.word-map.ensures c.word-start.ensures s.requires.3 c.if-map-first-eq0.true fine

pub loop-b-init : goal.loop-b-init
loop-b-init c =
    let map = word_at c.args.t.now (map_word c.args.g) in
    let word : c.into_iter-b-iterator.result.0 ≡ map = ap (λ (s : SetBits). s.0) c.into_iter-b-iterator.ensures.into_iter_gives ∙ c.word-map.ensures in
    (0, subst (λ (x : ℕ). Left map x 0) (sym word) (left-all map), walk_none _ _ _)

pub overflow_add-at-in-loop-b : goal.overflow_add-at-in-loop-b
overflow_add-at-in-loop-b c =
    let s = c in
    omega (arith, slot_small s.args.g c.word-start.result s.args.back s.requires.1 (omega (arith, c.word-start.type_inv)) s.requires.4)

pub ring_number-requires : goal.ring_number-requires
ring_number-requires c =
    let s = c in
    let narrow : word_at s.args.t.now (map_word s.args.g) < 2 ^ 32 = omega (arith, c.if-map-ge-END.false, c.word-map.ensures) in
    (s.requires.1, s.requires.2, bit-under 32 _ _ narrow (next-present c.loop-b.invariant.1 c.in-Some.ensures.steps))

pub ring_met-requires : goal.ring_met-requires
ring_met-requires c =
    let s = c in
    (s.requires.0, c.ring_number.ensures.1, s.requires.1, s.requires.2, ap (λ (x : ℕ). x / 2 ^ s.args.g) s.requires.3, omega (arith, shr_le s.args.back s.args.g, s.requires.4))

pub returns-in_err-met : goal.returns-in_err-met
unfolding GroupSays RingSays
returns-in_err-met c =
    let s = c in
    let w = c.loop-b.invariant in
    let next = c.in-Some.ensures.steps in
    let has = next-present w.1 next in
    let map = c.word-map.ensures in
    let narrow : word_at s.args.t.now (map_word s.args.g) < 2 ^ 32 = omega (arith, c.if-map-ge-END.false, map) in
    let here = walk-next _ _ _ _ _ _ w.2 (next-bit w.1 next) in
    let is : c.from_residual.result ≡ None = search rules in
    rw is (walk-bad _ _ _ _ _ here (bit-under 32 _ _ narrow has) has
    (ring-told s.args.t.now s.args.g _ _ s.args.back map c.word-start.ensures s.requires.3 c.in-Some.b _ c.loop-b.met c.ring_met.result _ c.ring_number.ensures.0 c.ring_met.ensures c.in_err-met.was))

pub loop-b-preserved : goal.loop-b-preserved
unfolding RingSays
loop-b-preserved c =
    let s = c in
    let w = c.loop-b.invariant in
    let next = c.in-Some.ensures.steps in
    let has = next-present w.1 next in
    let map = c.word-map.ensures in
    let narrow : word_at s.args.t.now (map_word s.args.g) < 2 ^ 32 = omega (arith, c.if-map-ge-END.false, map) in
    let here = walk-next _ _ _ _ _ _ w.2 (next-bit w.1 next) in
    let fine = ring-told s.args.t.now s.args.g _ _ s.args.back map c.word-start.ensures s.requires.3 c.in-Some.b _ c.loop-b.met c.ring_met.result _ c.ring_number.ensures.0 c.ring_met.ensures c.in_ok-met.was in
    (c.in-Some.b + 1, left-after w.1 next, walk_step _ _ _ _ _ here (bit-under 32 _ _ narrow has) has _ fine.0 fine.1)

pub returns : goal.returns
unfolding GroupSays
returns c =
    let s = c in
    let map = c.word-map.ensures in
    let start = c.word-start in
    let w = c.loop-b.invariant in
    let narrow : word_at s.args.t.now (map_word s.args.g) < 2 ^ 32 = omega (arith, c.if-map-ge-END.false, map) in
    let all = walk-all _ _ _ 64 _ (walk-next _ _ _ _ _ _ w.2 (next-end w.1 c.in-None.ensures.steps.0)) (omega arith) narrow in
    (group-fine s.args.t.now s.args.g _ _ s.args.back map start.ensures s.requires.3 narrow (omega (arith, start.type_inv)) c.if-own-g.false (omega (arith, c.if-map-first-eq0.false)) all.0, all.1)
