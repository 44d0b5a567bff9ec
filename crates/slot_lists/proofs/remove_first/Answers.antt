-- `remove_first` meets its contract. Assumes nothing.
use mathlib.Core.Path.{sym, subst}
use mathlib.Core.Bool.{false}
use Prim.Native.Nat.{ℕ, ◌-◌}
use native.Mathlib.Omega.{arith}
use Rattle.words.proofs.Bits.{shift_one}
use Rattle.slot_lists.specs.Changes.{WithBit}
use Rattle.slot_lists.proofs.Bits.{bit-has, bit-off}
use Rattle.slot_lists.proofs.Laws.{list-some, ring-some, remove-more, remove-last}
use Rattle.slot_lists.proofs.remove_first.Goals as goal

pub pop-left-requires : goal.pop-left-requires
pop-left-requires c =
    let s = c in
    let t = s.args.t.now in
    (s.requires.0, c.ring_number.ensures.1, ring-some t t s.args.g s.args.b s.args.map c.ring_number.result s.requires.1 s.requires.2 s.requires.3 c.ring_number.ensures.0 s.requires.5)

pub overflow_sub-result : goal.overflow_sub-result
overflow_sub-result c =
    let s = c in
    omega (arith, shift_one s.args.b (omega (arith, s.requires.3)), (bit-has s.args.b s.args.map (list-some s.args.t.now s.args.g s.args.map s.args.b s.requires.5)).0)

pub returns-then-left-eq0 : goal.returns-then-left-eq0
returns-then-left-eq0 c =
    let s = c in
    let t = s.args.t.now in
    let w : WithBit s.args.map s.args.b false _ = subst (λ (x : ℕ). WithBit s.args.map s.args.b false (s.args.map - x)) (sym (shift_one s.args.b (omega (arith, s.requires.3)))) (bit-off s.args.map s.args.b (list-some t s.args.g s.args.map s.args.b s.requires.5)) in
    remove-last t _ s.args.g s.args.b s.args.map c.ring_number.result s.requires.1 s.requires.2 s.requires.3 c.ring_number.ensures.0 s.requires.5 c.pop-left.ensures.1 c.pop-left.result c.pop-left.ensures.0 _ c.if-left-eq0.true w

pub returns-else-left-eq0 : goal.returns-else-left-eq0
returns-else-left-eq0 c =
    let s = c in
    remove-more s.args.t.now _ s.args.g s.args.b s.args.map c.ring_number.result s.requires.1 s.requires.2 s.requires.3 c.ring_number.ensures.0 s.requires.5 c.pop-left.ensures.1 c.pop-left.result c.pop-left.ensures.0 c.if-left-eq0.false
