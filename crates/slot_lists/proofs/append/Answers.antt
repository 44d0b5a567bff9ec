-- `append` meets its contract. Assumes nothing.
use mathlib.Core.Path.{ap, sym}
use Prim.Native.Nat.{ℕ, ◌+◌}
use native.Mathlib.Omega.{arith}
use lib.ListN.{length}
use Rattle.words.proofs.Bits.{shift_one}
use Rattle.rings.specs.Rings.{ring_at}
use Rattle.slot_lists.specs.Changes.{WithBit}
use mathlib.Core.Bool.{true}
use mathlib.Core.Path.{subst}
use Rattle.slot_lists.proofs.Bits.{bit-two, bit-on}
use Rattle.slot_lists.proofs.Laws.{list_on, append-push, append-begin}
use Rattle.slot_lists.proofs.append.Goals as goal

pub push-requires : goal.push-requires
push-requires c =
    let s = c in
    let t = s.args.t.now in
    let e = list_on t s.args.g s.args.map s.args.b c.if-map-b-eq1.true in
    (s.requires.0, c.ring_number-i.ensures.1, s.requires.4, omega (arith, s.requires.6, ap length e, ap (λ (n : ℕ). length (ring_at t n)) c.ring_number-i.ensures.0))

pub returns-then-map-b-eq1 : goal.returns-then-map-b-eq1
returns-then-map-b-eq1 c =
    let s = c in
    append-push s.args.t.now _ s.args.g s.args.b s.args.map c.ring_number-i.result s.requires.1 s.requires.2 s.requires.3 c.ring_number-i.ensures.0 s.args.k c.if-map-b-eq1.true c.push.ensures

pub returns-else-map-b-eq1 : goal.returns-else-map-b-eq1
returns-else-map-b-eq1 c =
    let s = c in
    let w : WithBit s.args.map s.args.b true _ = subst (λ (x : ℕ). WithBit s.args.map s.args.b true (s.args.map + x)) (sym (shift_one s.args.b (omega (arith, s.requires.3)))) (bit-on s.args.map s.args.b (bit-two s.args.b s.args.map c.if-map-b-eq1.false)) in
    append-begin s.args.t.now _ s.args.g s.args.b s.args.map c.ring_number-i.result s.requires.1 s.requires.2 s.requires.3 c.ring_number-i.ensures.0 s.args.k _ c.if-map-b-eq1.false c.begin.ensures w
