-- `close` meets its contract. Assumes nothing.
use mathlib.Core.Path.{◌≡◌, ap, subst, ◌∙◌}
use Prim.Native.Nat.{ℕ, ◌+◌, ◌*◌, ◌%◌, ◌^◌, ◌<◌}
use native.Mathlib.Nat.{mod-eq_of_lt, mul-le-mul_left}
use native.Mathlib.Omega.{arith}
use lib.Pow.{pow_mono}
use Rattle.words.specs.Bits.{bit}
use Rattle.slot_lists.specs.Changes.{GroupStored}
use Rattle.lane_moves.specs.Moves.{onward}
use Rattle.lane_moves.proofs.Steps.{then-start}
use Rattle.lane_moves.proofs.close.Goals as goal

pub returns-then-map-b-eq1 : goal.returns-then-map-b-eq1
returns-then-map-b-eq1 c =
    let s = c in
    let b = s.args.b in
    let m = s.args.map in
    let here : (b + 0) % 32 ≡ b = omega (arith, s.requires.8) in
    onward 0 s.args.start (omega (arith, c.if-map-eq0.false)) (record { near = omega arith; set = ap (λ (i : ℕ). bit i m) here ∙ c.if-map-b-eq1.true; none_before = λ j h. absurd (omega arith) }) (omega arith) (λ v h z. h)
    (subst (GroupStored s.args.t.now _ s.args.g m) s.requires.7 c.set_lists.ensures)

pub overflow_add-next : goal.overflow_add-next
overflow_add-next c =
    let s = c in
    let d = c.nearest-d.result in
    let small : d * 2 ^ s.args.g < 2 ^ 64 = omega (arith, c.nearest-d.ensures.near, mul-le-mul_left d (pow_mono {i = s.args.g} {j = 31} s.requires.2)) in
    omega (arith, mod-eq_of_lt small, c.nearest-d.ensures.near, s.requires.6, mul-le-mul_left d (pow_mono {i = s.args.g} {j = 31} s.requires.2))

pub returns : goal.returns
returns c =
    let s = c in
    let d = c.nearest-d.result in
    let small : d * 2 ^ s.args.g < 2 ^ 64 = omega (arith, c.nearest-d.ensures.near, mul-le-mul_left d (pow_mono {i = s.args.g} {j = 31} s.requires.2)) in
    onward d _ (omega (arith, c.if-map-eq0.false)) c.nearest-d.ensures (ap (λ (y : ℕ). s.args.start + y) (mod-eq_of_lt small)) (λ v h z. z) (then-start _ _ _ _ _ _ _ c.set_lists.ensures c.set_start.ensures)
