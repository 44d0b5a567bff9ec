-- `take_back` meets its contract. Assumes nothing.
use Prim.Native.Nat.{ℕ}
use mathlib.Core.Path.{◌≡◌, refl, subst}
use native.Mathlib.Omega.{arith}
use lib.ListN.{length}
use Rattle.units.proofs.Compare.{is-before, is-not-before}
use Rattle.rules.specs.State.{clock_far}
use Rattle.table.specs.Means.{meant, Leaves, with_clock}
use Rattle.table.proofs.Leave.{sound-after}
use Rattle.back.proofs.Back.{back-near, back_above, back_small, back-taken}
use borrow.Author.Rules.{rules}
use Rattle.back.proofs.take_back.Goals as goal

pub returns-then-lt : goal.returns-then-lt
returns-then-lt c =
    let s = c in
    back-near s.args.t.now _ s.requires c.clock-v.ensures (is-before _ clock_far c.if-lt.ensures)

pub overflow_sub-d : goal.overflow_sub-d
overflow_sub-d c = omega (arith, is-not-before c.clock-v.result.0 clock_far c.if-lt.ensures)

pub lower_lanes-requires : goal.lower_lanes-requires
lower_lanes-requires c =
    let s = c in
    (s.requires.sound, back_above s.args.t.now _ _ s.requires c.clock-v.ensures (is-not-before _ clock_far c.if-lt.ensures) refl)

pub set_clock-requires : goal.set_clock-requires
set_clock-requires c =
    let l = c.lower_lanes in
    sound-after c.requires.sound l.ensures l.auto.t

pub lower-requires : goal.lower-requires
lower-requires c =
    let s = c in
    let l = c.lower_lanes in
    let k = c.set_clock in
    let v = c.clock-v in
    let set = subst (λ (n : ℕ). Leaves l.new.t k.new.t (with_clock (meant l.new.t) n)) c.sub.ensures k.ensures in
    (omega (arith, s.requires.sound.room, l.auto.t, k.auto.t), back_small s.args.t.now _ _ s.requires v.ensures (is-not-before _ clock_far c.if-lt.ensures) refl _ _ l.ensures set, omega (arith, v.ensures, s.requires.good.clock))

pub returns : goal.returns
returns c =
    let s = c in
    let l = c.lower_lanes in
    let k = c.set_clock in
    let b = c.lower in
    let set = subst (λ (n : ℕ). Leaves l.new.t k.new.t (with_clock (meant l.new.t) n)) c.sub.ensures k.ensures in
    let len : length b.new.t ≡ length s.args.t.now = omega (arith, l.auto.t, k.auto.t, b.auto.t) in
    back-taken s.args.t.now _ _ s.requires c.clock-v.ensures (is-not-before _ clock_far c.if-lt.ensures) refl _ _ l.ensures set _ len b.ensures
