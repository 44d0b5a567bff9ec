-- `write_setup` meets its contract. Assumes nothing.
use Prim.Native.Nat.{◌+◌, ◌*◌}
use borrow.Author.Tests.{not-true, not-false}
use mathlib.Core.Path.{◌≡◌, refl, sym, ap, subst}
use native.Mathlib.Omega.{arith}
use Rattle.rules.specs.State.{setting_at}
use Rattle.plan_writer.specs.Write.{planned, Fitting, framing_size, setup_size}
use Rattle.plan_writer.proofs.Framing.{framing-few, fitting-line}
use Rattle.plan_writer.proofs.Round.{size-most}
use Rattle.plan_writer.proofs.Writing.{written_all}
use borrow.Author.Rules.{rules}
use mathlib.Core.Bool.{not}
use Rattle.plan_writer.proofs.write_setup.Goals as goal

pub returns-then-not-within : goal.returns-then-not-within
returns-then-not-within c =
    let out = c.within.ensures.no (not-true c.within.result (ap not c.if-not-within.true)) in
    record { outside = λ o. (refl, refl); short = λ w l. absurd (out w); written = λ w l. absurd (out w) }

pub overflow_add-size : goal.overflow_add-size
overflow_add-size c = omega (arith, c.framing_size.ensures, framing-few c.line_framing-h.result)

pub overflow_mul-size : goal.overflow_mul-size
overflow_mul-size c =
    let w = c.within.ensures.yes (not-false c.within.result (ap not c.if-not-within.false)) in
    omega (arith, size-most (planned c.args.plan) w, w.count)

pub overflow_add-size-2 : goal.overflow_add-size-2
overflow_add-size-2 c =
    let w = c.within.ensures.yes (not-false c.within.result (ap not c.if-not-within.false)) in
    omega (arith, size-most (planned c.args.plan) w, w.count, c.framing_size.ensures, framing-few c.line_framing-h.result)

pub overflow_mul-size-2 : goal.overflow_mul-size-2
overflow_mul-size-2 c = omega (arith, c.shared_lanes.ensures.1)

pub overflow_add-size-3 : goal.overflow_add-size-3
overflow_add-size-3 c =
    let w = c.within.ensures.yes (not-false c.within.result (ap not c.if-not-within.false)) in
    omega (arith, size-most (planned c.args.plan) w, w.count, c.framing_size.ensures, framing-few c.line_framing-h.result, c.shared_lanes.ensures.1)

pub returns-then-buf-size : goal.returns-then-buf-size
returns-then-buf-size c =
    let p = planned c.args.plan in
    let w = c.within.ensures.yes (not-false c.within.result (ap not c.if-not-within.false)) in
    let h-is = ap framing_size c.line_framing-h.ensures in
    record { outside = λ o. absurd (o w); short = λ _ l. (refl, refl); written = λ _ l. absurd (omega (arith, l, c.if-buf-size.true, w.count, c.framing_size.ensures, c.shared_lanes.ensures.0, h-is)) }

pub put_setup-requires : goal.put_setup-requires
put_setup-requires c =
    let p = planned c.args.plan in
    let w = c.within.ensures.yes (not-false c.within.result (ap not c.if-not-within.false)) in
    let h-is = c.line_framing-h.ensures in
    (λ k. subst (λ x. Fitting x (setting_at p.lanes k)) (sym h-is) (fitting-line p.lanes w.setup k), omega (arith, h-is, w.setup.framing_high), omega (arith, c.if-buf-size.false, w.count, c.framing_size.ensures, c.shared_lanes.ensures.0))

pub returns : goal.returns
returns c =
    let s = c in
    let p = planned s.args.plan in
    let w = c.within.ensures.yes (not-false c.within.result (ap not c.if-not-within.false)) in
    let h-is = c.line_framing-h.ensures in
    let size_of : 8 + c.framing_size.result + 8 * s.args.plan.count + 4 * c.shared_lanes.result ≡ setup_size p = omega (arith, w.count, c.framing_size.ensures, c.shared_lanes.ensures.0, ap framing_size h-is) in
    written_all p w s.args.buf.now c.put_setup.new.a c.line_framing-h.result _ h-is size_of c.if-buf-size.false c.put_setup.ensures
