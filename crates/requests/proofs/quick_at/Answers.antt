-- `quick_at` meets its contract. Assumes nothing.
use Prim.Native.Nat.{◌+◌}
use mathlib.Core.Path.{refl, sym, ap, ◌∙◌}
use native.Mathlib.Nat.{add-zero}
use native.Mathlib.Omega.{arith}
use Rattle.rules.specs.Calls.{take}
use Rattle.requests.specs.Request.{call_of, request}
use Rattle.requests.proofs.Heads.{item-quick}
use Rattle.requests.proofs.quick_at.Goals as goal

pub returns-then-tag-eq-TAKE : goal.returns-then-tag-eq-TAKE
unfolding call_of
returns-then-tag-eq-TAKE c =
    let s = c in
    item-quick s.args.s.now s.args.at 33 0 c.if-tag-eq-TAKE.true (sym c.u16_at.ensures.0 ∙ c.if-u16_at-ne0.false) refl (λ e. omega arith) (omega arith) ∙ ap (request take) (add-zero (s.args.at + 3))

pub returns : goal.returns
unfolding call_of
returns c =
    let s = c in
    item-quick s.args.s.now s.args.at 32 7 c.if-tag-ne-PUT.false (sym c.u16_at-2.ensures.0 ∙ c.if-u16_at-ne7.false) refl (λ e. omega arith) (omega arith) ∙ rw (c.u32_at.ensures.0, c.u16_at-3.ensures.0)
