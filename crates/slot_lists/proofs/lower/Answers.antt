-- `lower` meets its contract. Assumes nothing.
use mathlib.Core.Path.{◌≡◌, sym, ap, subst, ◌∙◌}
use mathlib.Core.List.{List}
use Prim.Native.Nat.{ℕ, ◌+◌, ◌-◌, ◌%◌, ◌^◌}
use native.Mathlib.Omega.{arith}
use Rattle.words.specs.Words.{word_at}
use Rattle.rings.specs.Rings.{Long}
use Rattle.slot_lists.specs.Lists.{back_word, back_at, start_word}
use Rattle.slot_lists.specs.Changes.{Lowered}
use Rattle.slot_lists.proofs.Lowered.{SoFar, one_more, lowered-as}
use Rattle.slot_lists.proofs.lower.Goals as goal

pub loop-g-preserved : goal.loop-g-preserved
loop-g-preserved c =
    let s = c in
    let l = c.loop-g in
    let b = c.earlier_by in
    let long : Long l.t = omega arith in
    let x : b.result ≡ word_at l.t (start_word l.g) - s.args.d = b.ensures ∙ ap (λ (y : ℕ). y - s.args.d) c.word-start.ensures in
    subst (λ (u : List ℕ). SoFar s.args.t.now u s.args.d (l.g + 1)) (sym c.set_word.ensures)
    (one_more s.args.t.now l.t s.args.d l.g b.result l.invariant long (omega arith) c.loop-g-test.true (omega (arith, b.type_inv)) x)

pub returns : goal.returns
returns c =
    let s = c in
    let l = c.loop-g in
    let e : l.g ≡ 32 = omega arith in
    let all : SoFar s.args.t.now l.t s.args.d 32 = subst (SoFar s.args.t.now l.t s.args.d) e l.invariant in
    let back : c.word-back.result ≡ back_at s.args.t.now = c.word-back.ensures ∙ all.others back_word (λ a b. omega arith) in
    let x : (c.word-back.result + s.args.d) % 2 ^ 36 ≡ (back_at s.args.t.now + s.args.d) % 2 ^ 36 = ap (λ (y : ℕ). (y + s.args.d) % 2 ^ 36) back in
    subst (λ (u : List ℕ). Lowered s.args.t.now u s.args.d) (sym c.set_word-2.ensures) (lowered-as s.args.t.now l.t s.args.d _ all (omega arith) (omega arith) x)
