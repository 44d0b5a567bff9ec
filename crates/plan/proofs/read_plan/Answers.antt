-- `plan::read_plan` meets its contract. Assumes nothing.
use Prim.Native.Nat.{ℕ}
use mathlib.Core.List.{List}
use mathlib.Core.Path.{◌≡◌, sym, ap, ◌∙◌}
use native.Mathlib.Omega.{arith}
use Rattle.std.proofs.lemmas.Result.{err_from_is_err_and}
use Rattle.fields.proofs.Item.{behind-item}
use Rattle.fields.specs.Header.{behind_at}
use Rattle.fields.specs.Item.{whole_field}
use Rattle.plan.specs.Judge.{judged_at}
use Rattle.plan.specs.declared.judge.Seen.{Seen}
use Rattle.plan.specs.declared.parse.SetupField.{SetupField}
use Rattle.plan.proofs.Taken.{is-taken}
use Rattle.plan.proofs.Sound.{numbered}
use Rattle.plan.proofs.Walks.{stand-first, stand-no, taken_here, moves, stand-end, stand-next}
use Rattle.plan.proofs.read_plan.Goals as goal

-- the reader moves to the place behind the field
moved : (seen : Seen) (s : List ℕ) (at : ℕ) (f : SetupField) (m next : ℕ) → next ≡ behind_at s at → whole_field f m ≡ judged_at seen s at → judged_at seen s at ≡ whole_field f next
moved seen s at f m next n e = sym e ∙ ap (whole_field f) (sym (n ∙ behind-item _ _ _ _ _ (is-taken _ _ _ _ _ (sym e)).item))

pub loop-field-init : goal.loop-field-init
loop-field-init c = rw c.no_lanes-lanes.ensures (stand-first c.args.s.now c.args.at)

pub returns-in_err-field : goal.returns-in_err-field
returns-in_err-field c =
    let p = err_from_is_err_and c.from_residual.result c.from_residual.ensures.1 in
    rw (p.1, p.2) (stand-no _ _ _ _ _ c.loop-field.invariant _ _ (sym c.in_err-field.ensures))

pub returns-then-ends : goal.returns-then-ends
returns-then-ends c =
    stand-end _ _ _ _ _ c.loop-field.invariant _ _ (moved _ _ _ _ _ _ c.next_at-next.ensures c.in_ok-field.ensures) (sym c.ends.ensures ∙ c.if-ends.true)

pub place-requires : goal.place-requires
place-requires c =
    let k = taken_here _ _ _ _ _ c.loop-field.invariant _ _ (sym c.in_ok-field.ensures) in
    (k.inside, numbered _ _ c.loop-field.invariant.sound c.in_ok-field.field k.in_place)

pub loop-field-smaller : goal.loop-field-smaller
loop-field-smaller c = omega (arith, moves _ _ _ _ _ c.loop-field.invariant _ _ (moved _ _ _ _ _ _ c.next_at-next.ensures c.in_ok-field.ensures))

pub loop-field-preserved : goal.loop-field-preserved
loop-field-preserved c =
    rw (c.place.ensures, c.after-seen.ensures)
    (stand-next _ _ _ _ _ c.loop-field.invariant _ _ (moved _ _ _ _ _ _ c.next_at-next.ensures c.in_ok-field.ensures) (sym c.ends.ensures ∙ c.if-ends.false))
