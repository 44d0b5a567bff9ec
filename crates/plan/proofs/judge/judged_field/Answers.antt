-- `plan::judge::judged_field` meets its contract. Assumes nothing.
use Prim.Native.Nat.{ℕ}
use mathlib.Core.Path.{◌≡◌, refl, sym, ◌∙◌}
use mathlib.Core.Bool.{false}
use mathlib.Core.List.{List}
use Rattle.std.specs.Prelude.{Option}
use Rattle.std.proofs.lemmas.Result.{err_from_is_err_and}
use Rattle.plan.proofs.Judged.{judged-no, judged-misplaced, judged-faults}
use Rattle.plan.proofs.Offsets.{outside-in, over-in, fits}
use Rattle.fields.proofs.Item.{stands}
use Rattle.fields.specs.Item.{whole_field}
use Rattle.plan.specs.Fields.{setup_item_at}
use Rattle.plan.specs.Judge.{misplaced, outside, over, faulted, judged_at}
use Rattle.plan.specs.declared.judge.Fault.{Fault}
use Rattle.plan.specs.declared.judge.Seen.{Seen}
use Rattle.plan.specs.declared.parse.SetupField.{SetupField}
use Rattle.plan.proofs.judge.judged_field.Goals as goal

-- the two tests, one after the other
both : (seen : Seen) (s : List ℕ) (at : ℕ) (f : SetupField) (next : ℕ) (x y : Option Fault) → setup_item_at s at ≡ whole_field f next → misplaced seen f ≡ false
    → x ≡ outside f → y ≡ over seen f → faulted at x (faulted at y (whole_field f next)) ≡ judged_at seen s at
both seen s at f next x y i m a b = rw (a, b) (sym (judged-faults seen s at f next i m))

pub returns-in_err-field : goal.returns-in_err-field
returns-in_err-field c =
    let p = err_from_is_err_and c.from_residual.result c.from_residual.ensures.1 in
    rw (p.1, p.2) (sym (judged-no _ _ _ _ _ (sym c.in_err-field.ensures)))

pub returns-then-misplaced : goal.returns-then-misplaced
returns-then-misplaced c = sym (judged-misplaced _ _ _ _ _ (sym c.in_ok-field.ensures) (sym c.misplaced.ensures ∙ c.if-misplaced.true))

pub faulted-requires : goal.faulted-requires
faulted-requires c =
    let a = c.args in
    fits a.at c.in_ok-field.next c.outside.result (outside c.in_ok-field.field) c.outside.ensures
    (outside-in a.s.now a.at c.in_ok-field.field c.in_ok-field.next (stands (sym c.in_ok-field.ensures)))

pub returns-in_err-faulted : goal.returns-in_err-faulted
returns-in_err-faulted c =
    let a = c.args in
    let f = c.in_ok-field in
    let p = err_from_is_err_and c.from_residual-in_err-faulted.result c.from_residual-in_err-faulted.ensures.1 in
    rw (p.1, p.2)
    (c.in_err-faulted.ensures (faulted a.at (over a.seen f.field) (whole_field f.field f.next))
    ∙ both a.seen a.s.now a.at f.field f.next _ _ (sym f.ensures) (sym c.misplaced.ensures ∙ c.if-misplaced.false) c.outside.ensures refl)

pub faulted-requires-2 : goal.faulted-requires-2
faulted-requires-2 c =
    let a = c.args in
    fits a.at c.in_ok-field.next c.over.result (over a.seen c.in_ok-field.field) c.over.ensures
    (over-in a.s.now a.at c.in_ok-field.field c.in_ok-field.next (stands (sym c.in_ok-field.ensures)) a.seen)

pub returns-in_err-faulted-2 : goal.returns-in_err-faulted-2
returns-in_err-faulted-2 c =
    let a = c.args in
    let f = c.in_ok-field in
    let p = err_from_is_err_and c.from_residual-in_err-faulted-2.result c.from_residual-in_err-faulted-2.ensures.1 in
    rw (p.1, p.2)
    (c.in_err-faulted-2.ensures (whole_field f.field f.next) ∙ c.in_ok-faulted.ensures _
    ∙ both a.seen a.s.now a.at f.field f.next _ _ (sym f.ensures) (sym c.misplaced.ensures ∙ c.if-misplaced.false) c.outside.ensures c.over.ensures)

pub returns : goal.returns
returns c =
    let a = c.args in
    let f = c.in_ok-field in
    c.in_ok-faulted-2.ensures (whole_field f.field f.next) ∙ c.in_ok-faulted.ensures _
    ∙ both a.seen a.s.now a.at f.field f.next _ _ (sym f.ensures) (sym c.misplaced.ensures ∙ c.if-misplaced.false) c.outside.ensures c.over.ensures
