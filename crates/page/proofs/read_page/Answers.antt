-- `page::read_page` meets its contract. Assumes nothing.
use Prim.Native.Nat.{ℕ}
use mathlib.Core.Path.{sym, ap, ◌∙◌}
use Rattle.std.proofs.lemmas.Result.{err_from_is_err_and}
use Rattle.fields.specs.Item.{whole_field}
use Rattle.page.proofs.Answers.{not-edition, page-bad, page-other, page-begun}
use Rattle.page.specs.Read.{settings_at}
use Rattle.page.specs.declared.parse.PageField.{PageField}
use borrow.Enum.Refused.{opened}
use Rattle.page.proofs.read_page.Goals as goal

pub returns-in_err-field : goal.returns-in_err-field
returns-in_err-field c =
    let p = err_from_is_err_and c.from_residual.result c.from_residual.ensures.1 in
    rw (p.1, p.2) (sym (page-bad _ _ _ (sym c.in_err-field.ensures)))

pub returns-in_default : goal.returns-in_default
returns-in_default c = sym (page-other _ _ _ (sym c.in_ok-field.ensures) (not-edition _ (opened c.in_default.in_default-own.keys2)))

pub returns : goal.returns
returns c =
    c.settings_at.ensures
    ∙ ap (λ (p : ℕ). settings_at c.args.s.now c.in-Edition.edition p) c.past_skipped.ensures
    ∙ sym (page-begun _ _ _ (sym c.in_ok-field.ensures ∙ ap (λ (g : PageField). whole_field g c.in_ok-field.next) c.in-Edition.is))
