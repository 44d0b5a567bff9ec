-- `page::end_at` meets its contract. Assumes nothing.
use Prim.Native.Nat.{ℕ}
use mathlib.Core.List.{List}
use mathlib.Core.Path.{◌≡◌, sym, ap, ◌∙◌}
use Rattle.std.proofs.lemmas.Result.{err_from_is_err_and}
use Rattle.fields.specs.Item.{whole_field}
use Rattle.page.proofs.Answers.{not_end, end-bad, end-other, end_more, end-closed}
use Rattle.page.specs.Fields.{page_item_at}
use Rattle.page.specs.declared.parse.PageField.{PageField}
use Rattle.page.specs.declared.parse.PageField.TheVariants.{End}
use borrow.Enum.Refused.{opened}
use Rattle.page.proofs.end_at.Goals as goal

-- 0x7F stands here
end_here : (s : List ℕ) (at m : ℕ) (f : PageField) → whole_field f m ≡ page_item_at s at → f ≡ End → page_item_at s at ≡ whole_field End m
end_here s at m f h e = sym h ∙ ap (λ (g : PageField). whole_field g m) e

pub returns-in_err-field : goal.returns-in_err-field
returns-in_err-field c =
    let p = err_from_is_err_and c.from_residual.result c.from_residual.ensures.1 in
    rw (p.1, p.2) (sym (end-bad _ _ _ _ _ (sym c.in_err-field.ensures)))

pub returns-in_default : goal.returns-in_default
returns-in_default c = sym (end-other _ _ _ _ _ (sym c.in_ok-field.ensures) (not_end _ (opened c.in_default.in_default-own.keys2)))

pub returns-then-next-s : goal.returns-then-next-s
returns-then-next-s c = sym (end_more _ _ _ _ (end_here _ _ _ _ c.in_ok-field.ensures c.in-End.is) c.if-next-s.true)

pub returns : goal.returns
returns c = sym (end-closed _ _ _ _ (end_here _ _ _ _ c.in_ok-field.ensures c.in-End.is) c.if-next-s.false)
