-- `page::past_skipped` meets its contract. Assumes nothing.
use Prim.Native.Nat.{ℕ}
use mathlib.Core.List.{List}
use mathlib.Core.Path.{◌≡◌, refl, sym, ap, ◌∙◌}
use native.Mathlib.Omega.{arith}
use borrow.Enum.Refused.{opened}
use Rattle.fields.specs.Item.{whole_field}
use Rattle.page.proofs.Answers.{not-skipped}
use Rattle.page.proofs.Skips.{stand-first, stand-stop, stand-next, stops, moves}
use Rattle.page.specs.Fields.{page_item_at, page_item_of}
use Rattle.page.specs.declared.parse.PageField.{PageField}
use Rattle.page.specs.declared.parse.PageField.TheVariants.{Skipped}
use Rattle.page.proofs.past_skipped.Goals as goal

-- the field that stands here is one to be skipped
skipped_here : (s : List ℕ) (p m : ℕ) (f : PageField) → whole_field f m ≡ page_item_at s p → f ≡ Skipped → page_item_at s p ≡ whole_field Skipped m
skipped_here s p m f h e = sym h ∙ ap (λ (g : PageField). whole_field g m) e

pub loop-next-init : goal.loop-next-init
loop-next-init c = stand-first _ _

pub returns-in_default : goal.returns-in_default
returns-in_default c =
    stand-stop _ _ _ c.loop-next.invariant _ (sym c.in_default.ensures) (stops _ _ _ _ (not-skipped _ (opened c.in_default.in_default-own.keys2)))

pub returns-in_default-2 : goal.returns-in_default-2
returns-in_default-2 c = stand-stop _ _ _ c.loop-next.invariant _ (sym c.parsed_field.ensures ∙ ap page_item_of c.in_default.is) (λ turns. refl)

pub loop-next-smaller : goal.loop-next-smaller
loop-next-smaller c =
    let k = c.in-Ok-Skipped-default in omega (arith, moves _ _ _ c.loop-next.invariant _ (skipped_here _ _ _ _ k.ensures k.field-0-0-is))

pub loop-next-preserved : goal.loop-next-preserved
loop-next-preserved c =
    let k = c.in-Ok-Skipped-default in stand-next _ _ _ c.loop-next.invariant _ (skipped_here _ _ _ _ k.ensures k.field-0-0-is)
