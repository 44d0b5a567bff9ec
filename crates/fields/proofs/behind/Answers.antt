-- `fields::behind` meets its contract. Assumes nothing.
use borrow.Author.Tests.{leb-true}
use Prim.Native.Nat.{◌+◌}
use lib.ListN.{length}
use mathlib.Core.Path.{◌≡◌, sym, ◌∙◌}
use native.Mathlib.Omega.{arith}
use Rattle.fields.specs.Header.{header_at}
use Rattle.fields.specs.declared.Field.TheVariants.{Header}
use Rattle.fields.proofs.Header.{behind-none, behind-cut, behind-short, behind-whole}
use Rattle.fields.proofs.behind.Goals as goal

pub overflow_add-result : goal.overflow_add-result
overflow_add-result c =
    let s = c.args.s.now in omega (arith, leb-true (c.in-Header.value + c.in-Header.length) (length s) (sym c.fits.ensures ∙ c.if-fits.true))

pub returns-in-Nothing : goal.returns-in-Nothing
returns-in-Nothing c = sym (behind-none _ _ (sym c.field_at.ensures ∙ c.in-Nothing.is))

pub returns-in-Cut : goal.returns-in-Cut
returns-in-Cut c = sym (behind-cut _ _ (sym c.field_at.ensures ∙ c.in-Cut.is))

pub returns-then-fits : goal.returns-then-fits
returns-then-fits c =
    let header_is : header_at c.args.s.now c.args.at ≡ Header c.in-Header.tag c.in-Header.value c.in-Header.length = sym c.field_at.ensures ∙ c.in-Header.is in
    sym (behind-whole _ _ _ _ _ (header_is) (sym c.fits.ensures ∙ c.if-fits.true))

pub returns-else-fits : goal.returns-else-fits
returns-else-fits c =
    let header_is : header_at c.args.s.now c.args.at ≡ Header c.in-Header.tag c.in-Header.value c.in-Header.length = sym c.field_at.ensures ∙ c.in-Header.is in
    sym (behind-short _ _ _ _ _ (header_is) (sym c.fits.ensures ∙ c.if-fits.false))
