-- `page::parse::PagesFields::taken` meets its contract. Assumes nothing.
use borrow.Author.Tests.{eqb-true}
use mathlib.Core.Path.{sym, ◌∙◌}
use native.Mathlib.Omega.{arith}
use Rattle.page.proofs.Tags.{fitting-edition, field-edition, field-settings, field_end, field-skipped}
use Rattle.page.proofs.parse.PagesFields.taken.Goals as goal

pub u16_at-requires : goal.u16_at-requires
u16_at-requires c =
    let a = c.args in omega (arith, eqb-true a.n 2 (sym (fitting-edition a.tag a.n c.in-64.is) ∙ c.requires.0))

pub returns-in-64 : goal.returns-in-64
returns-in-64 c =
    let a = c.args in rw c.u16_at.ensures.0 (sym (field-edition a.tag a.n a.s.now a.at c.in-64.is))

pub returns-in-65 : goal.returns-in-65
returns-in-65 c =
    let a = c.args in sym (field-settings a.tag a.n a.s.now a.at c.in-65.is)

pub returns-in-127 : goal.returns-in-127
returns-in-127 c =
    let a = c.args in sym (field_end a.tag a.n a.s.now a.at c.in-127.is)

pub returns-in_default : goal.returns-in_default
returns-in_default c =
    let a = c.args in sym (field-skipped a.tag a.n a.s.now a.at c.in_default.in_default-own.rest.0.0.1 c.in_default.in_default-own.rest.0.1 c.in_default.in_default-own.rest.1)
