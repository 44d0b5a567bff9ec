-- `page::parse::PagesFields::fitting` meets its contract. Assumes nothing.
use mathlib.Core.Path.{sym}
use Rattle.page.proofs.Tags.{fitting-edition, fitting-end, fitting-any}
use Rattle.page.proofs.parse.PagesFields.fitting.Goals as goal

pub returns-in-64 : goal.returns-in-64
returns-in-64 c =
    let a = c.args in sym (fitting-edition a.tag a.n c.in-64.is)

pub returns-in-127 : goal.returns-in-127
returns-in-127 c =
    let a = c.args in sym (fitting-end a.tag a.n c.in-127.is)

pub returns-in_default : goal.returns-in_default
returns-in_default c =
    let a = c.args in sym (fitting-any a.tag a.n c.in_default.in_default-own.rest.0.1 c.in_default.in_default-own.rest.1)
