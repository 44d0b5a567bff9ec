-- `plan::parse::SetupsFields::fitting` meets its contract. Assumes nothing.
use mathlib.Core.Path.{sym}
use Rattle.plan.proofs.Tags.{fitting-format, fitting-short, fitting-long, fitting-framing, fitting-shared, fitting-end}
use Rattle.plan.proofs.parse.SetupsFields.fitting.Goals as goal

pub returns-in-1 : goal.returns-in-1
returns-in-1 c =
    let a = c.args in sym (fitting-format a.tag a.n c.in-1.is)

pub returns-then-n-eq3 : goal.returns-then-n-eq3
returns-then-n-eq3 c =
    let a = c.args in sym (fitting-short a.tag a.n c.in-16.is c.if-n-eq3.true)

pub returns-else-n-eq3 : goal.returns-else-n-eq3
returns-else-n-eq3 c =
    let a = c.args in sym (fitting-long a.tag a.n c.in-16.is c.if-n-eq3.false)

pub returns-in-17 : goal.returns-in-17
returns-in-17 c =
    let a = c.args in sym (fitting-framing a.tag a.n c.in-17.is)

pub returns-in-18 : goal.returns-in-18
returns-in-18 c =
    let a = c.args in sym (fitting-shared a.tag a.n c.in-18.is)

pub returns-in_default : goal.returns-in_default
returns-in_default c =
    let a = c.args in sym (fitting-end a.tag a.n c.in_default.in_default-own.rest.0.0.0.1 c.in_default.in_default-own.rest.0.0.1 c.in_default.in_default-own.rest.0.1 c.in_default.in_default-own.rest.1)
