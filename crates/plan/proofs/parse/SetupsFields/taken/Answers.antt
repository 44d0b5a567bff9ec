-- `plan::parse::SetupsFields::taken` meets its contract. Assumes nothing.
use borrow.Author.Tests.{eqb-true}
use mathlib.Core.Path.{sym, ◌∙◌}
use native.Mathlib.Omega.{arith}
use Rattle.plan.proofs.Tags.{fitting-format, field-format, field-lane, field-framing, fitting-framing, field_shared, fitting-shared, field_end}
use Rattle.plan.proofs.parse.SetupsFields.taken.Goals as goal

pub u16_at-requires : goal.u16_at-requires
u16_at-requires c =
    let a = c.args in omega (arith, eqb-true a.n 2 (sym (fitting-format a.tag a.n c.in-1.is) ∙ c.requires.0))

pub lane_at-requires : goal.lane_at-requires
lane_at-requires c =
    let a = c.args in (rw c.in-16.is at c.requires.0, c.requires.1)

pub bounds-s-at : goal.bounds-s-at
bounds-s-at c =
    let s = c in omega (arith, eqb-true s.args.n 1 (sym (fitting-framing s.args.tag s.args.n c.in-17.is) ∙ s.requires.0))

pub bounds-s-at-in-18 : goal.bounds-s-at-in-18
bounds-s-at-in-18 c =
    let s = c in omega (arith, eqb-true s.args.n 1 (sym (fitting-shared s.args.tag s.args.n c.in-18.is) ∙ s.requires.0))

pub returns-in-1 : goal.returns-in-1
returns-in-1 c =
    let a = c.args in rw c.u16_at.ensures.0 (sym (field-format a.s.now a.tag a.at a.n c.in-1.is))

pub returns-in-16 : goal.returns-in-16
returns-in-16 c =
    let a = c.args in rw c.lane_at.ensures (sym (field-lane a.s.now a.tag a.at a.n c.in-16.is))

pub returns-in-17 : goal.returns-in-17
returns-in-17 c =
    let a = c.args in sym (field-framing a.s.now a.tag a.at a.n c.in-17.is)

pub returns-in-18 : goal.returns-in-18
returns-in-18 c =
    let a = c.args in sym (field_shared a.s.now a.tag a.at a.n c.in-18.is)

pub returns-in_default : goal.returns-in_default
returns-in_default c =
    let a = c.args in sym (field_end a.s.now a.tag a.at a.n c.in_default.in_default-own.rest.0.0.0.1 c.in_default.in_default-own.rest.0.0.1 c.in_default.in_default-own.rest.0.1 c.in_default.in_default-own.rest.1)
