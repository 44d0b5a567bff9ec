-- `fields::field_at` meets its contract. Assumes nothing.
use mathlib.Core.Path.{sym}
use native.Mathlib.Omega.{arith}
use Rattle.fields.proofs.Header.{header-none, header-cut, header-whole}
use Rattle.fields.proofs.field_at.Goals as goal

pub returns-then-at-s : goal.returns-then-at-s
returns-then-at-s c =
    let a = c.args in sym (header-none a.s.now a.at c.if-at-s.true)

pub returns-then-s-at-lt-HEADER : goal.returns-then-s-at-lt-HEADER
returns-then-s-at-lt-HEADER c =
    let a = c.args in sym (header-cut a.s.now a.at c.if-at-s.false (omega arith))

pub returns : goal.returns
returns c =
    let a = c.args in rw c.u16_at.ensures.0 (sym (header-whole a.s.now a.at (omega arith)))
