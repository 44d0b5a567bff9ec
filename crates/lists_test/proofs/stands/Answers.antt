use mathlib.Core.Path.{sym, ap, ◌∙◌}
use Prim.Native.Nat.{ℕ, ◌+◌, ◌/◌, ◌^◌}
use native.Mathlib.Nat.{div-mul-le_self, mul-le-mul_left}
use native.Mathlib.Omega.{arith}
use lib.Pow.{pow_mono}
use Rattle.table.specs.Layout.{cells, row_at}
use Rattle.table.specs.declared.LaneRow.{LaneRow}
use borrow.Author.Rules.{rules}
use Rattle.lists_test.proofs.stands.Goals as goal

pub returns-then-l-g : goal.returns-then-l-g
returns-then-l-g c = λ f. c.if-l-g.true (ap (λ (l : LaneRow). l.group) c.row-l.ensures.0 ∙ f.group)

pub overflow_add-l : goal.overflow_add-l
overflow_add-l c =
    let s = c in
    let x = c.row-l.result.time.0 in
    omega (arith, s.requires.5, c.row-l.type_inv, div-mul-le_self x (2 ^ s.args.g), mul-le-mul_left (x / 2 ^ s.args.g) (pow_mono {i = 16} {j = s.args.g} s.requires.2))

pub returns-then-l-g-2 : goal.returns-then-l-g-2
returns-then-l-g-2 c =
    let s = c in
    λ f. c.if-l-g-2.true (ap (λ (l : LaneRow). l.time.0 / 2 ^ s.args.g + s.args.base) c.row-l.ensures.0 ∙ ap (λ (b : ℕ). (row_at (cells s.args.t.now) s.args.k).time.0 / 2 ^ s.args.g + b) s.requires.4 ∙ f.slot)

pub returns : goal.returns
returns c =
    let s = c in
    record {
      group = sym (ap (λ (l : LaneRow). l.group) c.row-l.ensures.0) ∙ c.if-l-g.false;
      slot = sym (ap (λ (l : LaneRow). l.time.0 / 2 ^ s.args.g + s.args.base) c.row-l.ensures.0 ∙ ap (λ (b : ℕ). (row_at (cells s.args.t.now) s.args.k).time.0 / 2 ^ s.args.g + b) s.requires.4) ∙ c.if-l-g-2.false;
    }
