-- `make` meets its contract. Assumes nothing.
use Rattle.halt.proofs.Steps.{make-short, make-other, make-made, make-refused}
use borrow.Author.Rules.{rules}
use mathlib.Core.Path.{◌≡◌}
use Rattle.std.specs.Prelude.{Err}
use Rattle.halt.specs.declared.NotMade.TheVariants.{Refused}
use Rattle.halt.proofs.make.Goals as goal

pub returns-then-t-lt-SIZE : goal.returns-then-t-lt-SIZE
returns-then-t-lt-SIZE c = make-short c.args.setup.now c.args.t.now c.if-t-lt-SIZE.true

pub returns-then-other_plan : goal.returns-then-other_plan
returns-then-other_plan c =
    let s = c.args in
    let o = c.other_plan in
    make-other s.setup.now s.t.now o.result o.ensures c.if-t-lt-SIZE.false c.if-other_plan.true

pub returns-in_err-lanes : goal.returns-in_err-lanes
returns-in_err-lanes c =
    let o = c.other_plan in
    let is : c.from_residual.result ≡ Err (Refused c.in_err-lanes.field-0.0) = search rules in
    rw is (make-refused c.args.setup.now c.args.t.now o.result o.ensures c.if-other_plan.false _ _ c.in_err-lanes.ensures)

pub returns : goal.returns
returns c =
    let o = c.other_plan in
    make-made c.args.setup.now c.args.t.now o.result o.ensures c.if-other_plan.false _ _ c.in_ok-lanes.ensures
