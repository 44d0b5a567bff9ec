-- `take` meets its contract. Assumes nothing.
use mathlib.Core.Path.{◌≡◌}
use Rattle.std.specs.Prelude.{Err}
use Rattle.std.proofs.lemmas.Result.{err_from_is_err_and}
use Rattle.rules.specs.Calls.{take}
use Rattle.pages.specs.Device.{ruled}
use Rattle.paged.specs.Paged.{GoodUnit}
use Rattle.scheduler.proofs.Steps.{good-known, bad-step}
use Rattle.scheduler.proofs.Taken.{took-none, take-rests, took_one}
use borrow.Author.Rules.{rules}
use Rattle.scheduler.proofs.take.Goals as goal

pub returns-in_err-tested : goal.returns-in_err-tested
returns-in_err-tested c =
    let p = err_from_is_err_and c.from_residual.result c.from_residual.ensures.1 in
    rw (p.1, p.2) (bad-step (ruled take) c.args.t.now _ c.in_err-tested.ensures.bad)

pub take-requires : goal.take-requires
take-requires c = good-known c.args.t.now c.in_ok-tested.ensures.good.core

pub settle-requires : goal.settle-requires
settle-requires c =
    take-rests _ _ _ c.in_ok-tested.ensures.good c.take.auto.t c.in_ok-taken.ensures

pub returns-in_err-taken : goal.returns-in_err-taken
returns-in_err-taken c =
    let is : c.from_residual-in_err-taken.result ≡ Err c.in_err-taken.field-0.0 = search rules in
    rw is (took-none _ _ _ c.in_ok-tested.ensures.good c.take.auto.t c.in_err-taken.ensures)

pub returns : goal.returns
returns c =
    took_one _ _ _ _ c.in_ok-tested.ensures.good c.take.auto.t c.settle.auto.t c.in_ok-taken.ensures c.settle.ensures
