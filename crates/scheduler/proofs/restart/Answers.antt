-- `restart` meets its contract. Assumes nothing.
use mathlib.Core.Path.{refl}
use Rattle.std.proofs.lemmas.Result.{err_from_is_err_and}
use Rattle.rules.specs.Calls.{restart}
use Rattle.pages.specs.Device.{ruled}
use Rattle.scheduler.proofs.Steps.{good-known, bad-step, does-step}
use borrow.Author.Rules.{rules}
use Rattle.scheduler.proofs.restart.Goals as goal

pub returns-in_err-tested : goal.returns-in_err-tested
returns-in_err-tested c =
    let p = err_from_is_err_and c.from_residual.result c.from_residual.ensures.1 in
    rw (p.1, p.2) (bad-step (ruled restart) c.args.t.now _ c.in_err-tested.ensures.bad)

pub restart-requires : goal.restart-requires
restart-requires c = good-known c.args.t.now c.in_ok-tested.ensures.good.core

pub returns : goal.returns
returns c =
    does-step restart c.args.t.now _ _ refl c.in_ok-tested.ensures.good c.restart.auto.t c.restart.ensures
