-- `look` meets its contract. Assumes nothing.
use mathlib.Core.Path.{refl}
use Rattle.std.proofs.lemmas.Result.{err_from_is_err_and}
use Rattle.rules.specs.Calls.{look}
use Rattle.pages.specs.Device.{ruled}
use Rattle.scheduler.proofs.Steps.{good-known, bad-step, says-step}
use Rattle.engine.proofs.Still.{look-still}
use borrow.Author.Rules.{rules}
use Rattle.scheduler.proofs.look.Goals as goal

pub returns-in_err-tested : goal.returns-in_err-tested
returns-in_err-tested c =
    let p = err_from_is_err_and c.from_residual.result c.from_residual.ensures.1 in
    rw (p.1, p.2) (bad-step (ruled look) c.args.t.now _ c.in_err-tested.ensures.bad)

pub look-requires : goal.look-requires
look-requires c = good-known c.args.t.now c.in_ok-tested.ensures.good.core

pub returns : goal.returns
returns c =
    says-step look c.args.t.now c.look.result refl c.in_ok-tested.ensures.good (look-still _) c.look.ensures
