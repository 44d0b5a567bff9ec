-- `look` meets its contract. Assumes nothing.
use Rattle.std.proofs.lemmas.Result.{err_from_is_err_and}
use Rattle.rules.specs.Calls.{look}
use Rattle.halt.proofs.Steps.{refused-step, same_step}
use Rattle.halt.proofs.look.Goals as goal

pub returns-in_err-halted : goal.returns-in_err-halted
returns-in_err-halted c =
    let p = err_from_is_err_and c.from_residual.result c.from_residual.ensures.1 in
    rw (p.1, p.2) (refused-step look c.args.t.now _ c.in_err-halted.ensures.bad)

pub returns : goal.returns
returns c = same_step look c.args.t.now c.look.result _ c.in_ok-halted.ensures.good c.look.ensures
