-- `plan::read_setup` meets its contract. Assumes nothing.
use mathlib.Core.Path.{sym}
use Rattle.std.proofs.lemmas.Result.{err_from_is_err_and}
use Rattle.plan.proofs.Closed.{setup-refused, setup-more, setup-whole}
use Rattle.plan.proofs.read_setup.Goals as goal

pub returns-in_err-r : goal.returns-in_err-r
returns-in_err-r c =
    let p = err_from_is_err_and c.from_residual.result c.from_residual.ensures.1 in
    rw (p.1, p.2) (sym (setup-refused _ _ _ (sym c.in_err-r.ensures)))

pub returns-then-r-s : goal.returns-then-r-s
returns-then-r-s c = sym (setup-more _ _ _ _ _ (sym c.in_ok-r.ensures) c.if-r-s.true)

pub returns : goal.returns
returns c = sym (setup-whole _ _ _ _ _ (sym c.in_ok-r.ensures) c.if-r-s.false)
