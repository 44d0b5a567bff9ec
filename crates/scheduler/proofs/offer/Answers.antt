-- `offer` meets its contract. Assumes nothing.
use mathlib.Core.Path.{◌≡◌}
use Rattle.std.specs.Prelude.{Err}
use Rattle.scheduler.specs.declared.NotTaken.TheVariants.{Refused}
use Rattle.scheduler.proofs.PageOffers.{read-page-good, offer-bad, offer-read, offer-refused}
use borrow.Author.Rules.{rules}
use Rattle.scheduler.proofs.offer.Goals as goal

pub returns-in_err-tested : goal.returns-in_err-tested
returns-in_err-tested c =
    let is : c.from_residual.result ≡ Err (Refused c.in_err-tested.field-0.0) = search rules in
    rw is (offer-bad c.args.page.now c.args.t.now _ c.in_err-tested.ensures.bad)

pub bring-requires : goal.bring-requires
bring-requires c =
    let w = read-page-good c.args.page.now c.in_ok-r.r c.in_ok-r.ensures in
    (c.in_ok-tested.ensures.good, w.0, w.1)

pub returns-in_err-r : goal.returns-in_err-r
returns-in_err-r c =
    let is : c.from_residual-in_err-r.result ≡ Err (Refused c.in_err-r.field-0.0) = search rules in
    rw is (offer-refused c.args.page.now _ c.args.t.now c.in_err-r.ensures c.in_ok-tested.ensures.good)

pub returns : goal.returns
returns c = offer-read c.args.page.now c.in_ok-r.r c.in_ok-r.ensures c.args.t.now _ c.bring.result c.bring.ensures
