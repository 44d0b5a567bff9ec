-- `bring` meets its contract. Assumes nothing.
use borrow.Author.Rules.{rules}
use mathlib.Core.Path.{sym, ap, subst, ◌∙◌}
use native.Mathlib.Omega.{arith}
use lib.ListN.{length-drop}
use Rattle.plan.specs.Read.{settings}
use Rattle.editions.specs.Part.{PartRoom, last_in, new_in}
use Rattle.editions.proofs.Lent.{tail_all}
use Rattle.table.specs.Layout.{SIZE}
use Rattle.paged.proofs.Units.{good-rests}
use Rattle.scheduler.proofs.PageOffers.{offer-old, offer-waits, offer-forced}
use Rattle.scheduler.proofs.bring.Goals as goal

pub returns-then-number-taken : goal.returns-then-number-taken
returns-then-number-taken c =
    let s = c in
    let t = s.args.t.now in
    let last = c.last-taken.ensures ∙ ap last_in (tail_all SIZE t) in
    offer-old t (record { edition = s.args.edition; settings = settings s.args.plan }) s.requires.0 (omega (arith, last, c.if-number-taken.true))

pub new-waiting-requires : goal.new-waiting-requires
new-waiting-requires c =
    let s = c in
    let t = s.args.t.now in
    subst PartRoom (sym (tail_all SIZE t)) (omega (arith, s.requires.0.room, length-drop SIZE t))

pub returns-then-number-waiting : goal.returns-then-number-waiting
returns-then-number-waiting c =
    let s = c in
    let t = s.args.t.now in
    let last = c.last-taken.ensures ∙ ap last_in (tail_all SIZE t) in
    let new = c.new-waiting.ensures ∙ ap new_in (tail_all SIZE t) in
    offer-old t (record { edition = s.args.edition; settings = settings s.args.plan }) s.requires.0 (omega (arith, last, new, c.if-number-waiting.true))

pub wait-requires : goal.wait-requires
wait-requires c =
    let s = c in
    let t = s.args.t.now in
    (good-rests t s.requires.0, omega (arith, c.if-number-taken.false), s.requires.1, s.requires.2)

pub returns-then-held : goal.returns-then-held
returns-then-held c =
    let s = c in
    let t = s.args.t.now in
    let w = c.wait in
    let last = c.last-taken.ensures ∙ ap last_in (tail_all SIZE t) in
    let new = c.new-waiting.ensures ∙ ap new_in (tail_all SIZE t) in
    offer-waits t (record { edition = s.args.edition; settings = settings s.args.plan }) s.requires.0 _ (omega (arith, last, c.if-number-taken.false)) (omega (arith, new, c.if-number-waiting.false))
    (sym c.held.ensures ∙ c.if-held.true) w.auto.t w.ensures

pub returns : goal.returns
returns c =
    let s = c in
    let t = s.args.t.now in
    let w = c.come_in_force in
    let last = c.last-taken.ensures ∙ ap last_in (tail_all SIZE t) in
    let new = c.new-waiting.ensures ∙ ap new_in (tail_all SIZE t) in
    offer-forced t (record { edition = s.args.edition; settings = settings s.args.plan }) s.requires.0 _ (omega (arith, last, c.if-number-taken.false)) (omega (arith, new, c.if-number-waiting.false))
    (sym c.held.ensures ∙ c.if-held.false) w.auto.t w.ensures
