-- `settle` meets its contract. Assumes nothing.
use borrow.Author.Rules.{rules}
use mathlib.Core.Path.{◌≡◌, sym, ap, subst, ◌∙◌}
use native.Mathlib.Omega.{arith}
use lib.ListN.{length-drop}
use Rattle.rules.specs.Setup.{Setup}
use Rattle.editions.specs.Part.{PartRoom, new_in}
use Rattle.editions.proofs.Lent.{tail_all}
use Rattle.table.specs.Layout.{SIZE}
use Rattle.paged.specs.Paged.{part_of}
use Rattle.paged.proofs.Settled.{ready-plan, ready-lanes, settled-held, settled-none, settled-comes}
use Rattle.paged.proofs.settle.Goals as goal

pub returns-then-held : goal.returns-then-held
returns-then-held c =
    let s = c in
    settled-held s.args.t.now s.requires (sym c.held.ensures ∙ c.if-held.true)

pub returns-then-edition-eq0 : goal.returns-then-edition-eq0
returns-then-edition-eq0 c =
    let s = c in
    settled-none s.args.t.now s.requires (ap new_in (sym (tail_all SIZE s.args.t.now)) ∙ sym c.new-edition.ensures ∙ c.if-edition-eq0.true)

pub plan-plan-requires : goal.plan-plan-requires
plan-plan-requires c =
    let s = c in
    let t = s.args.t.now in
    subst PartRoom (sym (tail_all SIZE t)) (omega (arith, s.requires.room, length-drop SIZE t))

pub come_in_force-requires : goal.come_in_force-requires
come_in_force-requires c =
    let s = c in
    let t = s.args.t.now in
    let new = c.new-edition.ensures ∙ ap new_in (tail_all SIZE t) in
    let waits : new_in (part_of t) ≡ 0 → ⊥ = λ z. c.if-edition-eq0.false (new ∙ z) in (
      s.requires.room,
      omega (arith, new, s.requires.fits.new),
      subst Setup (sym (ready-lanes t s.requires waits _ _ (tail_all SIZE t) c.plan-plan.ensures.1)) (ready-plan t s.requires waits),
    )

pub returns : goal.returns
returns c =
    let s = c in
    let t = s.args.t.now in
    let new = c.new-edition.ensures ∙ ap new_in (tail_all SIZE t) in
    let waits : new_in (part_of t) ≡ 0 → ⊥ = λ z. c.if-edition-eq0.false (new ∙ z) in
    let plan = ready-lanes t s.requires waits _ _ (tail_all SIZE t) c.plan-plan.ensures.1 in
    settled-comes t s.requires (sym c.held.ensures ∙ c.if-held.false) waits _ _ _ new plan c.come_in_force.ensures
