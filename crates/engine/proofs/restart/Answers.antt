-- `restart` meets its contract. Assumes nothing.
use mathlib.Core.Path.{refl, sym, ◌∙◌}
use native.Mathlib.Omega.{arith}
use borrow.Author.Tests.{eqb-true, eqb-false, not-true, not-false}
use Rattle.rules.specs.Calls.{restart}
use Rattle.rules.specs.declared.Refusal.TheVariants.{StillHolds}
use Rattle.table.specs.Means.{meant}
use Rattle.engine.proofs.Ends.{known-holds, nobody, somebody}
use Rattle.engine.proofs.Appending.{renew-turns}
use Rattle.engine.proofs.Replies.{refusal-does, restart_held, restart-does}
use borrow.Author.Rules.{rules}
use mathlib.Core.Path.{ap}
use mathlib.Core.Bool.{not}
use Rattle.engine.proofs.restart.Goals as goal

pub returns-then-not-none_held : goal.returns-then-not-none_held
returns-then-not-none_held c =
    let s = c in
    let t = s.args.t.now in
    refusal-does restart t StillHolds s.requires refl (restart_held (meant t) (somebody t (meant t) (known-holds t s.requires) (eqb-false _ _ (sym c.none_held.ensures ∙ not-true _ (ap not c.if-not-none_held.true)))))

pub returns : goal.returns
returns c =
    let s = c in
    let t = s.args.t.now in
    restart-does t _ s.requires (nobody t (meant t) (known-holds t s.requires) s.requires.good (eqb-true _ _ (sym c.none_held.ensures ∙ not-false _ (ap not c.if-not-none_held.false)))) (renew-turns t _ _ (omega (arith, s.requires.sound.room, c.renew.auto.t)) c.renew.ensures)
