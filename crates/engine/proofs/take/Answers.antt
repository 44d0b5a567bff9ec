-- `take` meets its contract. Assumes nothing.
use mathlib.Core.Path.{refl, subst}
use Rattle.rules.specs.Calls.{take}
use Rattle.rules.specs.declared.Refusal.TheVariants.{NothingHeld}
use Rattle.table.specs.Means.{meant}
use Rattle.choice.specs.Known.{ChoiceIs}
use Rattle.engine.proofs.Replies.{take-does, take_none, refusal-does}
use borrow.Author.Rules.{rules}
use Rattle.engine.proofs.take.Goals as goal

pub serve_lane-requires : goal.serve_lane-requires
serve_lane-requires c = (c.requires, c.in-Some.ensures)

pub returns : goal.returns
returns c =
    let s = c in take-does s.args.t.now _ c.serve_lane.result s.requires c.serve_lane.ensures

pub returns-in_default : goal.returns-in_default
returns-in_default c =
    let s = c in refusal-does take s.args.t.now NothingHeld s.requires refl (take_none (meant s.args.t.now) c.in_default.ensures)
