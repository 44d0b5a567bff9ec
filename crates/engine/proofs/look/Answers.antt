-- `look` meets its contract. Assumes nothing.
use mathlib.Core.Path.{refl, sym, ap, subst, ◌∙◌}
use native.Mathlib.Omega.{arith}
use Rattle.rules.specs.State.{Rec}
use Rattle.rules.specs.Calls.{look}
use Rattle.rules.specs.declared.Refusal.TheVariants.{NothingHeld}
use Rattle.units.specs.declared.Bytes.{Bytes}
use Rattle.table.specs.Means.{meant}
use Rattle.choice.specs.Known.{ChoiceIs}
use Rattle.engine.proofs.Replies.{look-says, look_none, refusal-says}
use Rattle.engine.proofs.Serving.{f, lane-holds, lane-small, lane-good, seen-is}
use Rattle.engine.proofs.Handing.{at-chosen}
use borrow.Author.Rules.{rules}
use Rattle.engine.proofs.look.Goals as goal

pub first-e-requires : goal.first-e-requires
first-e-requires c =
    let s = c in
    let a = at-chosen _ s.requires _ c.in-Some.ensures in
    (s.requires.sound, lane-small _ (meant _) _ _ _ a, lane-good _ (meant _) _ _ _ a, lane-holds _ (meant _) _ _ _ a)

pub record_of-requires : goal.record_of-requires
record_of-requires c =
    let s = c in
    let a = at-chosen _ s.requires _ c.in-Some.ensures in
    omega (arith, lane-small _ (meant _) _ _ _ a)

pub returns : goal.returns
returns c =
    let s = c in
    let t = s.args.t.now in
    let a = at-chosen t s.requires _ c.in-Some.ensures in
    let w = f t (meant t) _ _ _ a in
    let same = seen-is t (meant t) _ _ _ a c.first-e.result c.first-e.ensures.0 in
    let told = c.record_of.ensures in
    look-says t _ w.pick w.picks (told.0 ∙ sym w.lane) (told.1 ∙ ap (λ (r : Rec). r.train) same) (told.2 ∙ ap (λ (r : Rec). r.mark) same)
    (ap (λ (b : Bytes). b.0) told.3 ∙ ap (λ (r : Rec). r.len) same)

pub returns-in_default : goal.returns-in_default
returns-in_default c =
    let s = c in refusal-says look s.args.t.now NothingHeld refl (look_none (meant s.args.t.now) c.in_default.ensures)
