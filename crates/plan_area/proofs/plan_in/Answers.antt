-- `plan_in` meets its contract. Assumes nothing.
use Prim.Native.Nat.{ℕ, ◌/◌}
use mathlib.Core.Path.{sym, ap, subst, ◌∙◌}
use Rattle.plan_area.specs.Area.{framing_in, setting_in, plan_in, narrowed, Gives}
use Rattle.plan_area.proofs.Narrow.{narrow_gives}
use Rattle.plan_area.proofs.Filled.{fill_more, fill-skip, fill-all}
use Rattle.plan_area.proofs.plan_in.Goals as goal
use Rattle.plan_area.proofs.plan_in.Goals.{then-l-ne0, else-l-ne0}

pub loop-k-preserved : goal.loop-k-preserved
loop-k-preserved c =
    let s = c in
    let l = c.loop-k in
    let lt = c.loop-k-test.true in
    let x = c.lane_in-l in
    let is = x.ensures ∙ ap (λ (i : ℕ). narrowed (setting_in (i / 65536) c.word.result)) c.word-h.ensures ∙ ap (λ (i : ℕ). narrowed (setting_in (framing_in s.args.area.now) i)) c.word.ensures in
    elim c.if-l-ne0.branch [
      | then-l-ne0 w ↦ rw w.count-is (fill_more s.args.area.now l.lanes l.count l.k l.invariant lt x.result is w.if-l-ne0.true)
      | else-l-ne0 w ↦ rw w.count-is (fill-skip s.args.area.now l.lanes l.count l.k l.invariant lt x.result is w.if-l-ne0.false)
    ]

pub returns : goal.returns
returns c =
    let a = c.args.area.now in
    let l = c.loop-k in
    let is = fill-all a l.lanes l.count l.k l.invariant c.loop-k-test.false c.format_in-format.result c.format_in-format.ensures in
    (subst (Gives (plan_in a)) (sym is) (narrow_gives a), l.invariant.size)
