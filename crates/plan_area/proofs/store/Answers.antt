-- `store` meets its contract. Assumes nothing.
use Prim.Native.Nat.{◌+◌}
use mathlib.Core.List.{map}
use mathlib.Core.Path.{sym, ap, ◌∙◌}
use native.Mathlib.Omega.{arith}
use Rattle.words.specs.Words.{put_word}
use Rattle.plan.specs.Read.{setting_of}
use Rattle.plan_area.specs.Area.{plan_lane_word}
use Rattle.plan_area.proofs.Stored.{line-is, store-none, rest-first, lane-is, store-more, store-all}
use Rattle.plan_area.proofs.store.Goals as goal

pub loop-k-init : goal.loop-k-init
loop-k-init c =
    let s = c in
    let f = c.line_framing-h in
    let h-is = line-is s.args.plan.lanes s.requires.1 f.result f.ensures in
    store-none s.args.area.now _ s.args.plan.format f.result c.set_word.ensures (map setting_of s.args.plan.lanes) s.requires.0 h-is (omega (arith, h-is, s.requires.1.framing_high)) s.requires.2

pub loop-k-preserved : goal.loop-k-preserved
loop-k-preserved c =
    let s = c in
    let l = c.loop-k in
    let gs = map setting_of s.args.plan.lanes in
    let word-is = c.lane_word.ensures ∙ ap plan_lane_word (sym (lane-is s.args.plan.lanes l.k)) in
    (store-more s.args.plan.format gs _ l.area l.k l.invariant.0 l.invariant.1 c.loop-k-test.true (s.requires.1.each l.k) _ (c.set_word-in-loop-k.ensures ∙ ap (put_word l.area (l.k + 1)) word-is), l.invariant.1)

pub returns : goal.returns
returns c =
    let s = c in
    let l = c.loop-k in
    store-all s.args.plan.format (map setting_of s.args.plan.lanes) _ l.area l.k l.invariant.0 l.invariant.1 s.args.plan.count c.loop-k-test.false s.args.area.now (rest-first s.args.area.now _ s.args.plan.format c.line_framing-h.result c.set_word.ensures)
