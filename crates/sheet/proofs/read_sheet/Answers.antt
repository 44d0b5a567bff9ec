-- `read_sheet` meets its contract. Assumes nothing.
use mathlib.Core.Path.{◌≡◌, sym, ap, ◌∙◌}
use native.Mathlib.Omega.{arith}
use borrow.Author.Tests.{not-true, not-false, lt-ltb}
use lib.ListN.{get_or, length}
use Rattle.std.proofs.lemmas.Result.{err_from_is_err_and}
use Rattle.sheet.specs.Form.{line_step}
use Rattle.sheet.proofs.Rows.{is-taken}
use Rattle.sheet.proofs.Walks.{stand-first, count_low, stand-wrong, stand-more, row-sane, stand-refused, stand-taken, stand_read, stand-inside, stand-empty}
use mathlib.Core.Bool.{not}
use Rattle.sheet.proofs.read_sheet.Goals as goal
use Rattle.sheet.proofs.read_sheet.Goals.{in-More, in-Whole+in_ok-judged-in-Whole}

pub loop-i-init : goal.loop-i-init
loop-i-init c = rw (c.begin-f.ensures, c.no_lanes-lanes.ensures) (stand-first c.args.s.now)

pub returns-in-Wrong : goal.returns-in-Wrong
returns-in-Wrong c =
    let step_is : line_step c.loop-i.f c.loop-i.i (get_or c.args.s.now c.loop-i.i 0) ≡ c.read_byte.result = sym c.read_byte.ensures in
    stand-wrong _ _ _ _ _ c.loop-i.invariant c.loop-i-test.true (step_is ∙ c.in-Wrong.is)

pub judged-requires : goal.judged-requires
judged-requires c =
    let step_is : line_step c.loop-i.f c.loop-i.i (get_or c.args.s.now c.loop-i.i 0) ≡ c.read_byte.result = sym c.read_byte.ensures in
    (c.loop-i.invariant.sound.total, (row-sane _ _ _ _ _ c.loop-i.invariant c.loop-i-test.true _ (step_is ∙ c.in-Whole.is)).weight)

pub returns-in_err-judged-in-Whole : goal.returns-in_err-judged-in-Whole
returns-in_err-judged-in-Whole c =
    let step_is : line_step c.loop-i.f c.loop-i.i (get_or c.args.s.now c.loop-i.i 0) ≡ c.read_byte.result = sym c.read_byte.ensures in
    let p = err_from_is_err_and c.from_residual.result c.from_residual.ensures.1 in
    rw (p.1, p.2) (stand-refused _ _ _ _ _ c.loop-i.invariant c.loop-i-test.true _ (step_is ∙ c.in-Whole.is) _ (sym c.in_err-judged-in-Whole.ensures))

pub place-requires : goal.place-requires
place-requires c =
    let t = is-taken _ _ (sym c.in_ok-judged-in-Whole.ensures) in (t.number, (t.weight_high, t.longest_high))

pub lane_field-requires : goal.lane_field-requires
lane_field-requires c =
    let t = is-taken _ _ (sym c.in_ok-judged-in-Whole.ensures) in (t.number, (t.weight_high, t.longest_high))

pub after-seen-requires : goal.after-seen-requires
after-seen-requires c = (c.loop-i.invariant.sound.total, count_low _ _ _ _ _ c.loop-i.invariant)

pub loop-i-preserved : goal.loop-i-preserved
loop-i-preserved c =
    let l = c.loop-i in
    let lt = c.loop-i-test.true in
    let step_is : line_step l.f l.i (get_or c.args.s.now l.i 0) ≡ c.read_byte.result = sym c.read_byte.ensures in
    elim c.match-read_byte.branch [
      | in-More w ↦ rw (w.lanes-is, w.seen-is, w.f-is) (stand-more _ _ _ _ _ l.invariant lt _ (step_is ∙ w.in-More.is))
      | in-Whole+in_ok-judged-in-Whole w ↦
          rw (w.lanes-is, w.seen-is, w.f-is, w.begin-f-in-Whole.ensures, w.after-seen.ensures, w.lane_field.ensures, w.place.ensures) (stand-taken _ _ _ _ _ l.invariant lt _ (step_is ∙ w.in-Whole.is) (sym w.in_ok-judged-in-Whole.ensures))
    ]

pub returns-then-not-blank : goal.returns-then-not-blank
returns-then-not-blank c =
    let e : c.loop-i.i ≡ length c.args.s.now = omega arith in
    rw e at (stand-inside _ _ _ _ _ c.loop-i.invariant c.loop-i-test.false (sym c.blank.ensures ∙ not-true c.blank.result (ap not c.if-not-blank.true)))

pub returns-then-seen-eq0 : goal.returns-then-seen-eq0
returns-then-seen-eq0 c =
    let e : c.loop-i.i ≡ length c.args.s.now = omega arith in
    rw e at (stand-empty _ _ _ _ _ c.loop-i.invariant c.loop-i-test.false (sym c.blank.ensures ∙ not-false c.blank.result (ap not c.if-not-blank.false)) c.if-seen-eq0.true)

pub returns : goal.returns
returns c =
    let e : c.loop-i.i ≡ length c.args.s.now = omega arith in
    rw e at (stand_read _ _ _ _ _ c.loop-i.invariant c.loop-i-test.false (sym c.blank.ensures ∙ not-false c.blank.result (ap not c.if-not-blank.false)) (lt-ltb 0 c.loop-i.seen.count (omega (arith, c.if-seen-eq0.false))))
