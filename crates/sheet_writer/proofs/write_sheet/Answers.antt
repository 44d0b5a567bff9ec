-- `write_sheet` meets its contract. Assumes nothing.
use mathlib.Core.Path.{sym, ◌∙◌}
use native.Mathlib.Omega.{arith}
use borrow.Author.Tests.{not-true, not-false}
use Rattle.sheet_writer.proofs.Calls.{says-outside, says-no-sheet, says-short, says-size}
use mathlib.Core.Path.{ap}
use mathlib.Core.Bool.{not}
use Rattle.sheet_writer.proofs.write_sheet.Goals as goal

pub returns-then-not-within : goal.returns-then-not-within
returns-then-not-within c = says-outside _ _ (c.within.ensures.no (not-true c.within.result (ap not c.if-not-within.true)))

pub returns-then-line_framing-ne0 : goal.returns-then-line_framing-ne0
returns-then-line_framing-ne0 c =
    let w = c.within.ensures.yes (not-false c.within.result (ap not c.if-not-within.false)) in
    says-no-sheet _ _ w (λ e. c.if-line_framing-ne0.true (c.line_framing.ensures ∙ e.0))

pub returns-then-shared_lanes-ne0 : goal.returns-then-shared_lanes-ne0
returns-then-shared_lanes-ne0 c =
    let w = c.within.ensures.yes (not-false c.within.result (ap not c.if-not-within.false)) in
    says-no-sheet _ _ w (λ e. c.if-shared_lanes-ne0.true (c.shared_lanes.ensures.0 ∙ e.1))

pub sheet_size-size-requires : goal.sheet_size-size-requires
sheet_size-size-requires c =
    let w = c.within.ensures.yes (not-false c.within.result (ap not c.if-not-within.false)) in w.setup

pub returns-then-buf-size : goal.returns-then-buf-size
returns-then-buf-size c =
    let w = c.within.ensures.yes (not-false c.within.result (ap not c.if-not-within.false)) in
    says-short _ _ w (sym c.line_framing.ensures ∙ c.if-line_framing-ne0.false, sym c.shared_lanes.ensures.0 ∙ c.if-shared_lanes-ne0.false) (omega (arith, c.if-buf-size.true, c.sheet_size-size.ensures))

pub put_lanes-requires : goal.put_lanes-requires
put_lanes-requires c =
    let w = c.within.ensures.yes (not-false c.within.result (ap not c.if-not-within.false)) in
    (w.setup, omega (arith, c.if-buf-size.false, c.sheet_size-size.ensures))

pub returns : goal.returns
returns c =
    let w = c.within.ensures.yes (not-false c.within.result (ap not c.if-not-within.false)) in
    says-size _ _ w (sym c.line_framing.ensures ∙ c.if-line_framing-ne0.false, sym c.shared_lanes.ensures.0 ∙ c.if-shared_lanes-ne0.false) _ c.sheet_size-size.ensures c.if-buf-size.false _ c.put_lanes.ensures
