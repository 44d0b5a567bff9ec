-- `lane_within` meets its contract. Assumes nothing.
use native.Mathlib.Omega.{arith}
use mathlib.Core.Path.{ap}
use Rattle.rules.specs.State.{Setting}
use Rattle.plan.specs.Read.{setting_of}
use Rattle.plan_writer.proofs.Lane.{tells-no, absent-lane, is-absent, is-there, last-test}
use Rattle.plan_writer.proofs.lane_within.Goals as goal

pub returns-then-longest-ne0 : goal.returns-then-longest-ne0
returns-then-longest-ne0 c =
    let a = c.args in
    tells-no (λ p. c.if-longest-ne0.true (ap (λ (x : Setting). x.longest) (is-absent a.h (setting_of a.l) c.if-weight-eq0.true p)))

pub returns-then-framing-ne0 : goal.returns-then-framing-ne0
returns-then-framing-ne0 c =
    let a = c.args in
    tells-no (λ p. c.if-framing-ne0.true (ap (λ (x : Setting). x.framing) (is-absent a.h (setting_of a.l) c.if-weight-eq0.true p)))

pub returns-then-weight-eq0 : goal.returns-then-weight-eq0
returns-then-weight-eq0 c =
    let a = c.args in
    absent-lane a.h (setting_of a.l) c.if-weight-eq0.true c.if-longest-ne0.false c.if-framing-ne0.false

pub returns-then-weight-gt-MOST_WEIGHT : goal.returns-then-weight-gt-MOST_WEIGHT
returns-then-weight-gt-MOST_WEIGHT c =
    let a = c.args in tells-no (λ p. omega (arith, (is-there a.h (setting_of a.l) c.if-weight-eq0.false p).0.weight_high, c.if-weight-gt-MOST_WEIGHT.true))

pub returns-then-longest-lt-LEAST_LONGEST : goal.returns-then-longest-lt-LEAST_LONGEST
returns-then-longest-lt-LEAST_LONGEST c =
    let a = c.args in
    tells-no (λ p. omega (arith, (is-there a.h (setting_of a.l) c.if-weight-eq0.false p).0.longest_low, c.if-longest-lt-LEAST_LONGEST.true))

pub returns-then-longest-gt-MOST_LONGEST : goal.returns-then-longest-gt-MOST_LONGEST
returns-then-longest-gt-MOST_LONGEST c =
    let a = c.args in
    tells-no (λ p. omega (arith, (is-there a.h (setting_of a.l) c.if-weight-eq0.false p).0.longest_high, c.if-longest-gt-MOST_LONGEST.true))

pub returns : goal.returns
returns c =
    let a = c.args in
    last-test a.h (setting_of a.l) c.if-weight-eq0.false c.if-weight-gt-MOST_WEIGHT.false c.if-longest-lt-LEAST_LONGEST.false c.if-longest-gt-MOST_LONGEST.false
