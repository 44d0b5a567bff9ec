-- A whole line, judged by the lines before it (R12.5, R14.20): refusals 51, 52, 53, 4 and 6, in this order, each at the first digit of its number.
--
--   row_field     the lane field of a setup that says what the line says
--   row_verdict   the table: a fault of a lane field, told at the number of the line that it is about; or what the rest decides
--   Verdict      a line is taken, or refused; verdict: the first refusal of a line, or none
--
-- Assumes nothing.
use Rattle.std.specs.Prelude.{Option, Some, None, Result, Ok, Err, ltb, if◌then◌else◌}
use Rattle.rules.specs.declared.Refusal.{Refusal}
use Rattle.rules.specs.declared.Refusal.TheVariants.{OutOfOrder, WeightsOver, LaneOutside, WeightOutside, LongestOutside}
use Rattle.plan.specs.Judge.{lane_outside, over}
use Rattle.plan.specs.declared.judge.Fault.{Fault}
use Rattle.plan.specs.declared.judge.Fault.TheVariants.{BadFormat, BadLane, BadWeight, BadLongest, BadFraming, TotalOver}
use Rattle.plan.specs.declared.judge.Seen.{Seen}
use Rattle.plan.specs.declared.parse.LaneField.{LaneField}
use Rattle.plan.specs.declared.parse.SetupField.TheVariants.{Lane}
use Rattle.sheet.specs.declared.form.Row.{Row}

abbrev pub row_field : Row → LaneField
row_field r = record { lane = r.lane.value; weight = r.weight.value; longest = Some r.longest.value }

abbrev pub Verdict : Type 0
Verdict = Result (Unit {0}) Refusal

-- A line has neither a format nor framing bytes.
abbrev pub row_verdict : Row → Option Fault → Verdict → Verdict
row_verdict r None rest = rest
row_verdict r (Some BadFormat) rest = rest
row_verdict r (Some BadLane) rest = Err (LaneOutside r.lane.place)
row_verdict r (Some BadWeight) rest = Err (WeightOutside r.weight.place)
row_verdict r (Some BadLongest) rest = Err (LongestOutside r.longest.place)
row_verdict r (Some BadFraming) rest = rest
row_verdict r (Some TotalOver) rest = Err (WeightsOver r.weight.place)

-- R14.41. The setup's own tests of a lane field, in the sheet's order: the line's numbers, then whether the lane rises above those before it (4, at the lane),
-- then the weights so far.
unfoldable pub verdict : Seen → Row → Verdict
verdict seen r =
    row_verdict r (lane_outside (row_field r)) (if ltb r.lane.value seen.floor then Err (OutOfOrder r.lane.place) else row_verdict r (over seen (Lane (row_field r))) (Ok tt))
