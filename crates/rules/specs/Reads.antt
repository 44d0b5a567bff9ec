-- The numbers (R14.1) and values (R3.23) of each case of the answer enums. Every promise about an answer speaks of it through `reads`.
--
--   listed   a refusal's number, and its place where R14 has one; number, place_of: the two alone
--   answer   an answer that is no refusal, as the rules give it
--   reads    any answer: that, or the refusal by its number and place
--
-- Assumes nothing.
use Rattle.std.specs.Prelude.{ℕ, Result, Ok, Err}
use Rattle.std.proofs.Math.Option.{Option, none, some}
use Rattle.rules.specs.Calls.{Reply, accepted, taken, seen, words, lagged, restarted, refused}
use Rattle.rules.specs.declared.Refusal.{Refusal}
use Rattle.rules.specs.declared.Refusal.TheVariants.{Cut, UnknownTag, WrongLength, OutOfOrder, WeightsOver, TableShort, NotGood, NoLane, BadLength, LaneFull, StillHolds, NothingHeld, RunBounds, InputLong, FormatOutside, LaneOutside, WeightOutside, LongestOutside, FramingOutside, WrongByte, SheetCut, NoSheet, NoTrain, TrainFull}
use Rattle.rules.specs.declared.Answer.{Answer}
use Rattle.rules.specs.declared.Answer.TheVariants.{Accepted, Taken, Seen, Sets, Lag, Restarted}

-- R14's tables: the number, and the place where they have one
abbrev pub listed : Refusal → ℕ × Option ℕ
listed (Cut p) = (1, some p)
listed (UnknownTag p) = (2, some p)
listed (WrongLength p) = (3, some p)
listed (OutOfOrder p) = (4, some p)
listed (WeightsOver p) = (6, some p)
listed TableShort = (7, some 0)
listed NotGood = (10, none)
listed NoLane = (11, none)
listed BadLength = (12, none)
listed LaneFull = (13, none)
listed StillHolds = (15, none)
listed NothingHeld = (16, none)
listed RunBounds = (17, none)
listed InputLong = (18, none)
listed (FormatOutside p) = (50, some p)
listed (LaneOutside p) = (51, some p)
listed (WeightOutside p) = (52, some p)
listed (LongestOutside p) = (53, some p)
listed (FramingOutside p) = (54, some p)
listed (WrongByte p) = (80, some p)
listed (SheetCut p) = (81, some p)
listed NoSheet = (82, none)
listed NoTrain = (70, none)
listed TrainFull = (71, none)

abbrev pub number : Refusal → ℕ
number x = (listed x).0

abbrev pub place_of : Refusal → Option ℕ
place_of x = (listed x).1

abbrev pub answer : Answer → Reply
answer (Accepted n) = accepted n
answer (Taken r) = taken r.lane r.train r.mark r.length.0
answer (Seen r) = seen r.lane r.train r.mark r.length.0
answer (Sets w) = words w.er w.ir w.eb w.ib
answer (Lag z) = lagged z
answer Restarted = restarted

abbrev pub reads : Result Answer Refusal → Reply
reads (Ok a) = answer a
reads (Err x) = refused (number x) (place_of x)
