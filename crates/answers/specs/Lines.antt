-- The line of a reply, by the setup in force: the rules' replies name a record's train in every lane, a line names it in a shared lane alone.
--
--   InSetup    a reply that hands out or shows a record names a lane of the setup
--   in_shared   the reply hands out or shows a record of a shared lane
--   line_by     the line of a reply
--
-- Assumes nothing.
use Rattle.std.specs.Prelude.{ℕ, ◌<◌, Bool, false, List}
use Rattle.rules.specs.State.{Setting, setting_at}
use Rattle.rules.specs.Calls.{Reply, accepted, taken, seen, words, lagged, restarted, refused}
use Rattle.lines.specs.Line.{line_of}

-- so that what its row says of the lane means something: proofs/InSetup.antt shows it of every reply on a good table
abbrev pub InSetup : List Setting → Reply → Type 0
InSetup gs (accepted n) = Unit
InSetup gs (taken j k m n) = 0 < (setting_at gs j).weight
InSetup gs (seen j k m n) = 0 < (setting_at gs j).weight
InSetup gs (words er ir eb ib) = Unit
InSetup gs (lagged z) = Unit
InSetup gs restarted = Unit
InSetup gs (refused n p) = Unit

-- R10.16
abbrev pub in_shared : List Setting → Reply → Bool
in_shared gs (accepted n) = false
in_shared gs (taken j k m n) = (setting_at gs j).shared
in_shared gs (seen j k m n) = (setting_at gs j).shared
in_shared gs (words er ir eb ib) = false
in_shared gs (lagged z) = false
in_shared gs restarted = false
in_shared gs (refused n p) = false

-- R10.12, R10.16: a take's and a look's line of a shared lane end with the train
abbrev pub line_by : List Setting → Reply → List ℕ
line_by gs r = line_of (in_shared gs r) r
