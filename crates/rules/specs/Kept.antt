-- What every list of the rules' calls keeps, and the fair share with the setup's own figure.
--
--   AlwaysGood     R6.13: every state that calls make from a fresh one is good
--   SettingsKept   R15.14: no call changes a lane's setting
--   FairTight      R15.9: the fair share with 1,024 times the charge of the setup's own longest record in place of M
--
-- Assumes nothing.
use Rattle.std.specs.Prelude.{◌*◌, ◌≡◌, List}
use Rattle.rules.specs.State.{Setting, State, setup_of}
use Rattle.rules.specs.Setup.{Setup, longest_charge}
use Rattle.rules.specs.Calls.{Call, fresh}
use Rattle.rules.specs.Runs.{after}
use Rattle.rules.specs.Fair.{Fair}
use Rattle.rules.specs.Good.{Good}

unfoldable pub AlwaysGood : Type 0
AlwaysGood = (gs : List Setting) → Setup gs → (cs : List Call) → Good (after (fresh gs) cs)

unfoldable pub SettingsKept : Type 0
SettingsKept = (s : State) (cs : List Call) → setup_of (after s cs) ≡ setup_of s

unfoldable pub FairTight : Type 0
FairTight = (gs : List Setting) → Setup gs → Fair (1024 * longest_charge gs) gs
