-- What holds of every list of the halt's calls from a table that its `make` left. They are calls of the scheduler's, so all that these promise holds, the
-- tighter figure of a busy lane's share among it (scheduler/specs/Demands.antt, `fair_tight`); here it is with the halt's own numbers.
--
--   HaltChain    the halt's calls with their answers, from some bytes to others
--   HaltBegins   a table that the halt's `make` left
--   halt_margin   262,144: 1,024 times the greatest longest, h being 0
--   HaltShare    R20.5: a busy lane's share, with this figure
--   SeesBelow    R20.5: how many bytes a lane that holds a record and sends none can see sent
--   HaltHolds    the claim
--
-- Assumes nothing.
use Rattle.std.specs.Prelude.{ℕ, ◌+◌, ◌*◌, ◌<◌, ◌≡◌, List, [], ◌∷◌, ◌++◌}
use Rattle.units.specs.Numbers.{line_rate}
use Rattle.rules.specs.State.{setting_at, rate, slot}
use Rattle.rules.specs.Calls.{Call}
use Rattle.rules.specs.Reads as rules
use Rattle.rules.specs.Fair.{bytes_sent, bytes_sent_of}
use Rattle.rules.specs.declared.Answer.{Answer}
use Rattle.std.specs.Prelude.{Result}
use Rattle.rules.specs.declared.Refusal.{Refusal}
use Rattle.pages.specs.Device.{ruled, answered}
use Rattle.pages.specs.Offers.{DeviceEvent, of_rules}
use Rattle.pages.specs.Claims.{HeldThroughout}
use Rattle.scheduler.specs.Make.{made}
use Rattle.scheduler.specs.Compared.{tightest}
use Rattle.scheduler.specs.Demands.{Demands}
use Rattle.halt.specs.Halt.{halt_setup, HaltTable, HaltStep, halt_reply, HaltMake}
use Rattle.halt.specs.declared.NotMade.{NotMade}

pub data HaltChain : List ℕ → List DeviceEvent → List ℕ → Type 0 where
  done : {t : List ℕ} → HaltChain t [] t
  then : {t u v : List ℕ} {c : Call} {a : Result Answer Refusal} {es : List DeviceEvent} → HaltStep c t a u → HaltChain u es v
      → HaltChain t (record { call = ruled c; reply = answered (rules.reads a) } ∷ es) v

pub record HaltBegins (t : List ℕ) : Type 0 where
  pub setup : List ℕ
  pub before : List ℕ
  pub answer : Result ℕ NotMade
  pub lanes : ℕ
  pub makes : HaltMake setup before answer t
  pub accepted : halt_reply answer ≡ made lanes

-- R20.5
abbrev pub halt_margin : ℕ
halt_margin = 262144

-- R20.5: the figure is that of `fair_tight` for this setup
unfoldable pub MarginIs : Type 0
MarginIs = tightest halt_setup ≡ halt_margin

-- R20.5
unfoldable pub HaltShare : List DeviceEvent → Type 0
HaltShare es =
    (past stretch rest : List DeviceEvent) → es ≡ past ++ stretch ++ rest
    → (k : ℕ) → HeldThroughout k past stretch
    → line_rate * bytes_sent halt_setup (of_rules stretch)
    < rate (setting_at halt_setup k) * bytes_sent_of halt_setup k (of_rules stretch) + 4 * slot (setting_at halt_setup k) + halt_margin

-- R20.5
unfoldable pub SeesBelow : ℕ → ℕ → List DeviceEvent → Type 0
SeesBelow k n es =
    (past stretch rest : List DeviceEvent) → es ≡ past ++ stretch ++ rest
    → HeldThroughout k past stretch → bytes_sent_of halt_setup k (of_rules stretch) ≡ 0 → bytes_sent halt_setup (of_rules stretch) < n

-- R20.5
pub record HaltDemands (es : List DeviceEvent) (u : List ℕ) : Type 0 where
  pub demands : Demands halt_setup es u
  -- the table stays the halt's
  pub table : HaltTable u
  pub share : HaltShare es
  pub lane_0 : SeesBelow 0 2304 es
  pub lane_1 : SeesBelow 1 4352 es
  pub lane_2 : SeesBelow 2 8448 es
  pub lane_3 : SeesBelow 3 8448 es

-- R20.5
unfoldable pub HaltHolds : Type 0
HaltHolds = (t u : List ℕ) (es : List DeviceEvent) → HaltBegins t → HaltChain t es u → HaltDemands es u
