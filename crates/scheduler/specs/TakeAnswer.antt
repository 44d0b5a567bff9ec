-- R15.2 of a take, of the call's own answer: the record that is handed out is the one of R3.10 and R3.11.
--
--   Served      what holds of the lane and the record that an answer names
--   TakeCall    the claim, on any good table
--   LookTakes   R3.16: a look names the record of the take, of the two calls' own answers
--
-- Assumes nothing.
use Rattle.std.specs.Prelude.{ℕ, ◌≤◌, ◌≡◌, true, List}
use Rattle.std.proofs.Math.Option.{none, some}
use Rattle.units.specs.Plain.{place}
use Rattle.rules.specs.State.{State, group, finish_r, first_of, eligible, lane_at}
use Rattle.rules.specs.Calls.{take, look, taken, seen, refused}
use Rattle.rules.specs.Reads.{reads}
use Rattle.rules.specs.declared.Answer.{Answer}
use Rattle.std.specs.Prelude.{Result}
use Rattle.rules.specs.declared.Refusal.{Refusal}
use Rattle.table.specs.Means.{meant}
use Rattle.paged.specs.Paged.{GoodUnit}
use Rattle.scheduler.specs.Step.{Step}

pub record Served (s : State) (j k m n : ℕ) : Type 0 where
  pub may : eligible s.clock (lane_at s j) ≡ true
  -- its first record, of train k: in a shared lane the one that stands first in the round
  pub first : first_of (lane_at s j) ≡ some (record { train = k; mark = m; len = n })
  -- R3.10: by rounded finish, then by group, then by the tie order
  pub least : (i : ℕ) → eligible s.clock (lane_at s i) ≡ true → finish_r (lane_at s j) ≤ finish_r (lane_at s i)
  pub lowest : (i : ℕ) → eligible s.clock (lane_at s i) ≡ true → finish_r (lane_at s i) ≤ finish_r (lane_at s j)
      → group (lane_at s j).given ≤ group (lane_at s i).given
  pub earliest : (i : ℕ) → eligible s.clock (lane_at s i) ≡ true → finish_r (lane_at s i) ≤ finish_r (lane_at s j)
      → group (lane_at s i).given ≤ group (lane_at s j).given → place j s.order ≤ place i s.order

unfoldable pub TakeCall : Type 0
TakeCall = (t u : List ℕ) (a : Result Answer Refusal) (j k m n : ℕ) → GoodUnit t → Step take t a u → reads a ≡ taken j k m n → Served (meant t) j k m n

unfoldable pub LookTakes : Type 0
LookTakes =
    (t u : List ℕ) (a b : Result Answer Refusal) → GoodUnit t → Step take t a u → Step look t b t
    → ((j k m n : ℕ) → reads a ≡ taken j k m n → reads b ≡ seen j k m n) × (reads a ≡ refused 16 none → reads b ≡ refused 16 none)
