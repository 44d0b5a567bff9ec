-- What the one pass over the lanes finds.
--
--   Noted      a lane's part in what is found
--   FoundSays  what is found of the lanes below n: all pass; their weights' sum, the word of those that hold records, whether one is eligible
--   PassSays   what the pass answers
--
-- The lanes and what each must pass are parameters: a table of an older layout keeps its lanes in another way, and is walked by the same pass.
-- Assumes nothing.
use Rattle.std.specs.Prelude.{◌≡◌, Bool, true, ◌&&◌, ◌||◌, ℕ, zero, suc, ◌+◌, ◌^◌, ◌<◌, List, leb, ltb, if◌then◌else◌, Option, Some, None}
use Rattle.units.specs.Numbers.{round_down}
use Rattle.units.specs.Plain.{any_below, word_of}
use Rattle.rules.specs.State.{Lane, holds, eligible}
use Rattle.table.specs.Means.{present_at}
use Rattle.table.specs.declared.LaneRow.{LaneRow}
use Rattle.good.specs.declared.Found.{Found}

pub record Noted (f : Found) (k : ℕ) (l : LaneRow) (v : ℕ) (r : Found) : Type 0 where
  pub weights : r.weights ≡ f.weights + l.weight
  pub held : r.held ≡ (if ltb 0 l.count then 2 ^ k else 0) + f.held
  pub eligible : r.eligible ≡ (ltb 0 l.count && leb (round_down (2 ^ l.group) l.time.0) v || f.eligible)

unfoldable pub sum_to : ℕ → (ℕ → ℕ) → ℕ
sum_to zero f = 0
sum_to (suc n) f = sum_to n f + f n

abbrev pub weight_at : (ℕ → Lane) → ℕ → ℕ
weight_at lane k = (lane k).given.weight

abbrev pub holds_at : (ℕ → Lane) → ℕ → Bool
holds_at lane k = holds (lane k)

abbrev pub eligible_at : ℕ → (ℕ → Lane) → ℕ → Bool
eligible_at v lane k = eligible v (lane k)

pub record FoundSays (v : ℕ) (w : List ℕ) (lane : ℕ → Lane) (Passes : ℕ → Type 0) (n : ℕ) (f : Found) : Type 0 where
  pub lanes : (k : ℕ) → k < n → present_at w k ≡ true → Passes k
  pub weights : f.weights ≡ sum_to n (weight_at lane)
  pub held : f.held ≡ word_of (holds_at lane) n
  pub eligible : f.eligible ≡ any_below (eligible_at v lane) n

-- a lane that is in the setup and does not pass stops the pass
unfoldable pub PassSays : ℕ → List ℕ → (ℕ → Lane) → (ℕ → Type 0) → Option Found → Type 0
PassSays v w lane Passes None = ((k : ℕ) → k < 64 → present_at w k ≡ true → Passes k) → ⊥
PassSays v w lane Passes (Some f) = FoundSays v w lane Passes 64 f
