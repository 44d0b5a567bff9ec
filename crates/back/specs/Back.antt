-- What it leaves that the clock was taken back.
--
--   NotBelow    a lane from whose S d can be taken off: one that holds no record has none
--   lowered_to   a state whose lanes below k are lowered by d
--   TakesBack   the table means the state from which the rules' put goes on, and is known to be good again
--
-- Assumes nothing.
use Rattle.std.specs.Prelude.{ℕ, ◌≤◌, ◌≡◌, true, List, drop}
use Rattle.rules.specs.State.{Lane, State, holds, lane_at}
use Rattle.rules.specs.Calls.{lowered, shifted}
use Rattle.table.specs.Layout.{SIZE}
use Rattle.table.specs.Means.{meant}
use Rattle.fresh.specs.Makes.{mixed}
use Rattle.choice.specs.Known.{Known}

abbrev pub NotBelow : ℕ → Lane → Type 0
NotBelow d l = holds l ≡ true → d ≤ l.start

abbrev pub lowered_to : ℕ → ℕ → State → State
lowered_to k d s = record { clock = s.clock; lanes = mixed k (λ i. lowered d (lane_at s i)) (lane_at s); order = s.order }

pub record TakesBack (before after : List ℕ) : Type 0 where
  pub state : meant after ≡ shifted (meant before)
  pub known : Known after
  pub rest : drop SIZE after ≡ drop SIZE before
