-- What the parts of a call leave: the rules' own state, up to the order of two lanes of different slot lists, which no table stores.
--
--   Holds     clock and lanes are the state's, and the slot lists agree with it
--   Turns     the table holds a state then, and the bytes past the table are as they were
--   Reaching  some group's start is reached, or r is later than the clock
--   Settled   what the clock became
--
-- Assumes nothing.
use Rattle.std.specs.Prelude.{ℕ, ◌≤◌, ◌≡◌, List, drop}
use Rattle.std.proofs.Math.Option.{some}
use Rattle.rules.specs.State.{State}
use Rattle.table.specs.Layout.{SIZE}
use Rattle.table.specs.Means.{meant, Sound, Leaves, with_clock}
use Rattle.slot_lists.specs.Lists.{back_at, list_at, start_at, Solid}
use Rattle.filing.specs.Filing.{Agrees}
use Rattle.groups.specs.Front.{Settles}

pub record Holds (t : List ℕ) (s : State) : Type 0 where
  pub sound : Sound t
  pub clock : (meant t).clock ≡ s.clock
  pub lanes : (meant t).lanes ≡ s.lanes
  pub solid : Solid t
  pub agrees : Agrees (back_at t) (list_at t) (start_at t) s

pub record Turns (before after : List ℕ) (s : State) : Type 0 where
  pub holds : Holds after s
  pub rest : drop SIZE after ≡ drop SIZE before

-- a group whose start the clock v has reached if r is at most v
pub record Reaching (t : List ℕ) (v r : ℕ) : Type 0 where
  pub group : ℕ
  pub at : ℕ
  pub low : 16 ≤ group
  pub high : group ≤ 31
  pub start : start_at t group ≡ some at
  pub reached : r ≤ v → at ≤ v

pub record Settled (before after : List ℕ) (v : ℕ) : Type 0 where
  pub clock : ℕ
  pub is : Settles (start_at before) v clock
  pub leaves : Leaves before after (with_clock (meant before) clock)
