-- What the inner calls rest on, and what the choice finds.
--
--   Known      a table known to be good: what the good-table test shows, and what every call from a fresh table keeps
--   Standing   the lane that the rules choose, which stands first in the slot list of its group's start
--   ChoiceIs   what the choice answers
--
-- Assumes nothing.
use Rattle.std.specs.Prelude.{ℕ, ◌≤◌, ◌≡◌, List, Option, Some, None}
use Rattle.std.proofs.Math.Option.{none, some}
use Rattle.rules.specs.Choice.{choose}
use Rattle.rules.specs.BySets.{candidate_lane}
use Rattle.rules.specs.Good.{Good}
use Rattle.slot_lists.specs.Lists.{list_at, start_at, list_of}
use Rattle.filing.specs.Filing.{front_of}
use Rattle.table.specs.Means.{meant, Sound, Listed}
use Rattle.choice.specs.declared.Place.{Place}

pub record Known (t : List ℕ) : Type 0 where
  pub sound : Sound t
  pub listed : Listed t
  pub good : Good (meant t)

pub record Standing (t : List ℕ) (p : Place) : Type 0 where
  pub chosen : candidate_lane (choose (meant t)) ≡ some p.lane
  pub low : 16 ≤ p.group
  pub high : p.group ≤ 31
  pub start : start_at t p.group ≡ some p.start
  pub first : front_of (list_at t p.group (list_of t p.group p.start)) ≡ some p.lane

abbrev pub ChoiceIs : List ℕ → Option Place → Type 0
ChoiceIs t (Some p) = Standing t p
ChoiceIs t None = none ≡ candidate_lane (choose (meant t))
