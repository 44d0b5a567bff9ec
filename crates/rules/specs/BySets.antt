-- The choice through the sets, as QFQ finds it, and that it is the plain choice.
--
--   stands_at        the lane is of group i and has the rounded start r
--   first_in         the first in a list that passes a test
--   lane_of_group     the lane of group i with this rounded start that stands first in the tie order
--   choose_by_sets    that of the first set bit's group, at the group's start
--   candidate_lane   the lane that is chosen, if one is
--   SameChoice      R4.7: on every good state both choose the same lane
--
-- Assumes nothing.
use Rattle.std.specs.Prelude.{ℕ, ◌≡◌, Bool, ◌&&◌, List, [], ◌∷◌, eqb, if◌then◌else◌}
use Rattle.std.proofs.Math.Option.{Option, none, some}
use Rattle.rules.specs.State.{Lane, State, start_r, lane_at}
use Rattle.rules.specs.Choice.{Candidate, choose}
use Rattle.rules.specs.Sets.{in_group, group_start, first_group}
use Rattle.rules.specs.Good.{Good}

unfoldable pub stands_at : ℕ → ℕ → Lane → Bool
stands_at i r l = in_group i l && eqb (start_r l) r

unfoldable pub first_in : (ℕ → Bool) → List ℕ → Option ℕ
first_in p [] = none
first_in p (k ∷ ks) = if p k then some k else first_in p ks

unfoldable pub lane_of_group : State → ℕ → Option ℕ → Option ℕ
lane_of_group s i none = none
lane_of_group s i (some r) = first_in (λ k. stands_at i r (lane_at s k)) s.order

unfoldable pub choose_by_sets : State → Option ℕ
choose_by_sets s = lane_of_group s (first_group s) (group_start s.lanes (first_group s))

abbrev pub candidate_lane : Option Candidate → Option ℕ
candidate_lane none = none
candidate_lane (some c) = some c.lane

unfoldable pub SameChoice : Type 0
SameChoice = (s : State) → Good s → choose_by_sets s ≡ candidate_lane (choose s)
