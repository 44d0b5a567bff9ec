-- What the plain choice is, as a property (R3.10).
--
--   Ahead        finish first, then group, then turn: the first three numbers come before the other three, or are the same
--   Chosen       a candidate is an eligible lane of the list, and no eligible lane is ahead of it
--   Choice       what an answer says: no candidate, no eligible lane; a candidate, it is Chosen
--   ChoiceRule   what `choose` gives is so, of every state
--
-- v is the clock, i the number of the list's first lane. Assumes nothing.
use Rattle.std.specs.Prelude.{ℕ, ◌+◌, ◌≤◌, ◌≡◌, true, false, List, get_or}
use Rattle.std.proofs.Math.Option.{Option, none, some}
use Rattle.units.specs.Plain.{place}
use Rattle.rules.specs.State.{Lane, State, group, finish_r, eligible, no_lane}
use Rattle.rules.specs.Choice.{Candidate, choose}

pub record Ahead (f g t f' g' t' : ℕ) : Type 0 where
  pub fin : f ≤ f'
  pub grp : f' ≤ f → g ≤ g'
  pub trn : f' ≤ f → g' ≤ g → t ≤ t'

module _ (v : ℕ) (order : List ℕ) where
  abbrev pub AheadOf : Candidate → ℕ → List Lane → ℕ → Type 0
  AheadOf c i ls k = Ahead c.finish c.group c.turn (finish_r (get_or ls k no_lane)) (group (get_or ls k no_lane).given) (place (i + k) order)

  pub record Chosen (i : ℕ) (ls : List Lane) (c : Candidate) : Type 0 where
    pub at : ℕ
    pub num : c.lane ≡ i + at
    pub is : eligible v (get_or ls at no_lane) ≡ true
    pub fin : c.finish ≡ finish_r (get_or ls at no_lane)
    pub grp : c.group ≡ group (get_or ls at no_lane).given
    pub trn : c.turn ≡ place (i + at) order
    pub least : (k : ℕ) → eligible v (get_or ls k no_lane) ≡ true → AheadOf c i ls k

  abbrev pub Choice : ℕ → List Lane → Option Candidate → Type 0
  Choice i ls none = (k : ℕ) → eligible v (get_or ls k no_lane) ≡ false
  Choice i ls (some c) = Chosen i ls c

unfoldable pub ChoiceRule : Type 0
ChoiceRule = (s : State) → Choice s.clock s.order 0 s.lanes (choose s)
