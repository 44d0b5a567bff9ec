-- Laws of specs/Judge.antt: each way that a field is judged.
-- Assumes nothing.
use Prim.Native.Nat.{ℕ, ◌≤◌, ◌<◌}
use mathlib.Core.Path.{◌≡◌, ap, ◌∙◌}
use mathlib.Core.Bool.{true, false}
use mathlib.Core.List.{List}
use mathlib.Core.Option.{Option, some}
use borrow.Author.Tests.{le-leb, lt-leb}
use Rattle.std.specs.Prelude as core
use Rattle.std.specs.Prelude.{Some, None}
use Rattle.fields.specs.Item.{whole_field, bad_field}
use Rattle.plan.specs.Fields.{setup_item_at}
use Rattle.plan.specs.Judge.{longest_right, last_lane, within, misplaced, lane_outside, outside, Inside, over, faulted, judged, judged_at}
use Rattle.plan.specs.declared.judge.Fault.{Fault}
use Rattle.plan.specs.declared.judge.Fault.TheVariants.{BadLane, BadWeight, BadLongest}
use Rattle.plan.specs.declared.judge.Seen.{Seen}
use Rattle.plan.specs.declared.parse.LaneField.{LaneField}
use Rattle.plan.specs.declared.parse.SetupField.{SetupField}

module _ (l : LaneField) where
  pub outside-number : last_lane < l.lane → lane_outside l ≡ Some BadLane
  unfolding lane_outside
  outside-number h = rw (lt-leb l.lane last_lane h)

  module _ (h : l.lane ≤ last_lane) where
    pub outside-weight : within 1 1024 l.weight ≡ false → lane_outside l ≡ Some BadWeight
    unfolding lane_outside
    outside-weight w = simp (le-leb l.lane last_lane h, w)

    pub outside-longest : within 1 1024 l.weight ≡ true → longest_right l.longest ≡ false → lane_outside l ≡ Some BadLongest
    unfolding lane_outside
    outside-longest w g = simp (le-leb l.lane last_lane h, w, g)

    pub outside-none : within 1 1024 l.weight ≡ true → longest_right l.longest ≡ true → lane_outside l ≡ None
    unfolding lane_outside
    outside-none w g = simp (le-leb l.lane last_lane h, w, g)

module _ (seen : Seen) (s : List ℕ) (at : ℕ) where
  pub judged-no : (n : ℕ) (p : Option ℕ) → setup_item_at s at ≡ bad_field n p → judged_at seen s at ≡ bad_field n p
  unfolding judged_at
  judged-no n p h = ap (judged seen at) h

  module _ (f : SetupField) (next : ℕ) (h : setup_item_at s at ≡ whole_field f next) where
    pub judged-misplaced : misplaced seen f ≡ true → judged_at seen s at ≡ bad_field 4 (some at)
    unfolding judged_at
    judged-misplaced m = ap (judged seen at) h ∙ simp m

    pub judged-faults : misplaced seen f ≡ false → judged_at seen s at ≡ faulted at (outside f) (faulted at (over seen f) (whole_field f next))
    unfolding judged_at
    judged-faults m = ap (judged seen at) h ∙ simp m

    pub judged-whole : misplaced seen f ≡ false → Inside f → over seen f ≡ None → judged_at seen s at ≡ whole_field f next
    judged-whole m o w =
        judged-faults m
        ∙ ap (λ (x : core.Option Fault). faulted at x (faulted at (over seen f) (whole_field f next))) o
        ∙ ap (λ (x : core.Option Fault). faulted at x (whole_field f next)) w
