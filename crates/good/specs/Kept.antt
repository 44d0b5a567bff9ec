-- How a table keeps its lanes: what the laws of the pass know of a layout. Assumes nothing.
use mathlib.Core.Path.{◌≡◌, refl, ap, ◌∙◌}
use mathlib.Core.Bool.{true, false}
use Prim.Native.Nat.{ℕ}
use mathlib.Core.List.{List}
use lib.ListN.{get_or}
use Rattle.waiting.specs.Waiting.{Waiting, is_shared}
use Rattle.rules.specs.State.{Lane, no_lane}
use Rattle.table.specs.Layout.{framing_word, row_at}
use Rattle.table.specs.Means.{present_at, given_of, waiting_of, timed_by_word, lane_of}
use Rattle.table.specs.declared.LaneRow.{LaneRow}
use Rattle.table.proofs.Rows.{lane-present, lane-absent, waiting-kind, row-framing}
use Rattle.table.proofs.Timed.{timed-given, timed-waiting}

-- A lane in the setup is by its row and what waits in it. Group and clock word stand where they stand today: the slot lists are tested by them.
pub record Kept (w : List ℕ) : Type 0 where
  pub row : ℕ → LaneRow
  pub waiting : ℕ → Waiting
  pub lane : ℕ → Lane
  pub present : (k : ℕ) → present_at w k ≡ true → lane k ≡ timed_by_word (given_of (row k)) (row k).time.0 (waiting k)
  pub absent : (k : ℕ) → present_at w k ≡ false → lane k ≡ no_lane
  pub kind : (k : ℕ) → is_shared (waiting k) ≡ (row k).shared
  pub framed : (k : ℕ) → (row k).framing.0 ≡ get_or w framing_word 0
  pub group : (k : ℕ) → (row k).group ≡ (row_at w k).group
  pub time : (k : ℕ) → (row k).time.0 ≡ (row_at w k).time.0

module _ (w : List ℕ) (x : Kept w) (k : ℕ) (p : present_at w k ≡ true) where
  pub given-kept : (x.lane k).given ≡ given_of (x.row k)
  given-kept = ap (λ (l : Lane). l.given) (x.present k p) ∙ timed-given _ _ _

  pub waiting_kept : (x.lane k).waiting ≡ x.waiting k
  waiting_kept = ap (λ (l : Lane). l.waiting) (x.present k p) ∙ timed-waiting _ _ _

-- today's layout
abbrev pub today : (w : List ℕ) → Kept w
today w = record {
  row = row_at w;
  waiting = λ k. waiting_of w k (row_at w k);
  lane = lane_of w;
  present = lane-present w;
  absent = lane-absent w;
  kind = λ k. waiting-kind w k (row_at w k);
  framed = row-framing w;
  group = λ k. refl;
  time = λ k. refl;
}
