-- What the test finds, and a good old table: each gives the other. Assumes nothing.
use mathlib.Core.Path.{◌≡◌, refl, sym, ap, subst, ◌∙◌}
use mathlib.Core.Bool.{true}
use Prim.Native.Nat.{ℕ, ◌≤◌, ◌<◌}
use mathlib.Core.List.{List}
use native.Mathlib.Omega.{arith}
use lib.ListN.{length, get_or}
use Rattle.rounds.specs.Good.{Lengths}
use Rattle.waiting.specs.Waiting.{Waiting, plain, GoodWaiting, held}
use Rattle.rules.specs.State.{Lane, no_lane}
use Rattle.rules.specs.Older.{old_depth, old_edge}
use Rattle.table.specs.Layout.{cells, clock_word, framing_word}
use Rattle.table.specs.Means.{present_at, RowAgrees, RowPaced}
use Rattle.lists_test.specs.Stored.{ListsStored}
use Rattle.lane_test.specs.Says.{TimeGood, LaneFine}
use Rattle.lane_test.proofs.Lane.{fine-made, fine-waiting, fine-time}
use Rattle.good.specs.Pass.{FoundSays}
use Rattle.good.specs.declared.Found.{Found}
use Rattle.good.specs.Kept.{waiting_kept}
use Rattle.good.proofs.Told.{Told, lane_of, each_lane, told-fine, told-framing}
use Rattle.good.proofs.FoundTold.{found-told, told-found}
use Rattle.old_table.specs.Old.{old_size, old_row_at, old_queue, old_lane, old_meant, OldTable}
use Rattle.old_table.specs.Tested.{OldLaneGood}
use Rattle.old_table.specs.Kept.{old}
use Rattle.old_table.proofs.Reading.{old-means, length-queue}

-- ---- a lane

module _ (v : ℕ) (w : List ℕ) (k : ℕ) (p : present_at w k ≡ true) where
  abbrev queue : Waiting
  queue = plain (old_queue w k)

  size : held queue ≡ (old_row_at w k).count
  unfolding held
  size = length-queue w k (old_row_at w k).head (old_row_at w k).count

  queue-good : (old_row_at w k).count ≤ old_depth → Lengths (old_row_at w k).longest.0 (old_queue w k) → GoodWaiting (old_row_at w k).longest.0 queue
  unfolding GoodWaiting
  queue-good r f = (omega (arith, length-queue w k (old_row_at w k).head (old_row_at w k).count), f)

  pub lane_made : RowAgrees (old_row_at w k) → RowPaced (old_row_at w k) → (old_row_at w k).count ≤ old_depth → TimeGood v (old_row_at w k) (old_row_at w k).group → Lengths (old_row_at w k).longest.0 (old_queue w k) → OldLaneGood v w k
  lane_made a c r t f = record { fine = fine-made v _ queue _ ((old w).present k p) size a (λ h. c) (queue-good r f) (subst (TimeGood v (old_row_at w k)) c.grouped t); paced = c; room = r }

  pub lane-lengths : OldLaneGood v w k → Lengths (old_row_at w k).longest.0 (old_queue w k)
  unfolding GoodWaiting
  lane-lengths g = (fine-waiting v _ queue _ ((old w).present k p) size g.fine).1

  pub lane-time : OldLaneGood v w k → TimeGood v (old_row_at w k) (old_row_at w k).group
  lane-time g = subst (TimeGood v (old_row_at w k)) (sym g.paced.grouped) (fine-time v _ queue _ ((old w).present k p) size g.fine)

-- ---- the table

clock-is : (t : List ℕ) → get_or (cells t) clock_word 0 ≡ (old_meant t).clock
unfolding old_meant
clock-is t = refl

held-is : (w : List ℕ) (k : ℕ) → present_at w k ≡ true → held (old_lane w k).waiting ≡ (old_row_at w k).count
unfolding held
held-is w k p = ap held (waiting_kept w (old w) k p) ∙ length-queue w k _ _

held_none : held no_lane.waiting ≤ old_depth
unfolding held
held_none = omega arith

module _ (t : List ℕ) where
  told : OldTable t → Told t (old_row_at (cells t)) (old_meant t)
  told g = record { good = g.good.good; rows = g.agrees.rows; paced = λ k h p n. g.agrees.paced k h p; counted = λ k h p. ap (λ (l : Lane). held l.waiting) (lane_of (old-means t) k h) ∙ held-is (cells t) k p; solid = g.agrees.solid; agrees = g.agrees.lists }

  module _ (v : ℕ) (f : Found) (clock : v ≡ get_or (cells t) clock_word 0) (s : FoundSays v (cells t) (old_lane (cells t)) (OldLaneGood v (cells t)) 64 f) where
    pub whole-old : old_size ≤ length t → v < old_edge → get_or (cells t) framing_word 0 ≤ 64
        → (0 < f.weights) × (f.weights ≤ 1024) × (0 < f.held → f.eligible ≡ true) × ListsStored t f.held → OldTable t
    whole-old room end framed q =
        let x = found-told (old-means t) (OldLaneGood v (cells t)) v (clock ∙ clock-is t) (λ k g. g.fine) f s (omega arith) framed q.0 q.1 q.2 q.3 in
        record {
          room = room;
          good = record {
            good = x.good;
            room = each_lane (old-means t) (λ (l : Lane). held l.waiting ≤ old_depth) held_none (λ k h p. omega (arith, held-is (cells t) k p, (s.lanes k h p).room));
            clock = omega (arith, clock, clock-is t);
          };
          agrees = record { rows = x.rows; paced = λ k h p. (s.lanes k h p).paced; solid = x.solid; lists = x.agrees };
        }

    pub old-found : OldTable t → (0 < f.weights) × (f.weights ≤ 1024) × (0 < f.held → f.eligible ≡ true) × ListsStored t f.held
    old-found g = told-found (old-means t) (OldLaneGood v (cells t)) v (clock ∙ clock-is t) (λ k g. g.fine) f s (told g)

  pub old-lanes : (v : ℕ) → v ≡ get_or (cells t) clock_word 0 → OldTable t → (k : ℕ) → k < 64 → present_at (cells t) k ≡ true → OldLaneGood v (cells t) k
  old-lanes v clock g k h p =
      record {
        fine = subst (λ (v : ℕ). LaneFine v (old_row_at (cells t) k) (old_lane (cells t) k)) (sym (clock ∙ clock-is t)) (told-fine (old-means t) (told g) k h p);
        paced = g.agrees.paced k h p;
        room = omega (arith, held-is (cells t) k p, g.good.room k, ap (λ (l : Lane). held l.waiting) (lane_of (old-means t) k h));
      }

  pub old-framed : OldTable t → get_or (cells t) framing_word 0 ≤ 64
  old-framed g = told-framing (old-means t) (told g)

  pub old-clock : OldTable t → get_or (cells t) clock_word 0 < old_edge
  old-clock g = omega (arith, clock-is t, g.good.clock)
