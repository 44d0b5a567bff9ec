-- The trains of a lane: which it knows, when one is full, and how many records of one its words tell of. Assumes nothing.
use Prim.Native.Nat.{ℕ, zero, suc, ◌<◌}
use native.Mathlib.Omega.{arith}
use mathlib.Core.Path.{◌≡◌, refl, sym, ap, ◌∙◌}
use mathlib.Core.Bool.{Bool, true, false}
use mathlib.Core.List.{List}
use lib.Dec.{eqb, leb, ltb}
use lib.ListN.{length}
use borrow.Author.Tests.{leb-true, lt-leb, le-ltb, ne_eqb}
use Rattle.std.specs.Prelude.{if◌then◌else◌}
use Rattle.rounds.specs.Round as round
use Rattle.turns.specs.Turns.{head_of, count_of, train_of, shared_of}
use Rattle.turns.proofs.Train as train
use Rattle.waiting.specs.Waiting.{Waiting, plain, shared, queue_of, full, known, is_shared}
use Rattle.waiting.proofs.Laws.{queue-nothing}
use Rattle.table.specs.Layout.{train_number}
use Rattle.table.specs.Means.{rec_at, shared_at, waiting_of}
use Rattle.table.specs.declared.LaneRow.{LaneRow}
use Rattle.table.proofs.Rows.{length-ring, waiting-plain, waiting_none, waiting-shared}
use Rattle.engine.specs.Does.{lane_trains, queue_depth, held_by}

pub known_is : (w : Waiting) (j : ℕ) → known w j ≡ ltb j (lane_trains (is_shared w))
unfolding known is_shared
known_is (plain q) zero = refl
known_is (plain q) (suc j) = lt-leb (suc j) 0 (omega arith) ∙ sym (le-ltb (suc j) 1 (omega arith))
known_is (shared s) j = refl

pub full_is : (w : Waiting) (j : ℕ) → known w j ≡ true → full w j ≡ leb (queue_depth (is_shared w)) (length (queue_of w j))
unfolding known full queue_of is_shared
full_is (plain q) zero e = refl
full_is (plain q) (suc j) e = absurd (omega (arith, leb-true (suc j) 0 e))
full_is (shared s) j e = refl

-- the records of train j, by its number
train-length : (w : List ℕ) (k j : ℕ) → j < 8 → length (round.train_at (shared_at w k) j).queue ≡ count_of (train_number w k j)
unfolding shared_at shared_of train_of
train-length w k j h =
    ap (λ (x : round.Train). length x.queue) (train.train-is (train_number w k) (rec_at w k) j h)
    ∙ train.length-ring (rec_at w k) j (head_of (train_number w k j)) (count_of (train_number w k j))

pub held-is : (w : List ℕ) (k : ℕ) (l : LaneRow) (j : ℕ) → j < lane_trains l.shared → held_by w k l j ≡ length (queue_of (waiting_of w k l) j)
unfolding held_by queue_of
held-is w k l j h = go l.shared l.count refl refl h
  where
    first : (j : ℕ) → j < 1 → l.shared ≡ false → l.count ≡ length (queue_of (waiting_of w k l) j)
    first zero h e = sym (ap (λ (x : Waiting). length (queue_of x 0)) (waiting-plain w k l e) ∙ length-ring w k l.head l.count)
    first (suc j) h e = absurd (omega arith)

    go : (b : Bool) (n : ℕ) → l.shared ≡ b → l.count ≡ n → j < lane_trains b → (if b then (if eqb n 0 then 0 else count_of (train_number w k j)) else n) ≡ length (queue_of (waiting_of w k l) j)
    go false n e q h = sym q ∙ first j h e
    go true zero e q h = sym (ap (λ (x : Waiting). length (queue_of x j)) (waiting_none w k l q) ∙ ap length (queue-nothing l.shared j))
    go true (suc n) e q h = rw (ne_eqb (suc n) 0 (λ x. omega arith)) (sym (ap (λ (x : Waiting). length (queue_of x j)) (waiting-shared w k l e (omega arith)) ∙ train-length w k j h))
