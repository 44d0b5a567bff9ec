-- From a lane's words to the lane, before and behind the stores of `append`, `wake` and `take_first`. Assumes nothing.
use mathlib.Core.Path.{◌≡◌, refl, sym, ap, ◌∙◌}
use mathlib.Core.Bool.{true, false, false≢true}
use Prim.Native.Nat.{ℕ, zero, suc, ◌+◌, ◌≤◌, ◌<◌}
use mathlib.Core.List.{List}
use native.Mathlib.Omega.{arith}
use lib.Seq.{set-get_or}
use lib.ListN.{length, set, get_or}
use borrow.Author.Tests.{leb-false, ltb-true}
use Rattle.rounds.specs.Round as round
use Rattle.rounds.specs.Round.{Train, train_count, train_depth}
use Rattle.rounds.specs.Good.{GoodShared}
use Rattle.turns.specs.Turns.{head_of, count_of, named_of, order_of, round_of, fours, train_of, trains_of, shared_of, Ordered}
use Rattle.turns.proofs.Train.{train-is, length-ring}
use Rattle.turns.proofs.Good.{good-light, good-room}
use Rattle.waiting.specs.Waiting.{shared, item_of, first, known, full, GoodWaiting}
use Rattle.waiting.proofs.Laws.{Enters, first-nothing, held_none}
use Rattle.rules.specs.State.{Rec, Setting, Lane, lane_at, lane_depth, first_of, holds, some?}
use Rattle.rules.proofs.Moves.{idle-first}
use Rattle.table.specs.Layout.{Now, cells, lane_word, round_at, row_at, put_row, put_ring, train_number}
use Rattle.table.specs.Means.{present_at, rec_at, shared_at, waiting_of, given_of, timed_by_word, state_of, meant, Housed, RowsFit, Leaves, with_lane}
use Rattle.table.specs.declared.LaneRow.{LaneRow}
use Rattle.table.proofs.Stores.{length-cells, behind-then}
use Rattle.table.proofs.Footprint.{lane-is}
use Rattle.table.proofs.Leave.{leave-lane}
use Rattle.table.proofs.Untouched.{row_same, present-same, outside_trans, outside-row}
use Rattle.table.proofs.Rows.{retimed, row_put, lane-put, housed-put, lane-present, given-row, waiting-row, waiting_none, waiting-shared, waiting-held}
use Rattle.queue.specs.Queue.{Ready, QueueMoved}

-- ---- then the row is stored, with the clock word x and n records from the place h on

pub rewritten : (t t₁ t' : List ℕ) (k x h n : ℕ) → k < 64 → h < lane_depth → present_at (cells t) k ≡ true → QueueMoved t t₁ k → (RowsFit (cells t) → 0 < n → Housed (cells t₁) k (retimed (row_at (cells t) k) x h n))
    → Now t₁ t' (put_row (cells t₁) k (retimed (row_at (cells t) k) x h n))
    → Leaves t t' (with_lane (meant t) k (timed_by_word (given_of (row_at (cells t) k)) x (waiting_of (cells t₁) k (retimed (row_at (cells t) k) x h n))))
rewritten t t₁ t' k x h n hk small p m f b =
    let u = cells t₁ in
    let l = retimed (row_at u k) x h n in
    let v = put_row u k l in
    let same : row_at u k ≡ row_at (cells t) k = row_same (cells t) u k hk m.rows in
    let e : cells t' ≡ v = b.words ∙ rw same in
    let stored : row_at v k ≡ l = row_put u k x h n (length-cells t₁) hk small in
    leave-lane t t' v k _ hk (record { words = e; rest = behind-then m.behind b.rest }) (outside_trans (cells t) u v k m.outside (outside-row u k l))
    (lane-put u k x h n (length-cells t₁) hk small (present-same (cells t) u k m.rows ∙ p) ∙ rw same)
    (λ beside q some. rw stored (housed-put u k l hk l (rw same (f beside (rw stored at some)))))

-- the ring stored alone: the clock word stays
pub ring-now : (t t₁ t' : List ℕ) (k h n : ℕ) → k < 64 → QueueMoved t t₁ k → Now t₁ t' (put_ring (cells t₁) k h n)
    → Now t₁ t' (put_row (cells t₁) k (retimed (row_at (cells t) k) (row_at (cells t) k).time.0 h n))
unfolding put_row row_at
ring-now t t₁ t' k h n hk m b =
    let time : get_or (cells t₁) (lane_word k + 1) 0 ≡ get_or (cells t) (lane_word k + 1) 0 = m.rows (lane_word k + 1) (omega arith) (omega arith) in
    let same : set (cells t₁) (lane_word k + 1) (get_or (cells t) (lane_word k + 1) 0) ≡ cells t₁ = ap (set (cells t₁) (lane_word k + 1)) (sym time) ∙ set-get_or (cells t₁) (lane_word k + 1) 0 in
    record { words = b.words ∙ ap (λ (w : List ℕ). put_ring w k h n) (sym same); rest = b.rest }

-- ---- a lane by its row

module _ (w o : List ℕ) (k : ℕ) (hk : k < 64) (p : present_at w k ≡ true) where
  abbrev l : LaneRow
  l = row_at w k

  pub lane_row : lane_at (state_of w o) k ≡ timed_by_word (given_of l) l.time.0 (waiting_of w k l)
  lane_row = lane-is w o k hk ∙ lane-present w k p

  pub waiting-of : (lane_at (state_of w o) k).waiting ≡ waiting_of w k l
  waiting-of = ap (λ (x : Lane). x.waiting) (lane-is w o k hk) ∙ waiting-row w k p

  pub first-of : first_of (lane_at (state_of w o) k) ≡ first (waiting_of w k l)
  first-of = ap first waiting-of

  pub longest-row : (lane_at (state_of w o) k).given.longest ≡ l.longest.0
  longest-row = ap (λ (x : Lane). x.given.longest) (lane-is w o k hk) ∙ ap (λ (g : Setting). g.longest) (given-row w k p)

  pub holds_row : holds (lane_at (state_of w o) k) ≡ true → 0 < l.count
  holds_row h = go l.count refl
    where
      go : (n : ℕ) → l.count ≡ n → 0 < l.count
      go zero e = absurd (false≢true (sym (ap some? (first-of ∙ ap first (waiting_none w k l e) ∙ first-nothing l.shared)) ∙ h))
      go (suc n) e = omega arith

  -- what waits, in the row's own numbers
  pub good-row : GoodWaiting (lane_at (state_of w o) k).given.longest (lane_at (state_of w o) k).waiting → GoodWaiting l.longest.0 (waiting_of w k l)
  good-row g = rw (longest-row, waiting-of) at g

  pub enters-row : (r : Rec) → Enters (lane_at (state_of w o) k).given.longest (lane_at (state_of w o) k).waiting r → Enters l.longest.0 (waiting_of w k l) r
  enters-row r a = rw (longest-row, waiting-of) at a

  pub idle-row : RowsFit w → GoodWaiting l.longest.0 (waiting_of w k l) → holds (lane_at (state_of w o) k) ≡ false → l.count ≡ 0
  idle-row b g h = sym (waiting-held w k l (b.housed k hk p)) ∙ held_none l.longest.0 (waiting_of w k l) g (sym first-of ∙ idle-first _ h)

-- ---- a shared lane

named_some : (at : ℕ → round.BareRec) (ts : ℕ → ℕ) (r : ℕ) → some? (item_of (round.shared_first (shared_of at ts r))) ≡ true → 0 < named_of r
unfolding shared_of round_of fours round.shared_first round.first_in_turn
named_some at ts r h = go (named_of r) refl
  where
    go : (n : ℕ) → named_of r ≡ n → 0 < named_of r
    go zero e = absurd (false≢true (sym (ap (λ (n : ℕ). some? (item_of (round.first_in_turn (trains_of at ts) (fours n (order_of r))))) e) ∙ h))
    go (suc n) e = omega arith

module _ (w : List ℕ) (k : ℕ) (l : LaneRow) (q : l.shared ≡ true) (some-held : 0 < l.count) where
  pub good-shared : GoodWaiting l.longest.0 (waiting_of w k l) → GoodShared l.longest.0 (shared_at w k)
  unfolding GoodWaiting
  good-shared g = rw (waiting-shared w k l q some-held) at g

  pub shared-named : some? (first (waiting_of w k l)) ≡ true → 0 < named_of (round_at w k)
  unfolding shared_at
  shared-named h = named_some (rec_at w k) (train_number w k) (round_at w k) (rw (waiting-shared w k l q some-held) at h)

  pub ready_held : GoodShared l.longest.0 (shared_at w k) → Ordered (round_at w k) → l.longest.0 ≤ 1500 → (r : Rec) → Enters l.longest.0 (waiting_of w k l) r → Ready w k r.train
  unfolding shared_at shared_of known full train_of
  ready_held g o short r a₀ =
      let a : Enters l.longest.0 (shared (shared_at w k)) r = rw (waiting-shared w k l q some-held) at a₀ in
      let j = ltb-true r.train train_count a.train in
      let at = rec_at w k in
      let ts = train_number w k in
      let queue : length (train_of at r.train (ts r.train)).queue ≡ count_of (ts r.train) = train-length at r.train (ts r.train) in
      let fewer = leb-false train_depth (length (round.train_at (shared_of at ts (round_at w k)) r.train).queue) a.room in
      record {
        train = j;
        light = good-light l.longest.0 (round_at w k) at ts g short r.train j;
        room = omega (arith, fewer, queue, ap (λ (x : Train). length x.queue) (train-is ts at r.train j));
        ordered = o;
        starts = good-room l.longest.0 (round_at w k) at ts g r.train j;
      }
    where
      train-length : (at : ℕ → round.BareRec) (j t : ℕ) → length (train_of at j t).queue ≡ count_of t
      train-length at j t = length-ring at j (head_of t) (count_of t)
