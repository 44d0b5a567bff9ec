-- From the stores in a lane's words to what they make of it: what waits, and how it is housed. Assumes nothing.
use mathlib.Core.Path.{◌≡◌, refl, sym, ap, subst, ◌∙◌}
use mathlib.Core.Bool.{Bool, true, false}
use mathlib.Core.Logic.{⊎_elim}
use Prim.Native.Nat.{ℕ, zero, suc, ◌+◌, ◌-◌, ◌*◌, ◌%◌, ◌≤◌, ◌<◌}
use mathlib.Core.List.{List}
use native.Mathlib.Omega.{arith}
use lib.ListN.{length}
use Rattle.words.proofs.Runs.{eq-or-ne}
use Rattle.rounds.specs.Round as round
use Rattle.rounds.specs.Good.{GoodShared}
use Rattle.rounds.proofs.Held.{put-held, none-empty}
use Rattle.turns.specs.Turns.{shared_of, Ordered}
use Rattle.turns.proofs.Train.{length-trains}
use Rattle.waiting.specs.Waiting.{Waiting, plain, shared, enter, hand_out, tail}
use Rattle.table.specs.Layout.{CELLS, Now, cells, lengths_cell, length_words, length_cell, place_in_lane, round_at, entry_at, put_entry, clear_cells, train_number}
use Rattle.table.specs.Means.{rec_at, lane_ring, shared_at, waiting_of, RowPaced, PlacesFit, Housed}
use Rattle.table.specs.declared.Entry.{Entry}
use Rattle.table.specs.declared.LaneRow.{LaneRow}
use Rattle.table.proofs.Stores.{behind-refl, behind-then}
use Rattle.table.proofs.Entries.{Fits, entry-same, entry_other, clear-same, digit-none}
use Rattle.table.proofs.Footprint.{Outside}
use Rattle.table.proofs.Agrees.{paced-retimed}
use Rattle.table.proofs.Untouched.{SameRows, outside_trans}
use Rattle.table.proofs.Rows.{retimed, waiting-plain, waiting-shared, waiting_none}
use Rattle.queue.specs.Queue.{waiting, bare_item, QueueMoved, Entered}
use Rattle.queue.specs.declared.Item.{Item}

-- ---- where the stores lie

pub moved_none : (t : List ℕ) (k : ℕ) → QueueMoved t t k
moved_none t k = record { outside = record { kept = λ i p q r x. refl }; rows = λ i h ne. refl; behind = behind-refl }

pub moved-now : (t t' u : List ℕ) (k : ℕ) → Now t t' u → Outside (cells t) u k → SameRows (cells t) u k → QueueMoved t t' k
moved-now t t' u k n o r =
    record { outside = subst (λ (x : List ℕ). Outside (cells t) x k) (sym n.words) o; rows = subst (λ (x : List ℕ). SameRows (cells t) x k) (sym n.words) r; behind = n.rest }

pub moved_then : {t u v : List ℕ} {k : ℕ} → QueueMoved t u k → QueueMoved u v k → QueueMoved t v k
moved_then {t} {u} {v} {k} a b =
    record {
      outside = outside_trans (cells t) (cells u) (cells v) k a.outside b.outside;
      rows = λ i h ne. b.rows i h ne ∙ a.rows i h ne;
      behind = behind-then a.behind b.behind;
    }

-- ---- places within the lane's numbers

module _ (w : List ℕ) (k : ℕ) (l : LaneRow) (hk : k < 64) (size : length w ≡ CELLS) where
  pub places-one : (i : ℕ) (e : Entry) → Fits e → e.length.0 ≤ l.longest.0 → PlacesFit w k l → PlacesFit (put_entry w (place_in_lane k i) e) k l
  places-one i e f le others j hj =
      ⊎_elim
      (λ (q : place_in_lane k j ≡ place_in_lane k i). rw (q, entry-same w (place_in_lane k i) (omega arith) size e f) le)
      (λ (ne : place_in_lane k j ≡ place_in_lane k i → ⊥). rw (entry_other w (place_in_lane k i) (omega arith) size e f (place_in_lane k j) (omega arith) ne) (others j hj))
      (eq-or-ne (place_in_lane k j) (place_in_lane k i))

  -- cleared places are
  pub places-cleared : 0 < l.longest.0 → PlacesFit (clear_cells w (lengths_cell + length_words * k) length_words) k l
  unfolding entry_at
  places-cleared some i hi =
      rw (clear-same w (lengths_cell + length_words * k) length_words (length_cell (place_in_lane k i)) (omega arith) (omega arith) (omega arith), digit-none 16 (place_in_lane k i % 4)) some

-- ---- what waits

-- a row with n records, by its kind
module _ (w : List ℕ) (k x h n : ℕ) (l : LaneRow) where
  plain_is : l.shared ≡ false → waiting_of w k (retimed l x h n) ≡ plain (lane_ring w k h n)
  plain_is e = waiting-plain w k (retimed l x h n) e

  shared-is : l.shared ≡ true → 0 < n → waiting_of w k (retimed l x h n) ≡ shared (shared_at w k)
  shared-is e some = waiting-shared w k (retimed l x h n) e some

by_kind {ℓ} : {P : Type ℓ} (b : Bool) → (b ≡ true → P) → (b ≡ false → P) → P
by_kind true f g = f refl
by_kind false f g = g refl

-- one record more; a shared lane's words, before it, tell of the records that its row counts
module _ (t t₁ : List ℕ) (k : ℕ) (l : LaneRow) (e : Item) (en : Entered t t₁ k l e)
    (is : l.shared ≡ true → waiting_of (cells t) k l ≡ shared (shared_at (cells t) k))
    (counted : l.shared ≡ true → round.shared_held (shared_at (cells t) k) ≡ l.count) where
  pub entered-waits : (x : ℕ) → waiting_of (cells t₁) k (retimed l x l.head (l.count + 1)) ≡ enter l.longest.0 (waiting_of (cells t) k l) (waiting e)
  unfolding enter
  entered-waits x =
      by_kind l.shared
      (λ q. shared-is (cells t₁) k x l.head (l.count + 1) l q (omega arith) ∙ ap shared (en.shared q) ∙ ap (λ (y : Waiting). enter l.longest.0 y (waiting e)) (sym (is q)))
      (λ q. plain_is (cells t₁) k x l.head (l.count + 1) l q ∙ ap plain (en.plain q) ∙ ap (λ (y : Waiting). enter l.longest.0 y (waiting e)) (sym (waiting-plain (cells t) k l q)))

  pub entered-housed : (x : ℕ) → RowPaced l → (l.shared ≡ true → e.train < 8) → PlacesFit (cells t) k l → Housed (cells t₁) k (retimed l x l.head (l.count + 1))
  unfolding shared_at shared_of
  entered-housed x paced small f =
      record {
        paced = paced-retimed l x l.head (l.count + 1) paced;
        places = en.fits f;
        trains = λ q. record {
          counted = ap round.shared_held (en.shared q) ∙ put-held l.longest.0 (shared_at (cells t) k) e.train (bare_item e) (omega (arith, small q, length-trains (train_number (cells t) k) (rec_at (cells t) k))) ∙ omega (arith, counted q);
          ordered = en.ordered q;
        };
      }

-- one record less
module _ (t t₁ : List ℕ) (k h : ℕ) (l : LaneRow) (some : 0 < l.count)
    (plain-ring : l.shared ≡ false → lane_ring (cells t₁) k h (l.count - 1) ≡ tail (lane_ring (cells t) k l.head l.count))
    (shared-hand : l.shared ≡ true → shared_at (cells t₁) k ≡ round.shared_hand_out l.longest.0 (shared_at (cells t) k))
    (good : l.shared ≡ true → GoodShared l.longest.0 (shared_at (cells t₁) k))
    (counted : l.shared ≡ true → round.shared_held (shared_at (cells t₁) k) ≡ l.count - 1) where
  shared-left : l.shared ≡ true → (x n : ℕ) → l.count - 1 ≡ n → waiting_of (cells t₁) k (retimed l x h n) ≡ shared (shared_at (cells t₁) k)
  shared-left q x zero e = waiting_none (cells t₁) k (retimed l x h 0) refl ∙ rw q (ap shared (sym (none-empty l.longest.0 (shared_at (cells t₁) k) (good q) (counted q ∙ e))))
  shared-left q x (suc n) e = shared-is (cells t₁) k x h (suc n) l q (omega arith)

  pub left-waits : (x : ℕ) → waiting_of (cells t₁) k (retimed l x h (l.count - 1)) ≡ hand_out l.longest.0 (waiting_of (cells t) k l)
  unfolding hand_out
  left-waits x =
      by_kind l.shared
      (λ q. shared-left q x (l.count - 1) refl ∙ ap shared (shared-hand q) ∙ ap (hand_out l.longest.0) (sym (waiting-shared (cells t) k l q some)))
      (λ q. plain_is (cells t₁) k x h (l.count - 1) l q ∙ ap plain (plain-ring q) ∙ ap (hand_out l.longest.0) (sym (waiting-plain (cells t) k l q)))

  pub left-housed : (x : ℕ) → RowPaced l → PlacesFit (cells t₁) k l → (l.shared ≡ true → Ordered (round_at (cells t₁) k)) → Housed (cells t₁) k (retimed l x h (l.count - 1))
  left-housed x paced f o = record { paced = paced-retimed l x h (l.count - 1) paced; places = f; trains = λ q. record { counted = counted q; ordered = o q } }
