-- The test of a shared lane's trains, in this layout. Assumes nothing.
use Rattle.std.proofs.Common.{◌≡◌, ℕ, ◌+◌, ◌*◌, ◌/◌, ◌%◌, ◌<◌, ◌≤◌, Bool, true, false, not, List, sym, refl, ap, ◌∙◌, subst, arith}
use mathlib.Core.Bool.{false≢true}
use borrow.Author.Tests.{not-false}
use Rattle.words.specs.Words.{word_at}
use Rattle.digits.specs.Digits.{digit}
use Rattle.rounds.specs.Round.{shared_held}
use Rattle.rounds.specs.Good.{GoodShared}
use Rattle.turns.specs.Turns.{shared_of}
use Rattle.turns.proofs.Train.{shared_same}
use Rattle.round_test.specs.Shared.{numbers_at, lengths_at, LengthsFit, SharedGood}
use Rattle.round_test.proofs.Made.{shared-made}
use Rattle.rules.specs.State.{group, lane_depth}
use Rattle.parts.specs.Parts.{marks_end}
use Rattle.table.specs.Layout.{cells, lengths_cell, length_words, entry_at, place_in_lane, row_at, round_at, train_number}
use Rattle.table.specs.Means.{present_at, rec_at, shared_at, given_of, RowAgrees, RowPaced, PlacesFit}
use Rattle.table.specs.declared.LaneRow.{LaneRow}
use Rattle.table.proofs.Places.{train-read}
use Rattle.lane_test.specs.Says.{Says, TimeGood, TrainsGood, LaneGood}
use Rattle.lane_test.proofs.Lane.{place-length, lane_made, lane-trains}

-- a is the first of the lane's trains among all halves of the bytes, b the first of its lengths among all quarters
module _ (t : List ℕ) (k : ℕ) (l : LaneRow) (hk : k < 64) (a b : ℕ) (trains-at : a ≡ 2 * (marks_end / 8 + 4 * k)) (lengths-at : b ≡ 4 * (lengths_cell + length_words * k)) where
  abbrev w : List ℕ
  w = cells t

  number_is : (j : ℕ) → j < 8 → numbers_at t a j ≡ train_number w k j
  number_is j h = train-read k j hk h t (numbers_at t a j) (a + j) refl (omega arith)

  length-is : (p : ℕ) → p < 64 → (entry_at w (place_in_lane k p)).length.0 ≡ lengths_at t b p
  length-is p h =
      let which : p % 4 ≡ (b + p) % 4 = omega arith in
      let where-at : lengths_cell + length_words * k + p / 4 ≡ (b + p) / 4 = omega arith in
      place-length t k l hk p h ∙ ap (λ (x : ℕ). digit 16 x (word_at t (lengths_cell + length_words * k + p / 4)) + 1) which ∙ ap (λ (x : ℕ). digit 16 ((b + p) % 4) (word_at t x) + 1) where-at

  record_is_lem : (p : ℕ) → p < 64 → (rec_at w k p).len ≡ lengths_at t b p
  unfolding rec_at
  record_is_lem p h = length-is p h

  shared-is : shared_of (rec_at w k) (numbers_at t a) (round_at w k) ≡ shared_at w k
  unfolding shared_at
  shared-is = shared_same (rec_at w k) (rec_at w k) (numbers_at t a) (train_number w k) (round_at w k) (λ p h. refl) number_is

  pub fit_is : PlacesFit w k l → LengthsFit l.longest.0 (lengths_at t b)
  fit_is f p h = omega (arith, f p h, length-is p h)

  module _ (f : PlacesFit w k l) where
    abbrev Tested : Type 0
    Tested = SharedGood l.longest.0 (numbers_at t a) (lengths_at t b) (round_at w k) l.count

    tested-good : Tested → TrainsGood w k l
    tested-good g =
        record {
          lane = subst (GoodShared l.longest.0) shared-is (g.lane (rec_at w k) record_is_lem);
          fit = record { counted = sym (ap shared_held shared-is) ∙ g.held (rec_at w k); ordered = g.ordered };
        }

    good-tested : TrainsGood w k l → Tested
    good-tested g =
        shared-made l.longest.0 (round_at w k) l.count (numbers_at t a) (lengths_at t b) (rec_at w k) record_is_lem (λ p. omega arith) (fit_is f) g.fit.ordered
        (subst (GoodShared l.longest.0) (sym shared-is) g.lane) (ap shared_held shared-is ∙ g.fit.counted)

    pub trains-say : (r : ℕ) (x : Bool) → r ≡ round_at w k → Says x (SharedGood l.longest.0 (numbers_at t a) (lengths_at t b) r l.count) → Says x (TrainsGood w k l)
    trains-say r x e s = go x (subst (λ (r : ℕ). Says x (SharedGood l.longest.0 (numbers_at t a) (lengths_at t b) r l.count)) e s)
      where
        go : (x : Bool) → Says x Tested → Says x (TrainsGood w k l)
        go true s = tested-good s
        go false s = λ g. s (good-tested g)

-- ---- the lane, by the last of its tests

module _ (v : ℕ) (w : List ℕ) (k : ℕ) (p : present_at w k ≡ true) where
  abbrev row : LaneRow
  row = row_at w k

  -- a lane that holds records is tested by the group that stands in its row
  time-paced : RowPaced row → TimeGood v row row.group → TimeGood v row (group (given_of row))
  time-paced c t = subst (TimeGood v row) c.grouped t

  pub lane_plain : RowAgrees row → RowPaced row → row.count ≤ lane_depth → TimeGood v row row.group → PlacesFit w k row → not row.shared ≡ true → LaneGood v w k
  lane_plain a c r t f u = lane_made v w k p a (λ h. c) r (time-paced c t) (λ h. f) (λ h e. absurd (false≢true (ap not (sym e) ∙ u)))

  pub lane-shared : RowAgrees row → RowPaced row → row.count ≤ lane_depth → TimeGood v row row.group → PlacesFit w k row → 0 < row.count → not row.shared ≡ false → (b : Bool) → Says b (TrainsGood w k row) → Says b (LaneGood v w k)
  lane-shared a c r t f h u true s = lane_made v w k p a (λ h. c) r (time-paced c t) (λ h. f) (λ h e. s)
  lane-shared a c r t f h u false s = λ g. s (lane-trains v w k p g h (not-false row.shared u))
