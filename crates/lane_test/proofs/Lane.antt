-- Laws behind the test of a lane: lengths record by record, times by the row's one clock word. Assumes nothing.
use Rattle.std.proofs.Common.{◌≡◌, ℕ, zero, suc, ◌+◌, ◌*◌, ◌/◌, ◌%◌, ◌<◌, ◌≤◌, Bool, true, false, eqb, List, [], ◌∷◌, length, get_or, sym, refl, ap, ◌∙◌, subst, arith, eqb-true}
use mathlib.Core.Option.{Option, none, some}
use borrow.Author.Tests.{eqb-false}
use lib.Bits.{bit_and}
use Rattle.words.specs.Words.{word_at}
use Rattle.words.specs.Runs.{tab, tab_from}
use Rattle.words.proofs.Runs.{get_d-tab}
use Rattle.rounds.specs.Round as round
use Rattle.rounds.specs.Good.{Lengths}
use Rattle.waiting.specs.Waiting.{Waiting, first, held, GoodWaiting}
use Rattle.waiting.proofs.Laws.{held-hand, held_none, held-most, good-nothing}
use Rattle.rules.specs.State.{Rec, Lane, first_of, slot, group, lane_depth}
use Rattle.rules.specs.Calls as rules
use Rattle.rules.specs.Good.{Times}
use Rattle.digits.specs.Digits.{digit}
use Rattle.digits.specs.Under.{AllUnder, Clear, Gathered}
use Rattle.digits.proofs.Under.{tops-clear, clear-tops}
use Rattle.table.specs.Layout.{cells, lengths_cell, length_words, length_cell, place_in_lane, row_at, entry_at}
use Rattle.table.specs.Means.{present_at, rec_of, lane_ring, given_of, waiting_of, timed_by_word, RowAgrees, RowPaced, PlacesFit, Housed}
use Rattle.table.specs.declared.LaneRow.{LaneRow}
use Rattle.table.proofs.Stores.{cell-is, word-before}
use Rattle.table.proofs.Rows.{lane-present, length-ring, waiting-plain, waiting_none, waiting-shared, waiting-held}
use Rattle.table.proofs.Timed.{timed-given, timed-waiting}
use Rattle.lane_test.specs.Says.{Says, TimeGood, TrainsGood, LaneFine, LaneGood}

-- ---- lengths

-- the places, four to a word
module _ (t : List ℕ) (k : ℕ) (l : LaneRow) (hk : k < 64) where
  place-word : (i : ℕ) → i < length_words → get_or (cells t) (lengths_cell + (length_words * k + i)) 0 ≡ word_at t (lengths_cell + length_words * k + i)
  place-word i h =
      let at : lengths_cell + (length_words * k + i) ≡ lengths_cell + length_words * k + i = omega arith in
      cell-is t (lengths_cell + (length_words * k + i)) (omega arith) ∙ ap (word_at t) (word-before (lengths_cell + (length_words * k + i)) (omega arith) ∙ at)

  -- place i is quarter i % 4 of word i / 4
  pub place-length : (i : ℕ) → i < lane_depth → (entry_at (cells t) (place_in_lane k i)).length.0 ≡ digit 16 (i % 4) (word_at t (lengths_cell + length_words * k + i / 4)) + 1
  unfolding entry_at
  place-length i h =
      let which : place_in_lane k i % 4 ≡ i % 4 = omega arith in
      let cell : length_cell (place_in_lane k i) ≡ lengths_cell + (length_words * k + i / 4) = omega arith in
      rw (which, cell, place-word (i / 4) (omega arith))

  pub places-under : PlacesFit (cells t) k l → AllUnder t (lengths_cell + length_words * k) length_words l.longest.0
  places-under f i h d hd =
      let whole : (4 * i + d) / 4 ≡ i = omega arith in
      let part : (4 * i + d) % 4 ≡ d = omega arith in
      let at : digit 16 ((4 * i + d) % 4) (word_at t (lengths_cell + length_words * k + (4 * i + d) / 4)) < l.longest.0 = omega (arith, f (4 * i + d) (omega arith), place-length (4 * i + d) (omega arith)) in
      rw (whole, part) at at

  pub under-places : AllUnder t (lengths_cell + length_words * k) length_words l.longest.0 → PlacesFit (cells t) k l
  under-places f i h = omega (arith, place-length i h, f (i / 4) (omega arith) (i % 4) (omega arith))

-- then each record's length is within
pub lengths-all : (m : ℕ) (q : List round.BareRec) → ((i : ℕ) → i < length q → (1 ≤ (get_or q i round.no_rec).len) × ((get_or q i round.no_rec).len ≤ m)) → Lengths m q
lengths-all m [] f = tt
lengths-all m (r ∷ rs) f = ((f 0 (omega arith)).0, (f 0 (omega arith)).1, lengths-all m rs (λ i h. f (suc i) (omega arith)))

ring-lengths : (w : List ℕ) (k h n : ℕ) (l : LaneRow) → PlacesFit w k l → Lengths l.longest.0 (lane_ring w k h n)
unfolding lane_ring entry_at
ring-lengths w k h n l f =
    lengths-all l.longest.0 (lane_ring w k h n) (λ i p. let q : i < n = omega (arith, length-ring w k h n) in rw (get_d-tab n i (λ j. rec_of (entry_at w (place_in_lane k (h + j)))) round.no_rec q) (omega arith, at (h + i)))
  where
    at : (j : ℕ) → (entry_at w (place_in_lane k j)).length.0 ≤ l.longest.0
    at j = let same : place_in_lane k (j % lane_depth) ≡ place_in_lane k j = omega arith in rw same at (f (j % lane_depth) (omega arith))

-- ---- times

-- the row's clock word is that of the lane, whether it holds records or not
module _ (v : ℕ) (l : LaneRow) (w : Waiting) where
  times-of : (o : Option Rec) → ((r : Rec) → o ≡ some r → 0 < l.count) → TimeGood v l (group (given_of l)) → Times v (rules.timed (given_of l) l.time.0 w o) o
  unfolding rules.timed slot
  times-of none holds t = t.below
  times-of (some r) holds t = (refl, t.below, t.above (holds r refl))

  time-of : (o : Option Rec) → (o ≡ none → l.count ≡ 0) → Times v (rules.timed (given_of l) l.time.0 w o) o → TimeGood v l (group (given_of l))
  unfolding rules.timed slot
  time-of none idle t = record { below = t; above = λ h. absurd (omega (arith, idle refl)) }
  time-of (some r) idle t = record { below = t.1; above = λ h. t.2 }

-- ---- a lane in the setup, by its row and what waits in it, however a table keeps them

module _ (v : ℕ) (row : LaneRow) (w : Waiting) (l : Lane) (is : l ≡ timed_by_word (given_of row) row.time.0 w) (size : held w ≡ row.count) where
  given_is : l.given ≡ given_of row
  given_is = ap (λ (l : Lane). l.given) is ∙ timed-given _ _ _

  waiting-is : l.waiting ≡ w
  waiting-is = ap (λ (l : Lane). l.waiting) is ∙ timed-waiting _ _ _

  pub fine-made : RowAgrees row → (0 < row.count → RowPaced row) → GoodWaiting row.longest.0 w → TimeGood v row (group (given_of row)) → LaneFine v row l
  unfolding timed_by_word
  fine-made a c g t =
      record {
        agrees = a;
        paced = c;
        waiting = rw (given_is, waiting-is) g;
        counted = ap held waiting-is ∙ size;
        numbers = subst (λ (l : Lane). Times v l (first_of l)) (sym is)
            (subst (Times v (timed_by_word (given_of row) row.time.0 w)) (sym (ap first (timed-waiting _ _ _))) (times-of v row w (first w) (λ r e. omega (arith, held-hand row.longest.0 w r g e, size)) t));
      }

  module _ (g : LaneFine v row l) where
    pub fine-waiting : GoodWaiting row.longest.0 w
    fine-waiting = rw (given_is, waiting-is) at g.waiting

    pub fine-room : row.count ≤ lane_depth
    fine-room = omega (arith, held-most row.longest.0 w fine-waiting, size)

    pub fine-time : TimeGood v row (group (given_of row))
    unfolding timed_by_word
    fine-time =
        time-of v row w (first w) (λ e. sym size ∙ held_none row.longest.0 w fine-waiting e)
        (subst (Times v (timed_by_word (given_of row) row.time.0 w)) (ap first (timed-waiting _ _ _)) (subst (λ (l : Lane). Times v l (first_of l)) is g.numbers))

-- ---- in this layout

module _ (w : List ℕ) (k : ℕ) (l : LaneRow) where
  within : (n : ℕ) → (0 < n → PlacesFit w k l) → Lengths l.longest.0 (lane_ring w k l.head n)
  unfolding lane_ring tab tab_from
  within zero f = tt
  within (suc n) f = ring-lengths w k l.head (suc n) l (f (omega arith))

  housed-made : RowPaced l → PlacesFit w k l → (l.shared ≡ true → TrainsGood w k l) → Housed w k l
  housed-made c f s = record { paced = c; places = f; trains = λ e. (s e).fit }

  waiting-good : l.count ≤ lane_depth → (0 < l.count → PlacesFit w k l) → (0 < l.count → l.shared ≡ true → TrainsGood w k l) → GoodWaiting l.longest.0 (waiting_of w k l)
  unfolding GoodWaiting
  waiting-good r f s = go l.shared l.count refl refl
    where
      go : (b : Bool) (n : ℕ) → l.shared ≡ b → l.count ≡ n → GoodWaiting l.longest.0 (waiting_of w k l)
      go false n e q = rw (waiting-plain w k l e) (omega (arith, length-ring w k l.head l.count), within l.count f)
      go true zero e q = rw (waiting_none w k l q) (good-nothing l.longest.0 l.shared)
      go true (suc n) e q = rw (waiting-shared w k l e (omega arith)) (s (omega arith) e).lane

module _ (v : ℕ) (w : List ℕ) (k : ℕ) (p : present_at w k ≡ true) where
  abbrev row : LaneRow
  row = row_at w k

  pub lane_made : RowAgrees row → (0 < row.count → RowPaced row) → row.count ≤ lane_depth → TimeGood v row (group (given_of row)) → (0 < row.count → PlacesFit w k row) → (0 < row.count → row.shared ≡ true → TrainsGood w k row) → LaneGood v w k
  lane_made a c r t f s =
      let housed : 0 < row.count → Housed w k row = λ h. housed-made w k row (c h) (f h) (s h) in
      record { fine = fine-made v row (waiting_of w k row) _ (lane-present w k p) (waiting-held w k row housed) a c (waiting-good w k row r f s) t; housed = housed }

  module _ (g : LaneGood v w k) where
    pub lane_room : row.count ≤ lane_depth
    lane_room = fine-room v row (waiting_of w k row) _ (lane-present w k p) (waiting-held w k row g.housed) g.fine

    pub lane-time : TimeGood v row (group (given_of row))
    lane-time = fine-time v row (waiting_of w k row) _ (lane-present w k p) (waiting-held w k row g.housed) g.fine

    pub lane-trains : 0 < row.count → row.shared ≡ true → TrainsGood w k row
    unfolding GoodWaiting
    lane-trains h e =
        record {
          lane = subst (GoodWaiting row.longest.0) (waiting-shared w k row e h) (fine-waiting v row (waiting_of w k row) _ (lane-present w k p) (waiting-held w k row g.housed) g.fine);
          fit = (g.housed h).trains e;
        }

-- ---- the test's own answers

pub says_same : (b : Bool) (P Q : Type 0) → (P → Q) → (Q → P) → Says b P → Says b Q
says_same true P Q to from s = to s
says_same false P Q to from s = λ q. s (from q)

clear-says : (x : ℕ) (b : Bool) → eqb (bit_and x 9223512776490647552) 0 ≡ b → Says b (Clear 4 x)
clear-says x true e = tops-clear x (eqb-true (bit_and x 9223512776490647552) 0 e)
clear-says x false e = λ c. eqb-false (bit_and x 9223512776490647552) 0 e (clear-tops x c)

pub tops-say : (x : ℕ) → Says (eqb (bit_and x 9223512776490647552) 0) (Clear 4 x)
tops-say x = clear-says x _ refl

pub places-say : (t : List ℕ) (k r : ℕ) (l : LaneRow) (b : Bool) → k < 64 → Gathered t (lengths_cell + length_words * k) length_words l.longest.0 r → Says b (Clear 4 r) → Says b (PlacesFit (cells t) k l)
places-say t k r l b hk g s = says_same b _ _ (λ c. under-places t k l hk (g.shows c)) (λ f. g.clear (places-under t k l hk f)) s

-- an idle lane: its numbers, and then its clock word tells
pub lane-idle : (v : ℕ) (w : List ℕ) (k : ℕ) (p : present_at w k ≡ true) (l : LaneRow) (b : Bool) → l ≡ row_at w k → RowAgrees l → l.count ≡ 0 → Says b (TimeGood v l (group (given_of l))) → Says b (LaneGood v w k)
lane-idle v w k p l b e =
    subst (λ (l : LaneRow). RowAgrees l → l.count ≡ 0 → Says b (TimeGood v l (group (given_of l))) → Says b (LaneGood v w k)) (sym e)
    (λ a none s. says_same b _ _ (λ t. lane_made v w k p a (λ h. absurd (omega (arith, none))) (omega (arith, none)) t (λ h. absurd (omega (arith, none))) (λ h. absurd (omega (arith, none)))) (lane-time v w k p) s)
