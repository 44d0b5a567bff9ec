-- A lane taken over: its row and its records give the lane that it was. Assumes nothing.
use mathlib.Core.Path.{◌≡◌, refl, sym, ap, subst, ◌∙◌}
use mathlib.Core.Bool.{true, false, false≢true}
use Prim.Native.Nat.{ℕ, ◌+◌, ◌*◌, ◌/◌, ◌%◌, ◌^◌, ◌≤◌, ◌<◌}
use mathlib.Core.List.{List}
use native.Mathlib.Omega.{arith}
use lib.Dec.{eqb}
use lib.ListN.{get_or, set}
use lib.Seq.{get_or-set_other}
use Rattle.words.specs.Runs.{tab, tab_from}
use Rattle.units.proofs.PerByte.{rate-le}
use Rattle.rounds.specs.Good.{Lengths}
use Rattle.waiting.specs.Waiting.{plain}
use Rattle.rules.specs.State.{Setting, lane_depth}
use Rattle.rules.specs.Older.{old_depth}
use Rattle.parts.specs.Parts.{rows_from}
use Rattle.table.specs.Layout.{Behind, Now, cells, present_word, framing_word, lane_word, row_at, put_row}
use Rattle.table.specs.Means.{present_at, lane_ring, given_of, waiting_of, timed_by_word, RowAgrees, RowPaced, PlacesFit}
use Rattle.table.specs.declared.LaneRow.{LaneRow}
use Rattle.table.proofs.Stores.{length-cells, behind-then}
use Rattle.table.proofs.Footprint.{present-kept}
use Rattle.table.proofs.Agrees.{paced-retimed}
use Rattle.table.proofs.Rows.{retimed, row_put, lane-put, entry-put, waiting-plain}
use Rattle.old_table.specs.Old.{old_row_at, old_ring, old_queue, OldTable}
use Rattle.old_table.specs.Kept.{old-present}
use Rattle.old_table.proofs.Whole.{old-lanes, lane-lengths}
use Rattle.convert.specs.Over.{Carried, NoPlace, LaneMoved, unrolled}

-- ---- what a good old table says of a lane's row

pub record Sized (old : List ℕ) (k : ℕ) (l : LaneRow) : Type 0 where
  pub count : l.count ≤ old_depth
  pub low : 0 < l.longest.0
  pub high : l.longest.0 ≤ 1500
  pub lengths : Lengths l.longest.0 (old_ring (cells old) k l.head l.count)

pub row_sized : (old : List ℕ) (k : ℕ) (l : LaneRow) → l ≡ old_row_at (cells old) k → OldTable old → k < 64 → present_at (cells old) k ≡ true → Sized old k l
row_sized old k l e g hk p =
    let lane = old-lanes old _ refl g k hk p in
    let a = g.agrees.rows k hk p in
    subst (Sized old k) (sym e)
    (record {
      count = lane.room;
      low = omega (arith, a.numbers.longest_low);
      high = a.numbers.longest_high;
      lengths = lane-lengths _ (cells old) k p lane;
    })

-- Settings that agree, by the two words that they are read from: c is far below 2^23, so the word's top bit, which says today that trains share the lane, is 0.
module _ (w u : List ℕ) (k : ℕ) (framing : get_or u framing_word 0 ≡ get_or w framing_word 0) (setting : get_or u (lane_word k) 0 ≡ get_or w (lane_word k) 0) (a : RowAgrees (old_row_at w k)) (c : RowPaced (old_row_at w k)) where
  abbrev word : ℕ
  word = get_or w (lane_word k) 0

  rate-small : word / 2 ^ 40 ≤ 2 ^ 20
  unfolding old_row_at
  rate-small = omega (arith, c.rated, rate-le (old_row_at w k).weight)

  rate-is : word / 2 ^ 40 % 2 ^ 23 ≡ word / 2 ^ 40
  rate-is = omega (arith, rate-small)

  top-is : eqb (word / 2 ^ 63) 1 ≡ false
  top-is = let none : word / 2 ^ 63 ≡ 0 = omega (arith, rate-small) in rw none

  pub given-over : given_of (row_at u k) ≡ given_of (old_row_at w k)
  unfolding row_at old_row_at
  given-over = rw (framing, setting, top-is)

  pub agrees-over : RowAgrees (row_at u k)
  unfolding row_at old_row_at
  agrees-over = rw (framing, setting, top-is) (record { numbers = a.numbers; framing = a.framing })

  pub paced-over : RowPaced (row_at u k)
  unfolding row_at old_row_at
  paced-over = rw (framing, setting, rate-is, top-is) (record { rated = c.rated; grouped = c.grouped })

-- an idle lane has no record in either ring
pub none_over : (w u : List ℕ) (k h n : ℕ) → n ≡ 0 → lane_ring u k 0 n ≡ old_ring w k h n
unfolding lane_ring old_ring tab tab_from
none_over w u k h n e = subst (λ (n : ℕ). lane_ring u k 0 n ≡ old_ring w k h n) (sym e) refl

-- ---- the row is stored, its records being in place

module _ (old : List ℕ) (k : ℕ) (hk : k < 64) (p : present_at (cells old) k ≡ true) (a : RowAgrees (old_row_at (cells old) k)) (paced : RowPaced (old_row_at (cells old) k)) (t u v : List ℕ) (c : Carried old t)
    (kept : (i : ℕ) → NoPlace k i → get_or (cells u) i 0 ≡ get_or (cells t) i 0) (rest : Behind t u) where
  abbrev r : LaneRow
  r = old_row_at (cells old) k

  abbrev x : ℕ
  x = r.time.0

  abbrev w : List ℕ
  w = cells u

  single : (i : ℕ) → i < rows_from → (i ≡ 3 → ⊥) → get_or w i 0 ≡ get_or (cells old) i 0
  single i h ne = kept i (λ a b. omega arith, λ a b. omega arith) ∙ c.single i h ne

  setting : get_or w (lane_word k) 0 ≡ get_or (cells old) (lane_word k) 0
  setting = kept (lane_word k) (λ a b. omega arith, λ a b. omega arith) ∙ c.settings k hk

  given : given_of (row_at w k) ≡ given_of r
  given = given-over (cells old) w k (single framing_word (omega arith) (omega arith)) setting a paced

  here : present_at w k ≡ true
  here = present-kept (cells old) w k (single present_word (omega arith) (omega arith)) ∙ p

  abbrev row : LaneRow
  row = retimed (row_at w k) x 0 r.count

  same_store : put_row w k (unrolled r x) ≡ put_row w k row
  unfolding put_row
  same_store = refl

  row_apart : (i : ℕ) → ((lane_word k + 1 ≤ i) → (i < lane_word k + 3) → ⊥) → get_or (put_row w k row) i 0 ≡ get_or w i 0
  unfolding put_row
  row_apart i b =
      get_or-set_other (set w (lane_word k + 1) x) (lane_word k + 2) i (0 + lane_depth * r.count) 0 (λ e. b (omega arith) (omega arith)) ∙ get_or-set_other w (lane_word k + 1) i x 0 (λ e. b (omega arith) (omega arith))

  plain_row : (row_at w k).shared ≡ false
  unfolding old_row_at
  plain_row = ap (λ (g : Setting). g.shared) given

  waiting-over : lane_ring w k 0 r.count ≡ old_ring (cells old) k r.head r.count → waiting_of w k row ≡ plain (old_queue (cells old) k)
  waiting-over ring = waiting-plain w k row plain_row ∙ ap plain ring

  moved_row : lane_ring w k 0 r.count ≡ old_ring (cells old) k r.head r.count → (0 < r.count → PlacesFit w k r) → Now u v (put_row w k (unrolled r x)) → LaneMoved old t v k
  moved_row ring fit n =
      let words : cells v ≡ put_row w k row = n.words ∙ same_store in
      let stored : row_at (put_row w k row) k ≡ row = row_put w k x 0 r.count (length-cells u) hk (omega arith) in
      record {
        kept = λ i b d e. rw words (row_apart i b ∙ kept i (d, e));
        over = record {
          lane = rw words
              (lane-put w k x 0 r.count (length-cells u) hk (omega arith) here ∙ ap (λ (g : Setting). timed_by_word g x (waiting_of w k row)) given ∙ ap (timed_by_word (given_of r) x) (waiting-over ring) ∙ sym (old-present (cells old) k p));
          housed = rw words
              (rw stored
              (λ q some.
              record {
                paced = paced-retimed (row_at w k) x 0 r.count (paced-over (cells old) w k (single framing_word (omega arith) (omega arith)) setting a paced);
                places = λ i hi. rw (entry-put w k i row hk) (omega (arith, fit some i hi, ap (λ (g : Setting). g.longest) given));
                trains = λ e. absurd (false≢true (sym plain_row ∙ e));
              }));
        };
        rest = behind-then rest n.rest;
      }

  pub moved : (l : LaneRow) → l ≡ r → lane_ring w k 0 l.count ≡ old_ring (cells old) k l.head l.count → (0 < l.count → PlacesFit w k l) → Now u v (put_row w k (unrolled l l.time.0)) → LaneMoved old t v k
  moved l e =
      subst (λ (l : LaneRow). lane_ring w k 0 l.count ≡ old_ring (cells old) k l.head l.count → (0 < l.count → PlacesFit w k l) → Now u v (put_row w k (unrolled l l.time.0)) → LaneMoved old t v k) (sym e) moved_row
