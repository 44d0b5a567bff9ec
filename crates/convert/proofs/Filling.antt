-- A lane's records, written one after another from place 0 on. Assumes nothing.
use mathlib.Core.Path.{◌≡◌, refl, sym, ap, subst, ◌∙◌}
use Prim.Native.Nat.{ℕ, ◌+◌, ◌*◌, ◌≤◌, ◌<◌}
use mathlib.Core.List.{List, [], ◌∷◌, ◌++◌}
use native.Mathlib.Omega.{arith}
use Rattle.words.specs.Runs.{tab, tab_from}
use Rattle.words.proofs.Runs.{tab-snoc}
use Rattle.rounds.specs.Good.{Lengths}
use Rattle.rounds.specs.Round.{BareRec}
use Rattle.rules.specs.State.{lane_depth}
use Rattle.table.specs.Layout.{Now, cells, lengths_cell, length_words, place_in_lane, put_entry, clear_cells}
use Rattle.table.specs.Means.{rec_of, lane_ring}
use Rattle.table.specs.declared.LaneRow.{LaneRow}
use Rattle.table.specs.declared.Entry.{Entry}
use Rattle.table.proofs.Stores.{length-cells, behind-refl, behind-then}
use Rattle.table.proofs.Entries.{Fits, put_other, clear-other}
use Rattle.queue.proofs.Ring.{ring-snoc}
use Rattle.queue.proofs.Moves.{places-one, places-cleared}
use Rattle.old_table.specs.Old.{old_entry_at, old_ring}
use Rattle.old_table.proofs.Lengths.{ring-length}
use Rattle.convert.specs.Over.{Filled}

module _ (old t : List ℕ) (k : ℕ) (hk : k < 64) (l : LaneRow) where
  pub filled_none : (u : List ℕ) → 0 < l.longest.0 → Now t u (clear_cells (cells t) (lengths_cell + length_words * k) length_words) → Filled old t u k l 0
  unfolding lane_ring old_ring tab tab_from
  filled_none u some n =
      record {
        kept = λ i q. rw n.words (clear-other (cells t) (lengths_cell + length_words * k) length_words i q.0);
        ring = refl;
        places = rw n.words (places-cleared (cells t) k l hk (length-cells t) some);
        rest = n.rest;
      }

  -- what was done before the records, and the records
  pub filled-start : (u : List ℕ) → Filled old t u k l 0 → Filled old u u k l 0
  filled-start u f = record { kept = λ i q. refl; ring = f.ring; places = f.places; rest = behind-refl }

  pub filled-then : (u v : List ℕ) (n : ℕ) → Filled old t u k l 0 → Filled old u v k l n → Filled old t v k l n
  filled-then u v n a b = record { kept = λ i q. b.kept i q ∙ a.kept i q; ring = b.ring; places = b.places; rest = behind-then a.rest b.rest }

  old-snoc : (n : ℕ) → old_ring (cells old) k l.head (n + 1) ≡ old_ring (cells old) k l.head n ++ rec_of (old_entry_at (cells old) k (l.head + n)) ∷ []
  unfolding old_ring
  old-snoc n = tab-snoc n (λ i. rec_of (old_entry_at (cells old) k (l.head + i)))

  pub filled_more : (u v : List ℕ) (i : ℕ) (e : Entry) → i < lane_depth → e ≡ old_entry_at (cells old) k (l.head + i) → Fits e → e.length.0 ≤ l.longest.0
      → Filled old t u k l i → Now u v (put_entry (cells u) (place_in_lane k i) e) → Filled old t v k l (i + 1)
  filled_more u v i e small is fits le f n =
      let ring : lane_ring (put_entry (cells u) (place_in_lane k i) e) k 0 (i + 1) ≡ lane_ring (cells u) k 0 i ++ rec_of e ∷ [] =
      subst (λ (j : ℕ). lane_ring (put_entry (cells u) (place_in_lane k j) e) k 0 (i + 1) ≡ lane_ring (cells u) k 0 i ++ rec_of e ∷ []) (omega arith) (ring-snoc (cells u) k 0 i e (length-cells u) hk small fits) in
      record {
        kept = λ j q. rw n.words (put_other (cells u) (place_in_lane k i) e j (λ x. q.0 (omega arith) (omega arith)) (λ x. q.1 (omega arith) (omega arith)) ∙ f.kept j q);
        ring = rw n.words (ring ∙ ap (λ (x : List BareRec). x ++ rec_of e ∷ []) f.ring ∙ ap (λ (e : Entry). old_ring (cells old) k l.head i ++ rec_of e ∷ []) is ∙ sym (old-snoc i));
        places = rw n.words (places-one (cells u) k l hk (length-cells u) i e fits le f.places);
        rest = behind-then f.rest n.rest;
      }

  -- a record of the queue has a place
  pub record-fits : (i : ℕ) (e : Entry) → l.longest.0 ≤ 1500 → i < l.count → Lengths l.longest.0 (old_ring (cells old) k l.head l.count) → e ≡ old_entry_at (cells old) k (l.head + i) → Fits e × (e.length.0 ≤ l.longest.0)
  unfolding old_entry_at
  record-fits i e most lt all is =
      let q = ring-length l.longest.0 (cells old) k l.head l.count i lt all in
      let m = ap (λ (e : Entry). e.mark) is in
      let n = ap (λ (e : Entry). e.length.0) is in
      (record { mark = omega (arith, m); some = omega (arith, n, q.0); length = omega (arith, n, q.1) }, omega (arith, n, q.1))
