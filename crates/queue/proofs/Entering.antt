-- The stores of `enter` and `clear`. Assumes nothing.
use mathlib.Core.Path.{◌≡◌, sym, ap, subst, ◌∙◌}
use mathlib.Core.Bool.{true, false, false≢true}
use Prim.Native.Nat.{ℕ, ◌+◌, ◌*◌, ◌≤◌, ◌<◌}
use mathlib.Core.List.{List}
use native.Mathlib.Omega.{arith}
use lib.ListN.{set}
use Rattle.rules.specs.State.{lane_depth}
use Rattle.table.specs.Layout.{Now, cells, lengths_cell, length_words, trains_cell, place_in_lane, round_word, round_at, put_entry, clear_cells, train_number}
use Rattle.table.specs.Means.{shared_at, PlacesFit}
use Rattle.table.specs.declared.Entry.{Entry}
use Rattle.table.specs.declared.LaneRow.{LaneRow}
use Rattle.table.proofs.Stores.{length-cells}
use Rattle.table.proofs.Entries.{Fits}
use Rattle.table.proofs.Untouched.{outside-place, outside-cleared, outside-trains, outside-round, rows-place, rows-cleared, rows-round}
use Rattle.queue.specs.Queue.{Ready, Joins, QueueMoved, Entered, Cleared}
use Rattle.queue.specs.declared.Item.{Item}
use Rattle.queue.proofs.Ring.{ring-snoc}
use Rattle.queue.proofs.Trains.{both, both-size, both-outside, both-rows, both-place, entered-shared, entered-ordered, bare-words, bare-numbers, bare-round, bare-place, bare-shared}
use Rattle.queue.proofs.Moves.{moved-now, moved_then, places-one, places-cleared}

abbrev pub entry_of : Item → Entry
entry_of e = record { mark = e.mark; length = e.length }

-- into the ring
pub entered-plain : (t t₁ : List ℕ) (k : ℕ) (l : LaneRow) (e : Item) → k < 64 → l.count < lane_depth → Fits (entry_of e) → e.length.0 ≤ l.longest.0 → l.shared ≡ false
    → Now t t₁ (put_entry (cells t) (place_in_lane k (l.head + l.count)) (entry_of e)) → Entered t t₁ k l e
entered-plain t t₁ k l e hk room f le kind n =
    record {
      moved = moved-now t t₁ _ k n (outside-place (cells t) k (l.head + l.count) (entry_of e)) (rows-place (cells t) k (place_in_lane k (l.head + l.count)) (entry_of e));
      fits = λ p. rw n.words (places-one (cells t) k l hk (length-cells t) (l.head + l.count) (entry_of e) f le p);
      plain = λ q. rw n.words (ring-snoc (cells t) k l.head l.count (entry_of e) (length-cells t) hk room f);
      shared = λ q. absurd (false≢true (sym kind ∙ q));
      ordered = λ q. absurd (false≢true (sym kind ∙ q));
    }

-- behind the records of its train
pub entered-train : (t t₀ t₁ : List ℕ) (k p : ℕ) (l : LaneRow) (e : Item) → k < 64 → p < 64 → Fits (entry_of e) → e.length.0 ≤ l.longest.0 → l.shared ≡ true → Ready (cells t) k e.train
    → Joins t t₀ k e.train l.longest.0 p → Now t₀ t₁ (put_entry (cells t₀) (place_in_lane k p) (entry_of e)) → Entered t t₁ k l e
entered-train t t₀ t₁ k p l e hk small f le kind y j n =
    let c = j.change in
    let size = length-cells t in
    let v = both (cells t) k e.train c.train c.round hk y.train size j.puts.small in
    let u = put_entry v (place_in_lane k p) (entry_of e) in
    let words : cells t₁ ≡ u = n.words ∙ ap (λ (x : List ℕ). put_entry x (place_in_lane k p) (entry_of e)) j.now.words in
    let first : QueueMoved t t₀ k = moved-now t t₀ v k j.now (both-outside (cells t) k e.train c.train c.round hk y.train size j.puts.small) (both-rows (cells t) k e.train c.train c.round hk y.train size j.puts.small) in
    let second : QueueMoved t₀ t₁ k = moved-now t₀ t₁ _ k n (outside-place (cells t₀) k p (entry_of e)) (rows-place (cells t₀) k (place_in_lane k p) (entry_of e)) in
    record {
      moved = moved_then first second;
      fits = λ h. rw words (places-one v k l hk (both-size (cells t) k e.train c.train c.round hk y.train size j.puts.small) p (entry_of e) f le
          (λ i hi. rw (both-place (cells t) k e.train c.train c.round hk y.train size j.puts.small i) (h i hi)));
      plain = λ q. absurd (false≢true (sym q ∙ kind));
      shared = λ q. ap (λ (x : List ℕ). shared_at x k) words ∙ entered-shared (cells t) k e.train l.longest.0 p c (entry_of e) hk y.train size small f y.room j.place j.puts;
      ordered = λ q. rw words (entered-ordered (cells t) k e.train l.longest.0 p c (entry_of e) hk y.train size small f y.room j.place j.puts);
    }

module _ (t t₀ : List ℕ) (k : ℕ) (l : LaneRow) (hk : k < 64) (some : 0 < l.longest.0) (n : Now t t₀ (clear_cells (cells t) (lengths_cell + length_words * k) length_words)) where
  lengths-moved : QueueMoved t t₀ k
  lengths-moved = moved-now t t₀ _ k n (outside-cleared (cells t) k) (rows-cleared (cells t) k (lengths_cell + length_words * k) length_words (omega arith))

  lengths-fit : PlacesFit (cells t₀) k l
  lengths-fit = rw n.words (places-cleared (cells t) k l hk (length-cells t) some)

  pub cleared-plain : l.shared ≡ false → Cleared t t₀ k l
  cleared-plain kind =
      record { moved = lengths-moved; fits = lengths-fit; shared = λ q. absurd (false≢true (sym kind ∙ q)); ready = λ q. absurd (false≢true (sym kind ∙ q)) }

  pub cleared-trains : (t₁ t₂ : List ℕ) → Now t₀ t₁ (clear_cells (cells t₀) (trains_cell + 4 * k) 4) → Now t₁ t₂ (set (cells t₁) (round_word k) 0) → Cleared t t₂ k l
  cleared-trains t₁ t₂ a b =
      let size = length-cells t₀ in
      let words : cells t₂ ≡ bare-words (cells t₀) k hk size = b.words ∙ ap (λ (x : List ℕ). set x (round_word k) 0) a.words in
      let first : QueueMoved t₀ t₁ k = moved-now t₀ t₁ _ k a (outside-trains (cells t₀) k) (rows-cleared (cells t₀) k (trains_cell + 4 * k) 4 (omega arith)) in
      let second : QueueMoved t₁ t₂ k = moved-now t₁ t₂ _ k b (outside-round (cells t₁) k 0) (rows-round (cells t₁) k 0) in
      record {
        moved = moved_then lengths-moved (moved_then first second);
        fits = λ i hi. rw (words, bare-place (cells t₀) k hk size i) (lengths-fit i hi);
        shared = λ q. ap (λ (x : List ℕ). shared_at x k) words ∙ bare-shared (cells t₀) k hk size;
        ready = λ q j hj. subst (λ (x : List ℕ). Ready x k j) (sym words) (none-ready (bare-words (cells t₀) k hk size) j hj (bare-numbers (cells t₀) k hk size j hj) (bare-round (cells t₀) k hk size));
      }
    where
      none-ready : (x : List ℕ) (j : ℕ) → j < 8 → train_number x k j ≡ 0 → round_at x k ≡ 0 → Ready x k j
      none-ready x j hj e q =
          record {
            train = hj;
            light = rw e (omega arith, omega arith);
            room = rw e (omega arith);
            ordered = rw q (record { few = omega arith; fits = omega arith });
            starts = λ z. rw q (omega arith);
          }
