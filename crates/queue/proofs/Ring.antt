-- Laws of a ring: one record more at its end, one less at its front. Assumes nothing.
use mathlib.Core.Path.{◌≡◌, sym, ap, ◌∙◌}
use Prim.Native.Nat.{ℕ, suc, ◌+◌, ◌-◌, ◌%◌, ◌<◌}
use mathlib.Core.List.{List, [], ◌∷◌, ◌++◌}
use mathlib.Core.Option.{some}
use native.Mathlib.Nat.{add-zero}
use native.Mathlib.Omega.{arith}
use lib.ListN.{length}
use Rattle.words.specs.Runs.{tab}
use Rattle.words.proofs.Runs.{tab-ext, tab-snoc, tab-cons}
use Rattle.waiting.specs.Waiting.{with_train, head, tail}
use Rattle.rules.specs.State.{lane_depth}
use Rattle.table.specs.Layout.{CELLS, place_in_lane, entry_at, put_entry}
use Rattle.table.specs.Means.{rec_of, rec_at, lane_ring}
use Rattle.table.specs.declared.Entry.{Entry}
use Rattle.table.proofs.Entries.{Fits, entry-same, entry_other}

-- one more at the end
pub ring-snoc : (w : List ℕ) (k h n : ℕ) (e : Entry) → length w ≡ CELLS → k < 64 → n < lane_depth → Fits e → lane_ring (put_entry w (place_in_lane k (h + n)) e) k h (n + 1) ≡ lane_ring w k h n ++ rec_of e ∷ []
unfolding lane_ring
ring-snoc w k h n e len hk small f =
    let u = put_entry w (place_in_lane k (h + n)) e in
    let same : tab n (λ i. rec_of (entry_at u (place_in_lane k (h + i)))) ≡ tab n (λ i. rec_of (entry_at w (place_in_lane k (h + i)))) = tab-ext n _ _ (λ i p. ap rec_of (entry_other w (place_in_lane k (h + n)) (omega arith) len e f (place_in_lane k (h + i)) (omega arith) (omega arith))) in
    tab-snoc n (λ i. rec_of (entry_at u (place_in_lane k (h + i)))) ∙ rw (same, entry-same w (place_in_lane k (h + n)) (omega arith) len e f)

-- the first, and those behind it
ring-cons : (w : List ℕ) (k h n : ℕ) → lane_ring w k h (suc n) ≡ rec_of (entry_at w (place_in_lane k h)) ∷ lane_ring w k ((h + 1) % lane_depth) n
unfolding lane_ring
ring-cons w k h n =
    let next : (i : ℕ) → place_in_lane k (h + suc i) ≡ place_in_lane k ((h + 1) % lane_depth + i) = λ i. omega arith in
    tab-cons n (λ i. rec_of (entry_at w (place_in_lane k (h + i)))) (λ i. rec_of (entry_at w (place_in_lane k ((h + 1) % lane_depth + i)))) (λ i. ap (λ (p : ℕ). rec_of (entry_at w p)) (next i))
    ∙ rw add-zero

module _ (w : List ℕ) (k h n : ℕ) (some-held : 0 < n) where
  whole : lane_ring w k h n ≡ rec_of (entry_at w (place_in_lane k h)) ∷ lane_ring w k ((h + 1) % lane_depth) (n - 1)
  whole = let m : n ≡ suc (n - 1) = omega arith in ap (lane_ring w k h) m ∙ ring-cons w k h (n - 1)

  pub ring-head : head (lane_ring w k h n) ≡ some (with_train 0 (rec_at w k h))
  unfolding rec_at
  ring-head = ap head whole

  pub ring-tail : lane_ring w k ((h + 1) % lane_depth) (n - 1) ≡ tail (lane_ring w k h n)
  unfolding tail
  ring-tail = sym (ap tail whole)
