-- The lengths of a lane's records, one by one. Assumes nothing.
use mathlib.Core.Path.{◌≡◌, sym, ap, subst}
use Prim.Native.Nat.{ℕ, zero, suc, ◌+◌, ◌≤◌, ◌<◌}
use mathlib.Core.List.{List, [], ◌∷◌}
use native.Mathlib.Omega.{arith}
use lib.ListN.{length, get_or}
use Rattle.words.proofs.Runs.{get_d-tab}
use Rattle.rounds.specs.Good.{Lengths}
use Rattle.rounds.specs.Round.{BareRec, no_rec}
use Rattle.table.specs.Means.{rec_of}
use Rattle.lane_test.proofs.Lane.{lengths-all}
use Rattle.old_table.specs.Old.{old_entry_at, old_ring}
use Rattle.old_table.proofs.Reading.{length-queue}

-- a length of 1 to m
abbrev pub InLength : ℕ → ℕ → Type 0
InLength m n = (1 ≤ n) × (n ≤ m)

lengths-at : (m : ℕ) (q : List BareRec) (i : ℕ) → i < length q → Lengths m q → InLength m (get_or q i no_rec).len
lengths-at m [] i h l = absurd (omega arith)
lengths-at m (r ∷ rs) zero h l = (l.0, l.1)
lengths-at m (r ∷ rs) (suc i) h l = lengths-at m rs i (omega arith) l.2

module _ (m : ℕ) (w : List ℕ) (k h n : ℕ) where
  length-of : (i : ℕ) → i < n → (get_or (old_ring w k h n) i no_rec).len ≡ (old_entry_at w k (h + i)).length.0
  unfolding old_ring
  length-of i p = ap (λ (r : BareRec). r.len) (get_d-tab n i (λ j. rec_of (old_entry_at w k (h + j))) no_rec p)

  pub ring-length : (i : ℕ) → i < n → Lengths m (old_ring w k h n) → InLength m (old_entry_at w k (h + i)).length.0
  ring-length i p l = subst (InLength m) (length-of i p) (lengths-at m (old_ring w k h n) i (omega (arith, length-queue w k h n)) l)

  pub ring-lengths : ((i : ℕ) → i < n → InLength m (old_entry_at w k (h + i)).length.0) → Lengths m (old_ring w k h n)
  ring-lengths f =
      lengths-all m (old_ring w k h n) (λ i p. let q : i < n = omega (arith, length-queue w k h n) in subst (InLength m) (sym (length-of i q)) (f i q))
