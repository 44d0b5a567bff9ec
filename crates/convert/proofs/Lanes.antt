-- The lanes taken over one after another. Assumes nothing.
use mathlib.Core.Path.{◌≡◌, sym, subst, ◌∙◌}
use mathlib.Core.Logic.{⊎_elim}
use mathlib.Core.Bool.{false, false≢true}
use Prim.Native.Nat.{ℕ, ◌+◌, ◌≤◌, ◌<◌}
use mathlib.Core.List.{List}
use native.Mathlib.Omega.{arith}
use lib.ListN.{get_or}
use Rattle.words.specs.Bits.{bit}
use Rattle.words.proofs.Runs.{eq-or-ne, le-or-lt}
use Rattle.table.specs.Layout.{cells, present_word, depth_word, lane_word, round_word, row_at}
use Rattle.table.specs.Means.{present_at, Next}
use Rattle.table.proofs.Next.{bit-absent}
use Rattle.table.proofs.Footprint.{Outside, others-kept, present-kept, row_kept, lane-kept, housed-kept}
use Rattle.table.proofs.Rows.{lane-absent}
use Rattle.old_table.specs.Kept.{old-absent}
use Rattle.convert.specs.Over.{Carried, LaneOver, LaneMoved, Over}

-- a lane that is not in the setup is nothing in either
absent-over : (old t : List ℕ) (k : ℕ) → Carried old t → bit k (get_or (cells old) present_word 0) ≡ 0 → LaneOver old t k
absent-over old t k c none =
    let a : present_at (cells old) k ≡ false = bit-absent (cells old) k none in
    let b : present_at (cells t) k ≡ false = present-kept (cells old) (cells t) k (c.single present_word (omega arith) (omega arith)) ∙ a in
    record {
      lane = lane-absent (cells t) k b ∙ sym (old-absent (cells old) k a);
      housed = λ p some. absurd (false≢true (sym b ∙ p));
    }

pub over_none : (old t : List ℕ) → Carried old t → Over old t 0
over_none old t c = record { carried = c; lanes = λ j h. absurd (omega arith) }

-- no lane of the setup is between
pub over_skip : (old t : List ℕ) (n k : ℕ) → Next (get_or (cells old) present_word 0) n k → Over old t n → Over old t k
over_skip old t n k x o = record { carried = o.carried; lanes = λ j h. ⊎_elim (λ (q : n ≤ j). absent-over old t j o.carried (x.absent j q h)) (λ (q : j < n). o.lanes j q) (le-or-lt n j) }

module _ (old t u : List ℕ) (k : ℕ) (hk : k < 64) (m : LaneMoved old t u k) where
  outside : Outside (cells t) (cells u) k
  outside = record { kept = λ i a b c d. m.kept i (λ p q. a p (omega arith)) b c }

  carried_on : Carried old t → Carried old u
  carried_on c =
      record {
        single = λ i h ne. m.kept i (λ a b. omega arith) (λ a b. omega arith) (λ a b. omega arith) ∙ c.single i h ne;
        settings = λ j h. m.kept (lane_word j) (λ a b. omega arith) (λ a b. omega arith) (λ a b. omega arith) ∙ c.settings j h;
        depth = m.kept depth_word (λ a b. omega arith) (λ a b. omega arith) (λ a b. omega arith) ∙ c.depth;
        lists = λ a p q. m.rest.lists a p q ∙ c.lists a p q;
      }

  -- another lane that was taken over before
  other-over : (j : ℕ) → j < 64 → (j ≡ k → ⊥) → LaneOver old t j → LaneOver old u j
  other-over j h ne o =
      let s = others-kept (cells t) (cells u) k hk outside j h ne in
      let row : row_at (cells u) j ≡ row_at (cells t) j = row_kept (cells t) (cells u) j s.framing (λ i p q. s.row i p (omega arith)) in
      record {
        lane = lane-kept (cells t) (cells u) j s ∙ o.lane;
        housed = rw row (λ p some. housed-kept (cells t) (cells u) j s.lengths s.marks s.trains (s.row (round_word j) (omega arith) (omega arith)) (row_at (cells t) j) (o.housed (sym s.present ∙ p) some));
      }

  pub over-more : Over old t k → Over old u (k + 1)
  over-more o = record { carried = carried_on o.carried; lanes = each }
    where
      each : (j : ℕ) → j < k + 1 → LaneOver old u j
      each j h =
          ⊎_elim
          (λ (q : j ≡ k). subst (LaneOver old u) (sym q) m.over)
          (λ (ne : j ≡ k → ⊥). other-over j (omega arith) ne (o.lanes j (omega (arith, ne))))
          (eq-or-ne j k)
