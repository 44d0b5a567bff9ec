-- A store of c and group: the rest of the row stays, and while the lane is idle the state and what is stored beside it. Assumes nothing.
use mathlib.Core.Path.{◌≡◌, sym, ap, subst, ◌∙◌}
use mathlib.Core.Logic.{⊎_elim}
use mathlib.Core.Bool.{true}
use Prim.Native.Nat.{ℕ, ◌+◌, ◌*◌, ◌/◌, ◌%◌, ◌^◌, ◌<◌}
use mathlib.Core.List.{List}
use native.Mathlib.Omega.{arith}
use lib.ListN.{length, get_or}
use lib.Seq.{get_or-set_same, get_or-set_other}
use Rattle.words.specs.Runs.{tab}
use Rattle.words.proofs.Runs.{eq-or-ne, tab-ext}
use Rattle.slot_lists.specs.Lists.{list_at}
use Rattle.filing.specs.Filing.{in_aRow}
use Rattle.table.specs.Layout.{CELLS, Now, cells, present_word, depth_word, framing_word, lane_word, round_word, paced_word, put_pace, row_at}
use Rattle.table.specs.Means.{present_at, waiting_of, row_lane, lane_of, state_of, meant, RowAgrees, RowsFit, Leaves}
use Rattle.table.specs.declared.LaneRow.{LaneRow}
use Rattle.table.proofs.Stores.{length-cells}
use Rattle.table.proofs.Footprint.{SameLane, present-kept, waiting_kept, lane-kept, agrees-kept, lane-housed}
use Rattle.table.proofs.Leave.{meant-now}

-- a row with another c and group
abbrev pub repaced : LaneRow → ℕ → ℕ → LaneRow
repaced l c i = record { longest = l.longest; framing = l.framing; weight = l.weight; group = i; rate = record { 0 = c }; shared = l.shared; time = l.time; head = l.head; count = l.count }

-- the parts of a setting word with another c and group
module _ (s c i : ℕ) (hc : c < 2 ^ 23) (hi : i < 2 ^ 8) where
  abbrev a : ℕ
  a = s % 2 ^ 16

  abbrev b : ℕ
  b = s / 2 ^ 16 % 2 ^ 16

  abbrev n : ℕ
  n = a + 2 ^ 16 * b + 2 ^ 32 * i + 2 ^ 40 * c + 2 ^ 63 * (s / 2 ^ 63)

  low : s % 2 ^ 32 ≡ a + 2 ^ 16 * b
  low = omega arith

  whole : paced_word s c i ≡ n
  whole = ap (λ (x : ℕ). x + 2 ^ 32 * i + 2 ^ 40 * c + 2 ^ 63 * (s / 2 ^ 63)) low

  longest-part : paced_word s c i % 2 ^ 16 ≡ a
  longest-part = ap (λ (x : ℕ). x % 2 ^ 16) whole ∙ omega arith

  weight-part : paced_word s c i / 2 ^ 16 % 2 ^ 16 ≡ b
  weight-part = ap (λ (x : ℕ). x / 2 ^ 16 % 2 ^ 16) whole ∙ omega arith

  group-part : paced_word s c i / 2 ^ 32 % 2 ^ 8 ≡ i
  group-part = ap (λ (x : ℕ). x / 2 ^ 32 % 2 ^ 8) whole ∙ omega arith

  rate-part : paced_word s c i / 2 ^ 40 % 2 ^ 23 ≡ c
  rate-part = ap (λ (x : ℕ). x / 2 ^ 40 % 2 ^ 23) whole ∙ omega arith

  top_part : paced_word s c i / 2 ^ 63 ≡ s / 2 ^ 63
  top_part = ap (λ (x : ℕ). x / 2 ^ 63) whole ∙ omega arith

module _ (w : List ℕ) (k c i : ℕ) (size : length w ≡ CELLS) (hk : k < 64) (hc : c < 2 ^ 23) (hi : i < 2 ^ 8) where
  abbrev u : List ℕ
  u = put_pace w k c i

  other : (j : ℕ) → (j ≡ lane_word k → ⊥) → get_or u j 0 ≡ get_or w j 0
  other j ne = get_or-set_other w (lane_word k) j (paced_word (get_or w (lane_word k) 0) c i) 0 ne

  pub row-paced : row_at u k ≡ repaced (row_at w k) c i
  unfolding row_at
  row-paced =
      let s = get_or w (lane_word k) 0 in
      let stored : get_or u (lane_word k) 0 ≡ paced_word s c i = get_or-set_same w (lane_word k) (paced_word s c i) 0 (omega arith) in
      rw (other framing_word (omega arith), stored, other (lane_word k + 1) (omega arith), other (lane_word k + 2) (omega arith), longest-part s c i hc hi, weight-part s c i hc hi, group-part s c i hc hi, rate-part s c i hc hi, top_part s c i hc hi)

  same-present : (j : ℕ) → present_at u j ≡ present_at w j
  same-present j = present-kept w u j (other present_word (omega arith))

  others : (j : ℕ) → j < 64 → (j ≡ k → ⊥) → SameLane w u j
  others j h ne =
      record {
        present = same-present j;
        framing = other framing_word (omega arith);
        row = λ x p q. other x (omega arith);
        lengths = λ x p q. other x (omega arith);
        marks = λ x p q. other x (omega arith);
        trains = λ x p q. other x (omega arith);
      }

  waits : (l : LaneRow) → waiting_of u k (repaced l c i) ≡ waiting_of w k l
  unfolding waiting_of
  waits l = waiting_kept w u k (λ x p q. other x (omega arith)) (λ x p q. other x (omega arith)) (λ x p q. other x (omega arith)) (other (round_word k) (omega arith)) (repaced l c i)

  lane-same : lane_of u k ≡ lane_of w k
  unfolding lane_of row_lane
  lane-same = rw (same-present k, row-paced, waits (row_at w k))

  each_lane : (j : ℕ) → j < 64 → lane_of u j ≡ lane_of w j
  each_lane j h = ⊎_elim (λ (e : j ≡ k). subst (λ (x : ℕ). lane_of u x ≡ lane_of w x) (sym e) lane-same) (λ (ne : j ≡ k → ⊥). lane-kept w u j (others j h ne)) (eq-or-ne j k)

  pace-state : (o : List ℕ) → state_of u o ≡ state_of w o
  unfolding state_of
  pace-state o =
      let lanes : tab 64 (lane_of u) ≡ tab 64 (lane_of w) = tab-ext 64 (lane_of u) (lane_of w) each_lane in
      rw (other 0 (omega arith), lanes)

  pace-beside : (row_at w k).count ≡ 0 → RowsFit w → RowsFit u
  pace-beside idle b =
      record {
        depth = other depth_word (omega arith) ∙ b.depth;
        housed = λ j h p n.
            ⊎_elim
            (λ (e : j ≡ k). absurd (omega (arith, idle, ap (λ (l : LaneRow). l.count) row-paced, subst (λ (x : ℕ). 0 < (row_at u x).count) e n)))
            (λ (ne : j ≡ k → ⊥). lane-housed w u j (others j h ne) b h p n)
            (eq-or-ne j k);
        rows = λ j h p.
            ⊎_elim
            (λ (e : j ≡ k). subst (λ (x : ℕ). present_at u x ≡ true → RowAgrees (row_at u x)) (sym e) at-k p)
            (λ (ne : j ≡ k → ⊥). agrees-kept w u j (others j h ne) b h p)
            (eq-or-ne j k);
      }
    where
      at-k : present_at u k ≡ true → RowAgrees (row_at u k)
      at-k p = let a = b.rows k hk (sym (same-present k) ∙ p) in rw row-paced (record { numbers = a.numbers; framing = a.framing })

-- an idle lane's c and group mean nothing
pub pace-leaves : (t t' : List ℕ) (k c i : ℕ) → k < 64 → c < 2 ^ 23 → i < 2 ^ 8 → (row_at (cells t) k).count ≡ 0 → Now t t' (put_pace (cells t) k c i) → Leaves t t' (meant t)
pace-leaves t t' k c i hk hc hi idle n =
    record {
      state = meant-now t t' _ n ∙ pace-state (cells t) k c i (length-cells t) hk hc hi (in_aRow (list_at t));
      beside = λ b. rw n.words (pace-beside (cells t) k c i (length-cells t) hk hc hi idle b);
      rest = n.rest;
    }
