-- A lane by its row: what a store to the row does to the lane, which lanes are in the setup, and what a row says of its lane. Assumes nothing.
use mathlib.Core.Path.{◌≡◌, refl, sym, ap, ◌∙◌}
use mathlib.Core.Bool.{Bool, true, false}
use Prim.Native.Nat.{ℕ, zero, suc, ◌+◌, ◌*◌, ◌/◌, ◌%◌, ◌≤◌, ◌<◌}
use mathlib.Core.List.{List, []}
use native.Mathlib.Omega.{arith}
use lib.ListN.{length, get_or, set, length-set}
use lib.Seq.{get_or-set_same, get_or-set_other}
use Rattle.std.specs.Prelude.{if◌then◌else◌}
use Rattle.words.specs.Runs.{tab, tab_from}
use Rattle.table.specs.Layout.{CELLS, present_word, framing_word, lane_word, round_word, round_at, place_in_lane, lengths_cell, row_at, put_row, entry_at}
use Rattle.table.specs.Means.{present_at, lane_ring, given_of, shared_at, shared_if, waiting_of, timed_by_word, row_lane, lane_of, state_of, Housed}
use Rattle.table.specs.declared.LaneRow.{LaneRow}
use Rattle.words.proofs.Runs.{length-tab}
use Rattle.rounds.specs.Round.{empty_shared}
use Rattle.waiting.specs.Waiting.{plain, shared, none_waiting, is_shared, held}
use Rattle.waiting.proofs.Laws.{held-nothing}
use Rattle.rules.specs.State.{Lane, lane_at, holds, no_lane, lane_depth}
use Rattle.table.proofs.Timed.{timed-given, timed-waiting}
use Rattle.table.proofs.Footprint.{present-kept, place_kept, waiting_kept, housed-kept, lane-is}
use Rattle.table.proofs.Untouched.{outside-row}

-- ---- a row stored and read again

-- a row with its clock and its ring changed
abbrev pub retimed : LaneRow → ℕ → ℕ → ℕ → LaneRow
retimed l x h n = record { longest = l.longest; framing = l.framing; weight = l.weight; group = l.group; rate = l.rate; shared = l.shared; time = record { 0 = x }; head = h; count = n }

pub row_put : (w : List ℕ) (k x h n : ℕ) → length w ≡ CELLS → k < 64 → h < lane_depth → row_at (put_row w k (retimed (row_at w k) x h n)) k ≡ retimed (row_at w k) x h n
unfolding row_at put_row
row_put w k x h n len hk small =
    let u = set w (lane_word k + 1) x in
    let zeroth : get_or (set u (lane_word k + 2) (h + lane_depth * n)) framing_word 0 ≡ get_or w framing_word 0 = get_or-set_other u (lane_word k + 2) framing_word (h + lane_depth * n) 0 (omega arith) ∙ get_or-set_other w (lane_word k + 1) framing_word x 0 (omega arith) in
    let first : get_or (set u (lane_word k + 2) (h + lane_depth * n)) (lane_word k) 0 ≡ get_or w (lane_word k) 0 = get_or-set_other u (lane_word k + 2) (lane_word k) (h + lane_depth * n) 0 (omega arith) ∙ get_or-set_other w (lane_word k + 1) (lane_word k) x 0 (omega arith) in
    let second : get_or (set u (lane_word k + 2) (h + lane_depth * n)) (lane_word k + 1) 0 ≡ x = get_or-set_other u (lane_word k + 2) (lane_word k + 1) (h + lane_depth * n) 0 (omega arith) ∙ get_or-set_same w (lane_word k + 1) x 0 (omega arith) in
    let third : get_or (set u (lane_word k + 2) (h + lane_depth * n)) (lane_word k + 2) 0 ≡ h + lane_depth * n = get_or-set_same u (lane_word k + 2) (h + lane_depth * n) 0 (rw length-set (omega arith)) in
    let low : (h + lane_depth * n) % lane_depth ≡ h = omega arith in
    let high : (h + lane_depth * n) / lane_depth ≡ n = omega arith in
    rw (zeroth, first, second, third, low, high)

pub present-put : (w : List ℕ) (k : ℕ) (l : LaneRow) → present_at (put_row w k l) k ≡ present_at w k
present-put w k l =
    present-kept w (put_row w k l) k ((outside-row w k l).kept present_word (λ p q. omega arith) (λ p q. omega arith) (λ p q. omega arith) (λ p q. omega arith))

-- a row's store leaves every place
pub places-put : (w : List ℕ) (k i : ℕ) (l : LaneRow) → k < 64 → lengths_cell ≤ i → get_or (put_row w k l) i 0 ≡ get_or w i 0
unfolding put_row
places-put w k i l hk h = get_or-set_other (set w (lane_word k + 1) l.time.0) (lane_word k + 2) i (l.head + lane_depth * l.count) 0 (omega arith) ∙ get_or-set_other w (lane_word k + 1) i l.time.0 0 (omega arith)

pub entry-put : (w : List ℕ) (k i : ℕ) (l : LaneRow) → k < 64 → entry_at (put_row w k l) (place_in_lane k i) ≡ entry_at w (place_in_lane k i)
entry-put w k i l hk = place_kept w (put_row w k l) k (λ j p q. places-put w k j l hk (omega arith)) (λ j p q. places-put w k j l hk (omega arith)) i

-- and its round
pub round-put : (w : List ℕ) (k : ℕ) (l : LaneRow) → round_at (put_row w k l) k ≡ round_at w k
unfolding put_row
round-put w k l = get_or-set_other (set w (lane_word k + 1) l.time.0) (lane_word k + 2) (round_word k) (l.head + lane_depth * l.count) 0 (omega arith) ∙ get_or-set_other w (lane_word k + 1) (round_word k) l.time.0 0 (omega arith)

module _ (w : List ℕ) (k : ℕ) (l : LaneRow) (hk : k < 64) where
  pub waiting-put : (m : LaneRow) → waiting_of (put_row w k l) k m ≡ waiting_of w k m
  waiting-put = waiting_kept w (put_row w k l) k (λ j p q. places-put w k j l hk (omega arith)) (λ j p q. places-put w k j l hk (omega arith)) (λ j p q. places-put w k j l hk (omega arith)) (round-put w k l)

  pub housed-put : (m : LaneRow) → Housed w k m → Housed (put_row w k l) k m
  housed-put = housed-kept w (put_row w k l) k (λ j p q. places-put w k j l hk (omega arith)) (λ j p q. places-put w k j l hk (omega arith)) (λ j p q. places-put w k j l hk (omega arith)) (round-put w k l)

-- the lane, once its row is stored
pub lane-put : (w : List ℕ) (k x h n : ℕ) → length w ≡ CELLS → k < 64 → h < lane_depth → present_at w k ≡ true → lane_of (put_row w k (retimed (row_at w k) x h n)) k ≡ timed_by_word (given_of (row_at w k)) x (waiting_of w k (retimed (row_at w k) x h n))
unfolding lane_of row_lane
lane-put w k x h n len hk small p =
    rw (present-put w k (retimed (row_at w k) x h n), p, row_put w k x h n len hk small, waiting-put w k (retimed (row_at w k) x h n) hk (retimed (row_at w k) x h n))

pub row-framing : (w : List ℕ) (k : ℕ) → (row_at w k).framing.0 ≡ get_or w framing_word 0
unfolding row_at
row-framing w k = refl

-- ---- which lanes are in the setup, and what their rows say of them

pub lane-present : (w : List ℕ) (k : ℕ) → present_at w k ≡ true → lane_of w k ≡ timed_by_word (given_of (row_at w k)) (row_at w k).time.0 (waiting_of w k (row_at w k))
unfolding lane_of row_lane
lane-present w k p = rw p

pub lane-absent : (w : List ℕ) (k : ℕ) → present_at w k ≡ false → lane_of w k ≡ no_lane
unfolding lane_of
lane-absent w k p = rw p

by-present : (w : List ℕ) (k : ℕ) (b : Bool) → present_at w k ≡ b → 0 < (lane_of w k).given.weight → b ≡ true
by-present w k true e h = refl
by-present w k false e h = absurd (omega (arith, ap (λ (l : Lane). l.given.weight) (lane-absent w k e)))

-- a lane with a weight is in the setup
pub weight-present : (w o : List ℕ) (k : ℕ) → k < 64 → 0 < (lane_at (state_of w o) k).given.weight → present_at w k ≡ true
weight-present w o k hk h = by-present w k (present_at w k) refl (rw (lane-is w o k hk) at h)

by-holds : (w : List ℕ) (k : ℕ) (b : Bool) → present_at w k ≡ b → holds (lane_of w k) ≡ true → b ≡ true
by-holds w k true e h = refl
by-holds w k false e h = sym (ap holds (lane-absent w k e)) ∙ h

-- and so is one that holds records
pub holds-present : (w o : List ℕ) (k : ℕ) → k < 64 → holds (lane_at (state_of w o) k) ≡ true → present_at w k ≡ true
holds-present w o k hk h = by-holds w k (present_at w k) refl (rw (lane-is w o k hk) at h)

-- ---- what its row says of a lane in the setup

pub length-ring : (w : List ℕ) (k h n : ℕ) → length (lane_ring w k h n) ≡ n
unfolding lane_ring
length-ring w k h n = length-tab n _

-- what waits in a lane, by its row
module _ (w : List ℕ) (k : ℕ) (l : LaneRow) where
  pub waiting-plain : l.shared ≡ false → waiting_of w k l ≡ plain (lane_ring w k l.head l.count)
  unfolding waiting_of
  waiting-plain e = rw e

  pub waiting_none : l.count ≡ 0 → waiting_of w k l ≡ none_waiting l.shared
  unfolding waiting_of shared_if lane_ring tab tab_from
  waiting_none e = rw e (go l.shared)
    where
      go : (b : Bool) → (if b then shared empty_shared else plain []) ≡ none_waiting b
      go true = refl
      go false = refl

  pub waiting-shared : l.shared ≡ true → 0 < l.count → waiting_of w k l ≡ shared (shared_at w k)
  unfolding waiting_of shared_if
  waiting-shared e h = rw e (go l.count h)
    where
      go : (n : ℕ) → 0 < n → shared_if n (shared_at w k) ≡ shared (shared_at w k)
      go zero h = absurd (omega arith)
      go (suc n) h = refl

  -- its kind is the setting's
  pub waiting-kind : is_shared (waiting_of w k l) ≡ l.shared
  unfolding waiting_of is_shared shared_if
  waiting-kind = go l.shared l.count
    where
      go : (b : Bool) (n : ℕ) → is_shared (if b then shared_if n (shared_at w k) else plain (lane_ring w k l.head l.count)) ≡ b
      go false n = refl
      go true zero = refl
      go true (suc n) = refl

  -- the row counts it
  pub waiting-held : (0 < l.count → Housed w k l) → held (waiting_of w k l) ≡ l.count
  unfolding waiting_of held shared_if
  waiting-held h = go l.shared l.count refl refl
    where
      go : (b : Bool) (n : ℕ) → l.shared ≡ b → l.count ≡ n → held (if b then shared_if n (shared_at w k) else plain (lane_ring w k l.head l.count)) ≡ l.count
      go false n e q = length-ring w k _ _
      go true zero e q = held-nothing true ∙ sym q
      go true (suc n) e q = ((h (omega arith)).trains e).counted

module _ (w : List ℕ) (k : ℕ) (p : present_at w k ≡ true) where
  pub given-row : (lane_of w k).given ≡ given_of (row_at w k)
  given-row = ap (λ (l : Lane). l.given) (lane-present w k p) ∙ timed-given _ _ _

  pub waiting-row : (lane_of w k).waiting ≡ waiting_of w k (row_at w k)
  waiting-row = ap (λ (l : Lane). l.waiting) (lane-present w k p) ∙ timed-waiting _ _ _

  pub count-row : (0 < (row_at w k).count → Housed w k (row_at w k)) → held (lane_of w k).waiting ≡ (row_at w k).count
  count-row h = ap held waiting-row ∙ waiting-held w k (row_at w k) h
