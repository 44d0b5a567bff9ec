-- From the stores of `begin` and `add_lane` to the table that they leave. Assumes nothing.
use mathlib.Core.Path.{◌≡◌, refl, sym, ap, subst, ◌∙◌}
use mathlib.Core.Logic.{⊎_elim}
use mathlib.Core.Bool.{Bool, true, false, false≢true}
use Prim.Native.Nat.{ℕ, zero, suc, ◌+◌, ◌^◌, ◌≤◌, ◌<◌}
use mathlib.Core.List.{List, [], map}
use native.Mathlib.Omega.{arith}
use borrow.Author.Tests.{eqb-false}
use lib.Pow.{pow_pos}
use lib.ListN.{length, get_or, set, length-set}
use lib.Seq.{get_or-set_same, get_or-set_other}
use Rattle.words.specs.Bits.{bit}
use Rattle.words.specs.Runs.{tab}
use Rattle.words.proofs.Bits.{bit-above, bit-add-same, bit-add-other}
use Rattle.words.proofs.Runs.{tab-ext, tab-set, eq-or-ne}
use Rattle.waiting.specs.Waiting.{none_waiting}
use Rattle.rules.specs.State.{Setting, Lane, lane_at, lane_depth, no_setting}
use Rattle.rules.specs.Calls.{idle, fresh}
use Rattle.slot_lists.specs.Lists.{list_at}
use Rattle.filing.specs.Filing.{in_aRow}
use Rattle.table.specs.Layout.{CELLS, present_word, depth_word, framing_word, lane_word, row_at, row_of, cells}
use Rattle.table.specs.Means.{present_at, given_of, waiting_of, RowAgrees, lane_of, state_of, meant, RowsFit, Sound, with_lane}
use Rattle.table.specs.declared.LaneRow.{LaneRow}
use Rattle.table.proofs.Footprint.{SameLane, lane-kept, lane-is, agrees-kept, lane-housed}
use Rattle.table.proofs.Next.{bit-present, bit-absent}
use Rattle.table.proofs.Rows.{lane-present, lane-absent, given-row, waiting_none}
use Rattle.table.proofs.Timed.{timed-idle}
use Rattle.fresh.specs.Makes.{SettingWord, up_to}
use Rattle.fresh.proofs.Mixed.{mixed-none, map-tab}

-- ---- begin

module _ (w : List ℕ) (h : ℕ) (len : length w ≡ CELLS) where
  abbrev cleared : List ℕ
  cleared = set (set w 0 0) 1 0

  abbrev numbered : List ℕ
  numbered = set cleared depth_word lane_depth

  abbrev pub begun : List ℕ
  begun = set numbered framing_word h

  clear-word : (i : ℕ) → i < 2 → get_or cleared i 0 ≡ 0
  clear-word zero b = get_or-set_other (set w 0 0) 1 0 0 0 (omega arith) ∙ get_or-set_same w 0 0 0 (omega arith)
  clear-word (suc i) b =
      let e : i ≡ 0 = omega arith in
      rw e (get_or-set_same (set w 0 0) 1 0 0 (rw length-set (omega arith)))

  zero_word : (i : ℕ) → i < 2 → get_or begun i 0 ≡ 0
  zero_word i b = get_or-set_other numbered framing_word i h 0 (omega arith) ∙ get_or-set_other cleared depth_word i lane_depth 0 (omega arith) ∙ clear-word i b

  begun-depth : get_or begun depth_word 0 ≡ lane_depth
  begun-depth = get_or-set_other numbered framing_word depth_word h 0 (omega arith) ∙ get_or-set_same cleared depth_word lane_depth 0 (rw (length-set, length-set) (omega arith))

  pub begun-framing : get_or begun framing_word 0 ≡ h
  begun-framing = get_or-set_same numbered framing_word h 0 (rw (length-set, length-set, length-set) (omega arith))

  none-present : (k : ℕ) → present_at begun k ≡ false
  none-present k = bit-absent begun k (rw (zero_word 1 (omega arith)) (bit-above k 0 (pow_pos k)))

  pub begun-state : state_of begun [] ≡ fresh (up_to 0 [])
  unfolding state_of fresh idle
  begun-state =
      let lanes : tab 64 (lane_of begun) ≡ map idle (up_to 0 []) = tab-ext 64 (lane_of begun) (λ i. idle no_setting) (λ i b. lane-absent begun i (none-present i)) ∙ sym (map-tab idle 64 (λ i. no_setting)) ∙ ap (map idle) (sym (mixed-none _ (λ i. no_setting))) in
      rw (zero_word 0 (omega arith), lanes)

  pub begun-beside : RowsFit begun
  begun-beside = record { depth = begun-depth; housed = λ k b p n. absurd (false≢true (sym (none-present k) ∙ p)); rows = λ k b p. absurd (false≢true (sym (none-present k) ∙ p)) }

-- ---- add_lane

by-weight : (t : List ℕ) (k : ℕ) (b : Bool) → present_at (cells t) k ≡ b → Sound t → k < 64 → (lane_at (meant t) k).given.weight ≡ 0 → b ≡ false
by-weight t k false p s h e = refl
by-weight t k true p s h e =
    absurd (omega (arith, (s.beside.rows k h p).numbers.weight_low, ap (λ (g : Setting). g.weight) (given-row (cells t) k p), ap (λ (l : Lane). l.given.weight) (lane-is (cells t) (in_aRow (list_at t)) k h)))

-- a lane of weight 0 is not in the setup
pub weightless : (t : List ℕ) (k : ℕ) → Sound t → k < 64 → (lane_at (meant t) k).given.weight ≡ 0 → bit k (get_or (cells t) present_word 0) ≡ 0
unfolding present_at
weightless t k s h e =
    let no = eqb-false (bit k (get_or (cells t) present_word 0)) 1 (by-weight t k (present_at (cells t) k) refl s h e) in
    omega (arith, no)

module _ (w : List ℕ) (k word : ℕ) (g : Setting) (len : length w ≡ CELLS) (hk : k < 64) (off : bit k (get_or w present_word 0) ≡ 0) (a : SettingWord g word) (f : get_or w framing_word 0 ≡ g.framing) where
  abbrev pub stored : List ℕ
  stored = set (set (set w (lane_word k) word) (lane_word k + 1) 0) (lane_word k + 2) 0

  abbrev pub added : List ℕ
  added = set stored present_word (2 ^ k + get_or w present_word 0)

  long : length stored ≡ CELLS
  long = length-set (set (set w (lane_word k) word) (lane_word k + 1) 0) (lane_word k + 2) 0 ∙ length-set (set w (lane_word k) word) (lane_word k + 1) 0 ∙ length-set w (lane_word k) word ∙ len

  pub stored_other : (i : ℕ) → ((lane_word k ≤ i) → (i < lane_word k + 3) → ⊥) → get_or stored i 0 ≡ get_or w i 0
  stored_other i p =
      get_or-set_other (set (set w (lane_word k) word) (lane_word k + 1) 0) (lane_word k + 2) i 0 0 (λ e. p (omega arith) (omega arith))
      ∙ get_or-set_other (set w (lane_word k) word) (lane_word k + 1) i 0 0 (λ e. p (omega arith) (omega arith))
      ∙ get_or-set_other w (lane_word k) i word 0 (λ e. p (omega arith) (omega arith))

  other : (i : ℕ) → (i ≡ present_word → ⊥) → ((lane_word k ≤ i) → (i < lane_word k + 3) → ⊥) → get_or added i 0 ≡ get_or w i 0
  other i q p = get_or-set_other stored present_word i (2 ^ k + get_or w present_word 0) 0 q ∙ stored_other i p

  present-word : get_or added present_word 0 ≡ 2 ^ k + get_or w present_word 0
  present-word = get_or-set_same stored present_word (2 ^ k + get_or w present_word 0) 0 (omega (arith, long))

  here : present_at added k ≡ true
  here = bit-present added k (rw present-word (bit-add-same k (get_or w present_word 0) off))

  elsewhere : (j : ℕ) → (j ≡ k → ⊥) → present_at added j ≡ present_at w j
  unfolding present_at
  elsewhere j ne = rw (present-word, bit-add-other k j (get_or w present_word 0) (λ e. ne (sym e)) off)

  row_here : row_at added k ≡ row_of g.framing word 0 0
  unfolding row_at
  row_here =
      let in_lane : (i : ℕ) → lane_word k ≤ i → get_or added i 0 ≡ get_or stored i 0 = λ i h. get_or-set_other stored present_word i (2 ^ k + get_or w present_word 0) 0 (omega arith) in
      let first : get_or added (lane_word k) 0 ≡ word = in_lane (lane_word k) (omega arith) ∙ get_or-set_other (set (set w (lane_word k) word) (lane_word k + 1) 0) (lane_word k + 2) (lane_word k) 0 0 (omega arith) ∙ get_or-set_other (set w (lane_word k) word) (lane_word k + 1) (lane_word k) 0 0 (omega arith) ∙ get_or-set_same w (lane_word k) word 0 (omega arith) in
      let second : get_or added (lane_word k + 1) 0 ≡ 0 = in_lane (lane_word k + 1) (omega arith) ∙ get_or-set_other (set (set w (lane_word k) word) (lane_word k + 1) 0) (lane_word k + 2) (lane_word k + 1) 0 0 (omega arith) ∙ get_or-set_same (set w (lane_word k) word) (lane_word k + 1) 0 0 (rw length-set (omega arith)) in
      let third : get_or added (lane_word k + 2) 0 ≡ 0 = in_lane (lane_word k + 2) (omega arith) ∙ get_or-set_same (set (set w (lane_word k) word) (lane_word k + 1) 0) (lane_word k + 2) 0 0 (rw (length-set, length-set) (omega arith)) in
      let framing : get_or added framing_word 0 ≡ g.framing = other framing_word (omega arith) (λ p q. omega arith) ∙ f in
      rw (framing, first, second, third)

  idle-here : (row_at added k).count ≡ 0
  idle-here = ap (λ (l : LaneRow). l.count) row_here

  given-here : given_of (row_at added k) ≡ g
  given-here = ap given_of row_here ∙ a.given 0 0

  lane_here : lane_of added k ≡ idle g
  lane_here =
      let none : waiting_of added k (row_at added k) ≡ none_waiting g.shared = waiting_none added k (row_at added k) idle-here ∙ ap none_waiting (ap (λ (x : Setting). x.shared) given-here) in
      let time : (row_at added k).time.0 ≡ 0 = ap (λ (l : LaneRow). l.time.0) row_here in
      lane-present added k here ∙ rw (none, time, given-here) (sym (timed-idle g))

  lane-other : (j : ℕ) → j < 64 → (j ≡ k → ⊥) → SameLane w added j
  lane-other j h ne =
      record {
        present = elsewhere j ne;
        framing = other framing_word (omega arith) (λ x y. omega arith);
        row = λ i p q. other i (omega arith) (λ x y. omega arith);
        lengths = λ i p q. other i (omega arith) (λ x y. omega arith);
        marks = λ i p q. other i (omega arith) (λ x y. omega arith);
        trains = λ i p q. other i (omega arith) (λ x y. omega arith);
      }

  pub added-state : (o : List ℕ) → state_of added o ≡ with_lane (state_of w o) k (idle g)
  unfolding state_of
  added-state o =
      let clock : get_or added 0 0 ≡ get_or w 0 0 = other 0 (omega arith) (λ p q. omega arith) in
      let lanes : tab 64 (lane_of added) ≡ set (tab 64 (lane_of w)) k (lane_of added k) = tab-set 64 k (lane_of w) (lane_of added) hk (λ j h ne. lane-kept w added j (lane-other j h ne)) in
      rw (clock, lanes, lane_here)

  pub added-beside : RowsFit w → RowsFit added
  added-beside b =
      record {
        depth = other depth_word (omega arith) (λ x y. omega arith) ∙ b.depth;
        housed = λ j h p n.
            ⊎_elim
            (λ (e : j ≡ k). absurd (omega (arith, idle-here, subst (λ (i : ℕ). 0 < (row_at added i).count) e n)))
            (λ (ne : j ≡ k → ⊥). lane-housed w added j (lane-other j h ne) b h p n)
            (eq-or-ne j k);
        rows = λ j h p.
            ⊎_elim
            (λ (e : j ≡ k). subst (λ (i : ℕ). RowAgrees (row_at added i)) (sym e) (subst RowAgrees (sym row_here) (a.agrees 0 0)))
            (λ (ne : j ≡ k → ⊥). agrees-kept w added j (lane-other j h ne) b h p)
            (eq-or-ne j k);
      }
