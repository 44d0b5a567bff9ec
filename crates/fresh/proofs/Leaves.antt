-- From the stores of `add_lane` and `rest_lane`, and the loops over them, to the state that they leave. Assumes nothing.
use mathlib.Core.Path.{◌≡◌, refl, sym, ap, subst, ◌∙◌}
use Prim.Native.Nat.{ℕ, ◌+◌, ◌*◌, ◌%◌, ◌^◌, ◌<◌}
use mathlib.Core.List.{List}
use native.Mathlib.Omega.{arith}
use lib.ListN.{get_or, set}
use lib.Seq.{get_or-set_other}
use Rattle.words.specs.Bits.{bit}
use Rattle.words.proofs.Bits.{shift_one}
use Rattle.rules.specs.State.{Setting, Lane, State, lane_at, no_lane}
use Rattle.rules.specs.Calls.{idle}
use Rattle.slot_lists.specs.Lists.{list_at}
use Rattle.filing.specs.Filing.{in_aRow}
use Rattle.table.specs.Layout.{Now, cells, present_word, framing_word, lane_word, row_at, put_row}
use Rattle.table.specs.Means.{Next, given_of, timed_by_word, meant, Sound, Leaves, with_lane}
use Rattle.table.specs.declared.LaneRow.{LaneRow}
use Rattle.table.proofs.Stores.{length-cells, now-then, behind-refl}
use Rattle.table.proofs.Footprint.{lane-is, lanes-many}
use Rattle.table.proofs.Leave.{meant-now, leave-lane, leaves-then}
use Rattle.table.proofs.Next.{bit-present, bit-absent}
use Rattle.table.proofs.Untouched.{outside-row}
use Rattle.table.proofs.Rows.{retimed, row_put, lane-put, given-row, lane-absent, weight-present, waiting_none}
use Rattle.table.proofs.Timed.{timed-idle}
use Rattle.fresh.specs.Makes.{SettingWord, rested_to}
use Rattle.fresh.proofs.States.{rested-none, rested-at, rested-more, rested-next}
use Rattle.fresh.proofs.Added.{weightless, stored_other, added-state, added-beside}

-- ---- add_lane

module _ (t t₁ t₂ t₃ : List ℕ) (k word : ℕ) (g : Setting) (s : Sound t) (hk : k < 64) (none : (lane_at (meant t) k).given.weight ≡ 0) (a : SettingWord g word) (f : get_or (cells t) framing_word 0 ≡ g.framing)
    (one : Now t t₁ (set (cells t) (lane_word k) word)) (two : Now t₁ t₂ (set (cells t₁) (lane_word k + 1) 0)) (three : Now t₂ t₃ (set (cells t₂) (lane_word k + 2) 0)) where
  pub off : bit k (get_or (cells t) present_word 0) ≡ 0
  off = weightless t k s hk none

  so_far : Now t t₃ (set (set (set (cells t) (lane_word k) word) (lane_word k + 1) 0) (lane_word k + 2) 0)
  so_far = now-then t₃ (lane_word k + 2) 0 (now-then t₂ (lane_word k + 1) 0 one two) three

  pub lanes-kept : get_or (cells t₃) present_word 0 ≡ get_or (cells t) present_word 0
  lanes-kept = ap (λ (w : List ℕ). get_or w present_word 0) so_far.words ∙ stored_other (cells t) k word g (length-cells t) hk off a f present_word (λ p q. omega arith)

  pub add-leaves : (t' : List ℕ) (lanes : ℕ) → lanes ≡ get_or (cells t₃) present_word 0 → Now t₃ t' (set (cells t₃) present_word (1 * 2 ^ k % 2 ^ 64 + lanes)) → Leaves t t' (with_lane (meant t) k (idle g))
  add-leaves t' lanes e four =
      let word-is : 1 * 2 ^ k % 2 ^ 64 + lanes ≡ 2 ^ k + get_or (cells t) present_word 0 = rw (shift_one k hk, e, lanes-kept) in
      let n = now-then t' present_word (1 * 2 ^ k % 2 ^ 64 + lanes) so_far four in
      let words = n.words ∙ ap (set (set (set (set (cells t) (lane_word k) word) (lane_word k + 1) 0) (lane_word k + 2) 0) present_word) word-is in
      record {
        state = meant-now t t' _ (record { words = words; rest = n.rest }) ∙ added-state (cells t) k word g (length-cells t) hk off a f (in_aRow (list_at t));
        beside = λ b. rw words (added-beside (cells t) k word g (length-cells t) hk off a f b);
        rest = n.rest;
      }

  pub add-framing : (t' : List ℕ) (x : ℕ) → Now t₃ t' (set (cells t₃) present_word x) → get_or (cells t') framing_word 0 ≡ get_or (cells t) framing_word 0
  add-framing t' x four =
      ap (λ (w : List ℕ). get_or w framing_word 0) four.words
      ∙ get_or-set_other (cells t₃) present_word framing_word x 0 (omega arith)
      ∙ ap (λ (w : List ℕ). get_or w framing_word 0) so_far.words
      ∙ stored_other (cells t) k word g (length-cells t) hk off a f framing_word (λ p q. omega arith)

-- ---- rest_lane

rest_at : (t t' : List ℕ) (k : ℕ) → k < 64 → 0 < (lane_at (meant t) k).given.weight → Now t t' (put_row (cells t) k (retimed (row_at (cells t) k) 0 0 0))
    → Leaves t t' (with_lane (meant t) k (idle (lane_at (meant t) k).given))
rest_at t t' k hk weight n =
    let w = cells t in
    let o = in_aRow (list_at t) in
    let p = weight-present w o k hk weight in
    let given : (lane_at (meant t) k).given ≡ given_of (row_at w k) = ap (λ (l : Lane). l.given) (lane-is w o k hk) ∙ given-row w k p in
    let none : (row_at (put_row w k (retimed (row_at w k) 0 0 0)) k).count ≡ 0 = ap (λ (l : LaneRow). l.count) (row_put w k 0 0 0 (length-cells t) hk (omega arith)) in
    leave-lane t t' (put_row w k (retimed (row_at w k) 0 0 0)) k (idle (lane_at (meant t) k).given) hk n (outside-row w k (retimed (row_at w k) 0 0 0)) (lane-put w k 0 0 0 (length-cells t) hk (omega arith) p ∙ ap (timed_by_word (given_of (row_at w k)) 0) (waiting_none w k (retimed (row_at w k) 0 0 0) refl) ∙ sym (timed-idle (given_of (row_at w k))) ∙ ap idle (sym given))
    (λ b q some. absurd (omega (arith, none)))

pub rest-leaves : (t t' : List ℕ) (k : ℕ) (l : LaneRow) → l ≡ row_at (cells t) k → k < 64 → 0 < (lane_at (meant t) k).given.weight → Now t t' (put_row (cells t) k (retimed l 0 0 0))
    → Leaves t t' (with_lane (meant t) k (idle (lane_at (meant t) k).given))
rest-leaves t t' k l e hk weight n =
    rest_at t t' k hk weight (subst (λ (l : LaneRow). Now t t' (put_row (cells t) k (retimed l 0 0 0))) e n)

-- ---- the lanes that the word of present lanes names

named-weight : (t : List ℕ) (k : ℕ) → Sound t → k < 64 → bit k (get_or (cells t) present_word 0) ≡ 1 → 0 < (lane_at (meant t) k).given.weight
named-weight t k s hk b =
    let p = bit-present (cells t) k b in
    omega (arith, (s.beside.rows k hk p).numbers.weight_low, ap (λ (g : Setting). g.weight) (given-row (cells t) k p), ap (λ (l : Lane). l.given.weight) (lane-is (cells t) (in_aRow (list_at t)) k hk))

-- and it has one still where a loop over the named lanes, from t₀ on, did not get to it
pub still-weight : (t₀ t : List ℕ) (lanes : ℕ) → lanes ≡ get_or (cells t₀) present_word 0 → Sound t₀ → (k : ℕ) → k < 64 → lane_at (meant t) k ≡ lane_at (meant t₀) k → bit k lanes ≡ 1
    → 0 < (lane_at (meant t) k).given.weight
still-weight t₀ t lanes word s k hk same b = subst (λ (x : Lane). 0 < x.given.weight) (sym same) (named-weight t₀ k s hk (subst (λ (m : ℕ). bit k m ≡ 1) word b))

pub unnamed-lane : (t : List ℕ) (k : ℕ) → k < 64 → bit k (get_or (cells t) present_word 0) ≡ 0 → lane_at (meant t) k ≡ no_lane
unnamed-lane t k hk b = lane-is (cells t) (in_aRow (list_at t)) k hk ∙ lane-absent (cells t) k (bit-absent (cells t) k b)

-- ---- the loop of `rest_lanes`

pub rest-none : (t : List ℕ) → Leaves t t (rested_to 0 (meant t))
rest-none t = record { state = sym (rested-none (meant t) (lanes-many t)); beside = λ b. b; rest = behind-refl }

module _ (t₀ : List ℕ) (lanes : ℕ) (word : lanes ≡ get_or (cells t₀) present_word 0) where
  passed : (n k : ℕ) → Next lanes n k → rested_to n (meant t₀) ≡ rested_to k (meant t₀)
  passed n k x =
      rested-next (meant t₀) (lanes-many t₀) n k x.on x.ends (λ i p q. unnamed-lane t₀ i (omega (arith, x.ends)) (subst (λ (m : ℕ). bit i m ≡ 0) word (x.absent i p q)))

  pub rest_skip : {t : List ℕ} (n k : ℕ) → Next lanes n k → Leaves t₀ t (rested_to n (meant t₀)) → Leaves t₀ t (rested_to k (meant t₀))
  rest_skip n k x l = record { state = l.state ∙ passed n k x; beside = l.beside; rest = l.rest }

  module _ (t : List ℕ) (k : ℕ) (hk : k < 64) (l : Leaves t₀ t (rested_to k (meant t₀))) where
    pub rest-same : lane_at (meant t) k ≡ lane_at (meant t₀) k
    rest-same = ap (λ (u : State). lane_at u k) l.state ∙ rested-at (meant t₀) (lanes-many t₀) k hk

    pub rest_more : (t' : List ℕ) → Leaves t t' (with_lane (meant t) k (idle (lane_at (meant t) k).given)) → Leaves t₀ t' (rested_to (k + 1) (meant t₀))
    rest_more t' r =
        let step : with_lane (meant t) k (idle (lane_at (meant t) k).given) ≡ rested_to (k + 1) (meant t₀) = ap (λ (u : State). with_lane u k (idle (lane_at u k).given)) l.state ∙ ap (λ (y : Lane). with_lane (rested_to k (meant t₀)) k (idle y.given)) (rested-at (meant t₀) (lanes-many t₀) k hk) ∙ rested-more (meant t₀) (lanes-many t₀) k hk in
        leaves-then l (record { state = r.state ∙ step; beside = r.beside; rest = r.rest })
