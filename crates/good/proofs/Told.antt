-- A good state, and what is stored of it: its lanes are those that the table keeps, however it keeps them. Assumes nothing.
use mathlib.Core.Path.{◌≡◌, refl, sym, ap, subst, ◌∙◌}
use mathlib.Core.Bool.{Bool, true, false}
use Prim.Native.Nat.{ℕ, zero, suc, ◌≤◌, ◌<◌}
use mathlib.Core.List.{List}
use native.Mathlib.Omega.{arith}
use native.Mathlib.Decide.{dec_lt, dec_le}
use lib.Pow.{pow_mono}
use lib.ListN.{length, get_or, length-map, get_or-eq_default}
use Rattle.words.specs.Bits.{bit}
use Rattle.words.specs.Runs.{tab}
use Rattle.words.proofs.Bits.{bit-above}
use Rattle.words.proofs.Runs.{length-tab, get_d-tab}
use Rattle.std.specs.Prelude.{if◌then◌else◌}
use Rattle.units.specs.Plain.{word_of, count}
use Rattle.waiting.specs.Waiting.{GoodWaiting, held}
use Rattle.rules.specs.State.{Setting, Lane, State, lane_at, first_of, holds, no_lane, setup_of}
use Rattle.rules.specs.Setup.{weights}
use Rattle.rules.specs.Good.{Good, Times}
use Rattle.rules.proofs.Word.{word_lt, word-bit}
use Rattle.table.specs.Layout.{cells, framing_word}
use Rattle.table.specs.Means.{present_at, RowAgrees, RowPaced}
use Rattle.table.specs.declared.LaneRow.{LaneRow}
use Rattle.slot_lists.specs.Lists.{back_at, list_at, start_at, Solid}
use Rattle.filing.specs.Filing.{in_aRow, Agrees}
use Rattle.lane_test.specs.Says.{LaneFine}
use Rattle.good.specs.Pass.{sum_to, weight_at, holds_at}
use Rattle.good.specs.Kept.{Kept}
use Rattle.good.proofs.Sums.{sum-map, sum-tab}

-- a good state, and what is stored of it agrees
pub record Told (t : List ℕ) (row : ℕ → LaneRow) (s : State) : Type 0 where
  pub good : Good s
  pub rows : (k : ℕ) → k < 64 → present_at (cells t) k ≡ true → RowAgrees (row k)
  pub paced : (k : ℕ) → k < 64 → present_at (cells t) k ≡ true → 0 < (row k).count → RowPaced (row k)
  pub counted : (k : ℕ) → k < 64 → present_at (cells t) k ≡ true → held (lane_at s k).waiting ≡ (row k).count
  pub solid : Solid t
  pub agrees : Agrees (back_at t) (list_at t) (start_at t) s

-- the state has the lanes that are kept, and the slot lists as its tie order
pub record Means (t : List ℕ) (x : Kept (cells t)) (s : State) : Type 0 where
  pub lanes : s.lanes ≡ tab 64 x.lane
  pub order : s.order ≡ in_aRow (list_at t)

abbrev pub one : Bool → ℕ
one b = if b then 1 else 0

count-one : (b : Bool) → count b ≡ one b
count-one true = refl
count-one false = refl

-- ---- every number's lane

module _ {t : List ℕ} {x : Kept (cells t)} {s : State} (m : Means t x s) where
  pub lane_of : (k : ℕ) → k < 64 → lane_at s k ≡ x.lane k
  lane_of k h = rw m.lanes (get_d-tab 64 k x.lane no_lane h)

  pub far-lane : (k : ℕ) → 64 ≤ k → lane_at s k ≡ no_lane
  far-lane k h = rw m.lanes (get_or-eq_default (tab 64 x.lane) no_lane {n = k} (omega (arith, length-tab 64 x.lane)))

  module _ (P : Lane → Type 0) (none : P no_lane) (f : (k : ℕ) → k < 64 → present_at (cells t) k ≡ true → P (x.lane k)) where
    present-or-not : (k : ℕ) → k < 64 → (b : Bool) → present_at (cells t) k ≡ b → P (x.lane k)
    present-or-not k h true e = f k h e
    present-or-not k h false e = subst P (sym (x.absent k e)) none

    pub each_lane : (k : ℕ) → P (lane_at s k)
    each_lane k =
        elim (dec_lt k 64) [
          | yes h ↦ subst P (sym (lane_of k h)) (present-or-not k h (present_at (cells t) k) refl)
          | no h ↦ subst P (sym (far-lane k (omega arith))) none
        ]

  -- a lane that holds records is in the setup
  pub by-holds : (k : ℕ) (b : Bool) → present_at (cells t) k ≡ b → holds (x.lane k) ≡ true → b ≡ true
  by-holds k true e h = refl
  by-holds k false e h = sym (ap holds (x.absent k e)) ∙ h

  pub weights-are : weights (setup_of s) ≡ sum_to 64 (weight_at x.lane)
  weights-are = rw m.lanes (sum-map (λ (g : Setting). g.weight) (λ (l : Lane). l.given) (tab 64 x.lane) ∙ sum-tab (λ (l : Lane). l.given.weight) 64 x.lane)

  pub setup-size : length (setup_of s) ≡ 64
  setup-size = rw m.lanes (length-map (tab 64 x.lane) (λ (l : Lane). l.given) ∙ length-tab 64 x.lane)

  -- the word of the holding lanes, bit by bit
  pub held-bit : (k : ℕ) → bit k (word_of (holds_at x.lane) 64) ≡ (if holds (lane_at s k) then 1 else 0)
  held-bit k =
      elim (dec_lt k 64) [
        | yes h ↦ word-bit (holds_at x.lane) 64 k h ∙ count-one (holds_at x.lane k) ∙ ap (λ (l : Lane). one (holds l)) (sym (lane_of k h))
        | no h ↦ bit-above k (word_of (holds_at x.lane) 64) (omega (arith, word_lt (holds_at x.lane) 64, pow_mono {i = 64} {j = k} (omega arith))) ∙ ap (λ (l : Lane). one (holds l)) (sym (far-lane k (omega arith)))
      ]

  -- ---- what a good state says of the table

  module _ (g : Told t x.row s) where
    -- the lanes pass
    pub told-fine : (k : ℕ) → k < 64 → present_at (cells t) k ≡ true → LaneFine s.clock (x.row k) (x.lane k)
    told-fine k h p =
        record {
          agrees = g.rows k h p;
          paced = g.paced k h p;
          waiting = subst (λ (l : Lane). GoodWaiting l.given.longest l.waiting) (lane_of k h) (g.good.waiting k);
          counted = ap (λ (l : Lane). held l.waiting) (sym (lane_of k h)) ∙ g.counted k h p;
          numbers = subst (λ (l : Lane). Times s.clock l (first_of l)) (lane_of k h) (g.good.numbers k);
        }

    -- there is a lane, and with it h at most 64
    module _ (none : (k : ℕ) → k < 64 → present_at (cells t) k ≡ true → ⊥) where
      weightless : (k : ℕ) (b : Bool) → present_at (cells t) k ≡ b → (b ≡ true → ⊥) → weight_at x.lane k ≡ 0
      weightless k true e f = absurd (f refl)
      weightless k false e f = ap (λ (l : Lane). l.given.weight) (x.absent k e)

      sum-none : (n : ℕ) → n ≤ 64 → sum_to n (weight_at x.lane) ≡ 0
      unfolding sum_to
      sum-none zero b = refl
      sum-none (suc n) b = omega (arith, sum-none n (omega arith), weightless n (present_at (cells t) n) refl (none n (omega arith)))

    pub told-framing : get_or (cells t) framing_word 0 ≤ 64
    told-framing =
        elim (dec_le (get_or (cells t) framing_word 0) 64) [
          | yes q ↦ q
          | no q ↦
              let none : (k : ℕ) → k < 64 → present_at (cells t) k ≡ true → ⊥ = λ k b p. omega (arith, (g.rows k b p).framing, x.framed k) in
              absurd (omega (arith, g.good.setup.some_lane, weights-are, sum-none none 64 (omega arith)))
        ]
