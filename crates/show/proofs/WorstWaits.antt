-- From the numbers of a lane's row to a record's worst wait by the lane's setting, and the costliest record of a setup. Assumes nothing.
use Prim.Native.Nat.{ℕ, zero, suc, ◌+◌, ◌≤◌, ◌<◌, max}
use native.Mathlib.Omega.{arith}
use mathlib.Core.Path.{◌≡◌, refl, sym, ap, subst, ◌∙◌}
use mathlib.Core.Bool.{Bool, true, false}
use mathlib.Core.List.{List, [], ◌∷◌}
use mathlib.Core.Logic.{◌⊎◌, inl, inr}
use mathlib.Core.Option.{none}
use lib.ListN.{length, drop}
use borrow.Author.Tests.{lt-ltb, le-ltb}
use Rattle.std.specs.Prelude.{if◌then◌else◌, Err}
use Rattle.rules.specs.State.{Setting, Lane, no_setting, setting_at, setup_of, charge, room_of}
use Rattle.rules.specs.Setup.{Setup, InNumbers, framing_of, longest_charge, margin}
use Rattle.rules.specs.Waits.{worst_of}
use Rattle.rules.proofs.SameSetup.{setting-lane}
use Rattle.rules.proofs.Fair.{longest-most, framing-most}
use Rattle.rules.specs.declared.Refusal.{Refusal}
use Rattle.waits.specs.Lane.{setting_of_numbers, InRange}
use Rattle.waits.specs.declared.LaneNumbers.{LaneNumbers}
use Rattle.table.specs.Layout.{cells}
use Rattle.table.specs.Means.{given_of, present_at, meant}
use Rattle.table.specs.declared.LaneRow.{LaneRow}
use Rattle.engine.proofs.RowIs.{absent-lane}
use Rattle.paged.specs.Paged.{device_of, GoodUnit}
use Rattle.show.specs.Views.{wait, wait_is, view_refused, view}
use Rattle.show.specs.Worst.{lane_most, numbers_of, no_room, BothWorst}
use Rattle.show.specs.Shows.{view_reply, RowFound}
use Rattle.show.specs.declared.WorstWait.{WorstWait}
use Rattle.show.proofs.Shows.{found, weighs}

-- ---- the costliest record of a setup

one_more : (gs : List Setting) (k : ℕ) → k < length gs → longest_charge (drop k gs) ≡ max (charge (setting_at gs k) (setting_at gs k).longest) (longest_charge (drop (suc k) gs))
unfolding longest_charge
one_more [] k h = absurd (omega arith)
one_more (g ∷ gs) zero h = refl
one_more (g ∷ gs) (suc k) h = one_more gs k (omega arith)

none_left : (gs : List Setting) (k : ℕ) → length gs ≤ k → longest_charge (drop k gs) ≡ 0
unfolding longest_charge
none_left [] zero h = refl
none_left [] (suc k) h = refl
none_left (g ∷ gs) zero h = absurd (omega arith)
none_left (g ∷ gs) (suc k) h = none_left gs k (omega arith)

longest-bound : (b : ℕ) (gs : List Setting) → ((k : ℕ) → charge (setting_at gs k) (setting_at gs k).longest ≤ b) → longest_charge gs ≤ b
unfolding longest_charge
longest-bound b [] f = omega arith
longest-bound b (g ∷ gs) f = omega (arith, f 0, longest-bound b gs (λ k. f (suc k)))

charge-most : (gs : List Setting) → Setup gs → longest_charge gs ≤ 1564
unfolding charge
charge-most gs s = longest-bound 1564 gs (λ k. omega (arith, longest-most gs s k, framing-most gs s k))

-- m is the greatest so far, of the lanes below k
module _ (t : List ℕ) (g : GoodUnit t) (k m : ℕ) (so_far : max m (longest_charge (drop k (setup_of (meant t)))) ≡ longest_charge (setup_of (meant t))) where
  abbrev all : List Setting
  all = setup_of (meant t)

  pub most-more : k < 64 → (x r : ℕ) → x ≡ lane_most t k → r ≡ max m x → max r (longest_charge (drop (k + 1) all)) ≡ longest_charge all
  most-more h x r e f =
      let next : k + 1 ≡ suc k = omega arith in
      omega (arith, so_far, e, f, one_more all k (omega (arith, g.core.good.setup.size)), ap (λ (i : ℕ). longest_charge (drop i all)) next)

  pub most-all : 64 ≤ k → (m ≡ longest_charge all) × (m ≤ 1564)
  most-all h =
      let done : m ≡ longest_charge all = omega (arith, so_far, none_left all k (omega (arith, g.core.good.setup.size))) in
      (done, omega (arith, done, charge-most all g.core.good.setup))

-- ---- one lane

pub most-absent : (t : List ℕ) (k : ℕ) → k < 64 → present_at (cells t) k ≡ false → 0 ≡ lane_most t k
unfolding charge
most-absent t k h e = ap (λ (g : Setting). charge g g.longest) (sym (setting-lane (meant t) k ∙ ap (λ (l : Lane). l.given) (absent-lane t k h e)))

-- ---- of a lane that was found

module _ (t : List ℕ) (k : ℕ) (l : LaneRow) (f : RowFound t k l) where
  abbrev gs : List Setting
  gs = setup_of (meant t)

  setup : Setup gs
  setup = f.0.core.good.setup

  given_is : setting_at gs k ≡ given_of l
  given_is = setting-lane (meant t) k ∙ (found t k l f).given

  weighs-some : 0 < (setting_at gs k).weight
  weighs-some = rw given_is (found t k l f).weight

  numbers-in : InNumbers (given_of l)
  numbers-in = subst InNumbers given_is (go (setup.each k))
    where
      go : InNumbers (setting_at gs k) ⊎ (setting_at gs k ≡ no_setting) → InNumbers (setting_at gs k)
      go (inl n) = n
      go (inr e) = absurd (omega (arith, weighs-some, ap (λ (g : Setting). g.weight) e))

  same-framing : l.framing.0 ≡ framing_of gs
  same-framing = ap (λ (g : Setting). g.framing) (sym given_is) ∙ setup.framed k weighs-some

  pub row_small : (l.longest.0 ≤ 1500) × (l.framing.0 ≤ 64)
  row_small = (numbers-in.longest_high, (found t k l f).framing)

  pub row-most-is : l.longest.0 + l.framing.0 ≡ lane_most t k
  unfolding charge
  row-most-is = ap (λ (g : Setting). charge g g.longest) (sym given_is)

  -- x are its numbers and m its room, as they were read; n records are ahead
  module _ (x : LaneNumbers) (is : x ≡ numbers_of l) (m : ℕ) (has : m ≡ room_of (setting_of_numbers x)) (n : ℕ) where
    room-is : m ≡ room_of (given_of l)
    room-is = has ∙ ap (λ (y : LaneNumbers). room_of (setting_of_numbers y)) is

    pub in-range : n < m → InRange x n
    in-range low =
        let low' : n < room_of (given_of l) = omega (arith, room-is) in
        subst (λ (y : LaneNumbers). InRange y n) (sym is) (record { numbers = numbers-in; framing = (found t k l f).framing; room = low' })

    pub shows-wait : n < m → (r : WorstWait) → BothWorst t x n r → wait_is r.asked r.tight ≡ view (device_of t) (wait k n)
    unfolding view device_of
    shows-wait low r both =
        let b = subst (λ (y : LaneNumbers). BothWorst t y n r) is both in
        let low' : n < room_of (given_of l) = omega (arith, room-is) in
        rw (weighs t k l f, (found t k l f).given, lt-ltb n (room_of (given_of l)) low')
        (ap (λ (y : ℕ). wait_is y r.tight) (b.0 ∙ ap (λ (h : ℕ). worst_of (margin h) (given_of l) n) same-framing) ∙ ap (wait_is (worst_of (margin (framing_of gs)) (given_of l) n)) b.1)

    pub shows-no-room : m ≤ n → (r : Refusal) → r ≡ no_room x.shared → view_reply (Err r) ≡ view (device_of t) (wait k n)
    unfolding view device_of
    shows-no-room high r e =
        let high' : room_of (given_of l) ≤ n = omega (arith, room-is) in
        rw (weighs t k l f, (found t k l f).given, le-ltb n (room_of (given_of l)) high')
        (ap (λ (y : Refusal). view_reply (Err y)) (e ∙ ap (λ (y : LaneNumbers). no_room y.shared) is) ∙ go l.shared)
      where
        go : (b : Bool) → view_reply (Err (no_room b)) ≡ view_refused (if b then 71 else 13) none
        go true = refl
        go false = refl
