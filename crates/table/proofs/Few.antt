-- The tie order of a good state keeps to its 64 places, and has one left where a lane is idle. Assumes nothing.
use mathlib.Core.Path.{◌≡◌, refl, sym, ap, ◌∙◌}
use mathlib.Core.Bool.{Bool, true, false}
use Prim.Native.Nat.{ℕ, suc, ◌+◌, ◌≤◌, ◌<◌}
use mathlib.Core.List.{List, [], ◌∷◌}
use mathlib.Core.Logic.{⊎_elim}
use native.Mathlib.Omega.{arith}
use borrow.Author.Tests.{eq-eqb, ne_eqb}
use lib.Dec.{eqb}
use lib.ListN.{length}
use Rattle.words.proofs.Runs.{eq-or-ne}
use Rattle.std.specs.Prelude.{if◌then◌else◌}
use Rattle.units.specs.Plain.{times, without}
use Rattle.units.proofs.Bools.{if-most}
use Rattle.units.proofs.Below.{length-times, below-most, below_less}
use Rattle.rules.specs.State.{State, lane_at, holds}
use Rattle.rules.specs.Good.{Good}
use Rattle.rules.proofs.GoodAgrees.{order-inside}

-- ---- the lanes without one

pick-length : (b : Bool) (x k : ℕ) (xs : List ℕ) → length (if b then without k xs else x ∷ without k xs) + (if b then 1 else 0) ≡ suc (length (without k xs))
pick-length true x k xs = omega arith
pick-length false x k xs = omega arith

eqb_swap : (a b : ℕ) → eqb a b ≡ eqb b a
eqb_swap a b = ⊎_elim (λ (e : a ≡ b). eq-eqb a b e ∙ sym (eq-eqb b a (sym e))) (λ (ne : a ≡ b → ⊥). ne_eqb a b ne ∙ sym (ne_eqb b a (λ e. ne (sym e)))) (eq-or-ne a b)

pub length_without : (k : ℕ) (xs : List ℕ) → length (without k xs) + times k xs ≡ length xs
unfolding without
length_without k [] = refl
length_without k (x ∷ xs) =
    omega (arith, length_without k xs, pick-length (eqb k x) x k xs, ap (λ (b : Bool). ◌+◌ (if b then 1 else 0) 0) (eqb_swap k x))

-- ---- a good state

module _ (s : State) (g : Good s) where
  at_most : (k : ℕ) → times k s.order ≤ 1
  at_most k = omega (arith, g.order k, if-most (holds (lane_at s k)))

  -- it names lanes below n once each, so it is at most that long, and shorter where it does not name one of them
  module _ (n : ℕ) (inside : (k : ℕ) → 0 < times k s.order → k < n) where
    at-most-all : length s.order ≤ n
    at-most-all = omega (arith, length-times n s.order inside, below-most (λ k. times k s.order) n at_most)

    one_left : (k : ℕ) → k < n → times k s.order ≡ 0 → length s.order < n
    one_left k h z = omega (arith, length-times n s.order inside, below_less (λ j. times j s.order) n k at_most h z)

  pub few-good : length s.order ≤ 64
  few-good = at-most-all 64 (order-inside s g)

  -- an idle lane finds room
  pub room-idle : (k : ℕ) → k < 64 → holds (lane_at s k) ≡ false → length s.order < 64
  room-idle k h e = one_left 64 (order-inside s g) k h (g.order k ∙ rw e)

  -- and so does a holding one, once it is taken out
  pub room-held : (k : ℕ) → holds (lane_at s k) ≡ true → length (without k s.order) < 64
  room-held k e =
      let once : times k s.order ≡ 1 = g.order k ∙ rw e in
      omega (arith, few-good, length_without k s.order)
