-- Sums of a figure at the numbers below n, and a list's length counted by what stands in it. Assumes nothing.
use Prim.Native.Nat.{ℕ, zero, suc, ◌+◌, ◌≤◌, ◌<◌}
use native.Mathlib.Omega.{arith}
use mathlib.Core.Path.{◌≡◌, refl, ap}
use mathlib.Core.List.{List, [], ◌∷◌}
use lib.Dec.{eqb}
use lib.ListN.{length}
use borrow.Author.Tests.{eq-eqb, ne_eqb}
use Rattle.std.specs.Prelude.{if◌then◌else◌}
use Rattle.units.specs.Plain.{times}
use Rattle.units.proofs.Lists.{same_or}

abbrev pub sum_below : (ℕ → ℕ) → ℕ → ℕ
sum_below f zero = 0
sum_below f (suc n) = f n + sum_below f n

pub below_none : (f : ℕ → ℕ) (n : ℕ) → ((k : ℕ) → k < n → f k ≡ 0) → sum_below f n ≡ 0
below_none f zero h = refl
below_none f (suc n) h = omega (arith, h n (omega arith), below_none f n (λ k p. h k (omega arith)))

pub below-add : (f g h : ℕ → ℕ) (n : ℕ) → ((k : ℕ) → f k ≡ g k + h k) → sum_below f n ≡ sum_below g n + sum_below h n
below-add f g h zero e = omega arith
below-add f g h (suc n) e = omega (arith, e n, below-add f g h n e)

-- a figure that is v at j, and 0 elsewhere
pub below-own : (j v n : ℕ) → j < n → sum_below (λ (k : ℕ). if eqb j k then v else 0) n ≡ v
below-own j v zero h = absurd (omega arith)
below-own j v (suc n) h =
    same_or j n
    (λ e. simp (eq-eqb j n e) (omega (arith, below_none (λ (k : ℕ). if eqb j k then v else 0) n (λ k p. simp (ne_eqb j k (λ q. omega arith))))))
    (λ e. simp (ne_eqb j n e) (omega (arith, below-own j v n (omega arith))))

pub length-times : (n : ℕ) (js : List ℕ) → ((j : ℕ) → 0 < times j js → j < n) → sum_below (λ (k : ℕ). times k js) n ≡ length js
length-times n [] h = below_none (λ (k : ℕ). times k []) n (λ k p. refl)
length-times n (j ∷ js) h =
    omega (
      arith,
      below-add (λ (k : ℕ). times k (j ∷ js)) (λ (k : ℕ). if eqb j k then 1 else 0) (λ (k : ℕ). times k js) n (λ k. refl),
      below-own j 1 n (h j (simp (eq-eqb j j refl) (omega arith))),
      length-times n js (λ i p. h i (omega arith)),
    )

pub below-most : (f : ℕ → ℕ) (n : ℕ) → ((k : ℕ) → f k ≤ 1) → sum_below f n ≤ n
below-most f zero h = omega arith
below-most f (suc n) h = omega (arith, h n, below-most f n h)

pub below_less : (f : ℕ → ℕ) (n i : ℕ) → ((k : ℕ) → f k ≤ 1) → i < n → f i ≡ 0 → sum_below f n < n
below_less f zero i h p z = absurd (omega arith)
below_less f (suc n) i h p z =
    same_or i n
    (λ e. omega (arith, below-most f n h, ap f e))
    (λ e. omega (arith, h n, below_less f n i h (omega arith) z))
