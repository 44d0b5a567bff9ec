-- Laws of lists with one element replaced, of sums, of how often a number stands in a list, and of tests at numbers below n. Assumes nothing.
use Prim.Native.Nat.{ℕ, zero, suc, ◌+◌, ◌*◌, ◌≤◌, ◌<◌}
use native.Mathlib.Nat.{not-suc-le-zero, le_of_suc-le-suc, suc_inj, eq-or-lt_of_le}
use native.Mathlib.Omega.{arith}
use mathlib.Core.Path.{◌≡◌, refl, sym, ap, ◌∙◌}
use mathlib.Core.Bool.{Bool, true, false, ◌||◌, or-true}
use mathlib.Core.Logic.{◌⊎◌, inl, inr}
use mathlib.Core.List.{List, [], ◌∷◌, ◌++◌}
use lib.Dec.{eqb}
use lib.ListN.{length, get_or, set}
use borrow.Author.Tests.{eqb-true, eqb-false}
use mathlib.Core.Option.{some}
use Rattle.units.specs.Plain.{sum, times, any_below}

-- two numbers are the same or not
pub same_or {ℓ} : {P : Type ℓ} (j k : ℕ) → (j ≡ k → P) → ((j ≡ k → ⊥) → P) → P
same_or {P = P} j k f g = go (eqb j k) refl
  where
    go : (b : Bool) → eqb j k ≡ b → P
    go true e = f (eqb-true j k e)
    go false e = g (eqb-false j k e)

module _ {A : Type 0} where
  -- the changed list at k: the new element if k is the place, else the old one
  pub set_cases : (P : A → Type 0) (xs : List A) (j k : ℕ) (y d : A) → j < length xs → (j ≡ k → P y) → ((j ≡ k → ⊥) → P (get_or xs k d)) → P (get_or (set xs j y) k d)
  set_cases P [] j k y d h p q = absurd (not-suc-le-zero h)
  set_cases P (x ∷ xs) zero zero y d h p q = p refl
  set_cases P (x ∷ xs) zero (suc k) y d h p q = q (λ e. omega arith)
  set_cases P (x ∷ xs) (suc j) zero y d h p q = q (λ e. omega arith)
  set_cases P (x ∷ xs) (suc j) (suc k) y d h p q = set_cases P xs j k y d (le_of_suc-le-suc h) (λ e. p (ap suc e)) (λ n. q (λ e. n (suc_inj e)))

  pub sum-set : (f : A → ℕ) (xs : List A) (j : ℕ) (y d : A) → j < length xs → sum f (set xs j y) + f (get_or xs j d) ≡ sum f xs + f y
  sum-set f [] j y d h = absurd (not-suc-le-zero h)
  sum-set f (x ∷ xs) zero y d h = omega arith
  sum-set f (x ∷ xs) (suc j) y d h = omega (arith, sum-set f xs j y d (le_of_suc-le-suc h))

  pub sum_bound : (f : A → ℕ) (b : ℕ) (xs : List A) (d : A) → ((k : ℕ) → f (get_or xs k d) ≤ b) → sum f xs ≤ length xs * b
  sum_bound f b [] d h = omega arith
  sum_bound f b (x ∷ xs) d h = omega (arith, h 0, sum_bound f b xs d (λ k. h (suc k)))

  pub sum-zero : (f : A → ℕ) (xs : List A) (d : A) → ((k : ℕ) → f (get_or xs k d) ≡ 0) → sum f xs ≡ 0
  sum-zero f [] d h = refl
  sum-zero f (x ∷ xs) d h = omega (arith, h 0, sum-zero f xs d (λ k. h (suc k)))

-- a figure of an element that the change keeps is kept at every place
pub set_keeps : {A B : Type 0} (f : A → B) (xs : List A) (k j : ℕ) (y d : A) → f y ≡ f (get_or xs k d) → f (get_or (set xs k y) j d) ≡ f (get_or xs j d)
set_keeps f [] k j y d e = refl
set_keeps f (x ∷ xs) zero zero y d e = e
set_keeps f (x ∷ xs) zero (suc j) y d e = refl
set_keeps f (x ∷ xs) (suc k) zero y d e = refl
set_keeps f (x ∷ xs) (suc k) (suc j) y d e = set_keeps f xs k j y d e

pub some_inj : {A : Type 0} (x y : A) → some x ≡ some y → x ≡ y
some_inj x y e = cc

pub cons : {x y : ℕ} {xs ys : List ℕ} → x ≡ y → xs ≡ ys → x ∷ xs ≡ y ∷ ys
cons a b = cc

pub sum-append : {A : Type 0} (f : A → ℕ) (a b : List A) → sum f (a ++ b) ≡ sum f a + sum f b
sum-append f [] b = omega arith
sum-append f (x ∷ a) b = omega (arith, sum-append f a b)

-- ---- how often a number stands in a list

pub times-append : (k : ℕ) (a b : List ℕ) → times k (a ++ b) ≡ times k a + times k b
times-append k [] b = omega arith
times-append k (j ∷ js) b = omega (arith, times-append k js b)

-- a list in which a number stands has an element
pub times-length : (k : ℕ) (l : List ℕ) → 0 < times k l → 0 < length l
times-length k [] h = absurd (omega arith)
times-length k (x ∷ xs) h = omega arith

-- ---- a test at the numbers below n

pub any_at : (p : ℕ → Bool) (n k : ℕ) → k < n → p k ≡ true → any_below p n ≡ true
unfolding any_below
any_at p zero k h e = absurd (not-suc-le-zero h)
any_at p (suc n) k h e = go (eq-or-lt_of_le (le_of_suc-le-suc h)) (any_at p n k)
  where
    go : (k ≡ n) ⊎ (k < n) → (k < n → p k ≡ true → any_below p n ≡ true) → (p n || any_below p n) ≡ true
    go (inl q) r = simp (ap p (sym q) ∙ e)
    go (inr q) r = simp (r q e, or-true (p n))
