-- Laws of sums over a list, and of a list with one element replaced. Assumes nothing.
use Prim.Native.Nat.{ℕ, zero, suc, ◌*◌, ◌≤◌, ◌<◌}
use native.Mathlib.Nat.{not-suc-le-zero, le_of_suc-le-suc}
use native.Mathlib.Omega.{arith}
use mathlib.Core.Path.{◌≡◌, refl, sym, subst}
use mathlib.Core.Bool.{Bool, true, false, not}
use mathlib.Core.Logic.{◌⊎◌, inl, inr}
use mathlib.Core.List.{List, [], ◌∷◌, map}
use lib.Dec.{T}
use lib.ListN.{length, get_or, set}
use Rattle.units.specs.Plain.{sum}

module _ {A : Type 0} where
  pub sum_mono : (f g : A → ℕ) (xs : List A) (d : A) → ((k : ℕ) → f (get_or xs k d) ≤ g (get_or xs k d)) → sum f xs ≤ sum g xs
  sum_mono f g [] d h = omega arith
  sum_mono f g (x ∷ xs) d h = omega (arith, h 0, sum_mono f g xs d (λ k. h (suc k)))

  pub sum-scale : (f : A → ℕ) (c : ℕ) (xs : List A) → sum (λ (x : A). f x * c) xs ≡ sum f xs * c
  sum-scale f c [] = omega arith
  sum-scale f c (x ∷ xs) = omega (arith, sum-scale f c xs)

  -- one element is at most the sum
  pub le-sum : (f : A → ℕ) (xs : List A) (d : A) (k : ℕ) → k < length xs → f (get_or xs k d) ≤ sum f xs
  le-sum f [] d k h = absurd (not-suc-le-zero h)
  le-sum f (x ∷ xs) d zero h = omega arith
  le-sum f (x ∷ xs) d (suc k) h = omega (arith, le-sum f xs d k (le_of_suc-le-suc h))

  -- what holds of every element, the default's case included, and of the new one, holds of every element of the changed list
  pub set_all : (P : A → Type 0) (xs : List A) (j : ℕ) (y d : A) → P y → ((k : ℕ) → P (get_or xs k d)) → (k : ℕ) → P (get_or (set xs j y) k d)
  set_all P [] j y d p h k = h k
  set_all P (x ∷ xs) zero y d p h zero = p
  set_all P (x ∷ xs) zero y d p h (suc k) = h (suc k)
  set_all P (x ∷ xs) (suc j) y d p h zero = h 0
  set_all P (x ∷ xs) (suc j) y d p h (suc k) = set_all P xs j y d p (λ i. h (suc i)) k

  -- an element that a test passes, or none
  pub any-or-none : (p : A → Bool) (xs : List A) (d : A) → T (not (p d))
      → ((k : ℕ) × T (p (get_or xs k d))) ⊎ ((k : ℕ) → T (not (p (get_or xs k d))))
  any-or-none p [] d h = inr (λ k. h)
  any-or-none p (x ∷ xs) d h = go (p x) refl (any-or-none p xs d h)
    where
      go : (b : Bool) → p x ≡ b → ((k : ℕ) × T (p (get_or xs k d))) ⊎ ((k : ℕ) → T (not (p (get_or xs k d))))
          → ((k : ℕ) × T (p (get_or (x ∷ xs) k d))) ⊎ ((k : ℕ) → T (not (p (get_or (x ∷ xs) k d))))
      go true e r = inl (0, subst T (sym e) tt)
      go false e (inl (k, t)) = inl (suc k, t)
      go false e (inr f) = inr (elim [ zero ↦ subst (λ (b : Bool). T (not b)) (sym e) tt | suc k ↦ f k ])

  -- one element of each of two lists of one length replaced
  pub set-two : (P : A → A → Type 0) (xs ys : List A) (j : ℕ) (x y d : A) → length ys ≡ length xs → P x y → ((k : ℕ) → P (get_or xs k d) (get_or ys k d)) → (k : ℕ) → P (get_or (set xs j x) k d) (get_or (set ys j y) k d)
  set-two P [] [] j x y d z p h k = h k
  set-two P [] (b ∷ ys) j x y d z p h k = absurd (omega arith)
  set-two P (a ∷ xs) [] j x y d z p h k = absurd (omega arith)
  set-two P (a ∷ xs) (b ∷ ys) zero x y d z p h zero = p
  set-two P (a ∷ xs) (b ∷ ys) zero x y d z p h (suc k) = h (suc k)
  set-two P (a ∷ xs) (b ∷ ys) (suc j) x y d z p h zero = h 0
  set-two P (a ∷ xs) (b ∷ ys) (suc j) x y d z p h (suc k) = set-two P xs ys j x y d (omega arith) p (λ i. h (suc i)) k

  pub get_d_map : {B : Type 0} (f : A → B) (xs : List A) (k : ℕ) (d : A) (d' : B) → f d ≡ d' → get_or (map f xs) k d' ≡ f (get_or xs k d)
  get_d_map f [] k d d' e = sym e
  get_d_map f (x ∷ xs) zero d d' e = refl
  get_d_map f (x ∷ xs) (suc k) d d' e = get_d_map f xs k d d' e
