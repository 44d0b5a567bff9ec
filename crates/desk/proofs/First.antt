-- Laws of the first place where a test passes. Assumes nothing.
use Prim.Native.Nat.{ℕ, zero, suc, ◌≤◌, ◌<◌}
use native.Mathlib.Omega.{arith}
use mathlib.Core.Path.{◌≡◌, refl}
use mathlib.Core.Bool.{Bool, true, false}
use mathlib.Core.List.{List, [], ◌∷◌}
use lib.ListN.{length, get_or, set}
use Rattle.std.specs.Prelude.{if◌then◌else◌}
use Rattle.desk.specs.Board.{first_where}

module _ {A : Type 0} (p : A → Bool) where
  pub first-le : (xs : List A) → first_where p xs ≤ length xs
  unfolding first_where
  first-le [] = omega arith
  first-le (x ∷ xs) = go (p x) (first-le xs)
    where
      go : (v : Bool) → first_where p xs ≤ length xs → (if v then 0 else suc (first_where p xs)) ≤ suc (length xs)
      go true h = omega arith
      go false h = omega arith

  -- it passes there
  pub first-hit : (xs : List A) (d : A) → first_where p xs < length xs → p (get_or xs (first_where p xs) d) ≡ true
  unfolding first_where
  first-hit [] d h = absurd (omega arith)
  first-hit (x ∷ xs) d h = go (first-hit xs d) (p x) refl h
    where
      go : (first_where p xs < length xs → p (get_or xs (first_where p xs) d) ≡ true) → (v : Bool) → p x ≡ v → (if v then 0 else suc (first_where p xs)) < suc (length xs) → p (get_or (x ∷ xs) (if v then 0 else suc (first_where p xs)) d) ≡ true
      go r true e h = e
      go r false e h = r (omega arith)

  -- and nowhere before
  pub first-miss : (xs : List A) (d : A) (k : ℕ) → k < first_where p xs → p (get_or xs k d) ≡ false
  unfolding first_where
  first-miss [] d k h = absurd (omega arith)
  first-miss (x ∷ xs) d k h = go (first-miss xs d) (p x) refl k h
    where
      go : ((k : ℕ) → k < first_where p xs → p (get_or xs k d) ≡ false) → (v : Bool) → p x ≡ v → (k : ℕ) → k < (if v then 0 else suc (first_where p xs)) → p (get_or (x ∷ xs) k d) ≡ false
      go r true e k h = absurd (omega arith)
      go r false e zero h = e
      go r false e (suc k) h = r k (omega arith)

  -- the place is where it passes and nowhere before
  pub first-is : (xs : List A) (d : A) (k : ℕ) → k < length xs → p (get_or xs k d) ≡ true → ((i : ℕ) → i < k → p (get_or xs i d) ≡ false) → first_where p xs ≡ k
  unfolding first_where
  first-is [] d k h e f = absurd (omega arith)
  first-is (x ∷ xs) d zero h e f = rw e
  first-is (x ∷ xs) d (suc k) h e f = rw (f 0 (omega arith), first-is xs d k (omega arith) e (λ i q. f (suc i) (omega arith)))

  -- passes nowhere
  pub first-none : (xs : List A) (d : A) → ((i : ℕ) → p (get_or xs i d) ≡ false) → first_where p xs ≡ length xs
  unfolding first_where
  first-none [] d f = refl
  first-none (x ∷ xs) d f = rw (f 0, first-none xs d (λ i. f (suc i)))

  -- an element changed to one of the same test
  pub first-set : (xs : List A) (d : A) (k : ℕ) (y : A) → p y ≡ p (get_or xs k d) → first_where p (set xs k y) ≡ first_where p xs
  unfolding first_where
  first-set [] d k y e = refl
  first-set (x ∷ xs) d zero y e = rw e
  first-set (x ∷ xs) d (suc k) y e = rw (first-set xs d k y e)
