-- Laws of lists of settings: one element replaced, and a list of one element many times.
-- Assumes nothing.
use Prim.Native.Nat.{ℕ, zero, suc}
use mathlib.Core.Path.{◌≡◌, refl, ap}
use mathlib.Core.List.{List, [], ◌∷◌, map}
use lib.ListN.{get_or, set, replicate}

pub map-set : {A B : Type 0} (f : A → B) (xs : List A) (k : ℕ) (y : A) → map f (set xs k y) ≡ set (map f xs) k (f y)
map-set f [] k y = refl
map-set f (x ∷ xs) zero y = refl
map-set {A} {B} f (x ∷ xs) (suc k) y = ap (λ (ys : List B). f x ∷ ys) (map-set f xs k y)

pub replicate-at : {A : Type 0} (n k : ℕ) (d : A) → get_or (replicate n d) k d ≡ d
replicate-at zero k d = refl
replicate-at (suc n) zero d = refl
replicate-at (suc n) (suc k) d = replicate-at n k d
