-- Laws of runs of stores. Assumes nothing.
use Prim.Native.Nat.{ℕ, suc, ◌+◌, ◌<◌}
use native.Mathlib.Nat.{add-suc, suc-add, add-zero}
use native.Mathlib.Omega.{arith}
use mathlib.Core.Path.{◌≡◌, refl, sym, ap, ◌∙◌}
use mathlib.Core.List.{List, [], ◌∷◌, ◌++◌}
use lib.ListN.{length, set}
use lib.Seq.{sets, set_comm}

module _ {A : Type 0} where
  set-sets : (l : List A) (i j : ℕ) (x : A) (vs : List A) → i < j → set (sets l j vs) i x ≡ sets (set l i x) j vs
  set-sets l i j x [] h = refl
  set-sets l i j x (v ∷ vs) h = set-sets (set l j v) i (suc j) x vs (omega arith) ∙ ap (λ (r : List A). sets r (suc j) vs) (set_comm l j i v x (λ e. omega arith))

  -- a store just before a run makes a run one longer
  pub sets-before : (l : List A) (i : ℕ) (x : A) (vs : List A) → set (sets l (suc i) vs) i x ≡ sets l i (x ∷ vs)
  sets-before l i x vs = set-sets l i (suc i) x vs (omega arith)

  -- two runs one behind the other are one run
  pub sets-append : (l : List A) (i : ℕ) (xs ys : List A) → sets (sets l i xs) (i + length xs) ys ≡ sets l i (xs ++ ys)
  sets-append l i [] ys = ap (λ (k : ℕ). sets l k ys) (add-zero i)
  sets-append l i (x ∷ xs) ys = ap (λ (k : ℕ). sets (sets (set l i x) (suc i) xs) k ys) (add-suc i (length xs) ∙ sym (suc-add i (length xs))) ∙ sets-append (set l i x) (suc i) xs ys
