-- Laws of what the pass adds up: the weights, whether a lane passes a test, whether a word names one. Assumes nothing.
use mathlib.Core.Path.{◌≡◌, refl, ap, ◌∙◌}
use mathlib.Core.Bool.{Bool, true, false, ◌||◌, false≢true}
use Prim.Native.Nat.{ℕ, zero, suc, ◌+◌, ◌^◌, ◌<◌}
use mathlib.Core.List.{List, [], ◌∷◌, map}
use native.Mathlib.Numerals.{add-one}
use native.Mathlib.Omega.{arith}
use Rattle.words.specs.Runs.{tab, tab_from}
use Rattle.words.proofs.Runs.{tab-snoc}
use Rattle.std.specs.Prelude.{if◌then◌else◌}
use Rattle.units.specs.Plain.{sum, any_below, word_of}
use Rattle.units.proofs.Lists.{sum-append}
use Rattle.good.specs.Pass.{sum_to}

module _ {A B : Type 0} where
  pub sum-map : (f : B → ℕ) (g : A → B) (xs : List A) → sum f (map g xs) ≡ sum (λ x. f (g x)) xs
  sum-map f g [] = refl
  sum-map f g (x ∷ xs) = omega (arith, sum-map f g xs)

module _ {A : Type 0} where
  pub sum-tab : (f : A → ℕ) (n : ℕ) (g : ℕ → A) → sum f (tab n g) ≡ sum_to n (λ k. f (g k))
  unfolding sum_to tab tab_from
  sum-tab f zero g = refl
  sum-tab f (suc n) g =
      let more : sum f (tab (n + 1) g) ≡ sum f (tab n g) + (f (g n) + 0) = ap (sum f) (tab-snoc n g) ∙ sum-append f (tab n g) (g n ∷ []) in
      omega (arith, more, sum-tab f n g, ap (λ (m : ℕ). sum f (tab m g)) (add-one n))

-- ---- tests

pub any_some : (p : ℕ → Bool) (n : ℕ) → any_below p n ≡ true → (k : ℕ) × (k < n) × (p k ≡ true)
unfolding any_below
any_some p zero h = absurd (false≢true h)
any_some p (suc n) h = go (p n) refl h (any_some p n)
  where
    go : (b : Bool) → p n ≡ b → (b || any_below p n) ≡ true → (any_below p n ≡ true → (k : ℕ) × (k < n) × (p k ≡ true)) → (k : ℕ) × (k < suc n) × (p k ≡ true)
    go true e h r = (n, omega arith, e)
    go false e h r = let x = r h in (x.0, omega (arith, x.1), x.2)

pub word_some : (p : ℕ → Bool) (n : ℕ) → 0 < word_of p n → (k : ℕ) × (k < n) × (p k ≡ true)
unfolding word_of
word_some p zero h = absurd (omega arith)
word_some p (suc n) h = go (p n) refl h (word_some p n)
  where
    go : (b : Bool) → p n ≡ b → 0 < (if b then 2 ^ n else 0) + word_of p n → (0 < word_of p n → (k : ℕ) × (k < n) × (p k ≡ true)) → (k : ℕ) × (k < suc n) × (p k ≡ true)
    go true e h r = (n, omega arith, e)
    go false e h r = let x = r (omega arith) in (x.0, omega (arith, x.1), x.2)
