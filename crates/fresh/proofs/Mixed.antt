-- Laws of 64 elements by two rules. Assumes nothing.
use mathlib.Core.Path.{◌≡◌, refl, sym, ap, ◌∙◌}
use mathlib.Core.Logic.{⊎_elim}
use Prim.Native.Nat.{ℕ, zero, suc, ◌+◌, ◌-◌, ◌≤◌, ◌<◌}
use mathlib.Core.List.{List, ◌∷◌, map}
use native.Mathlib.Omega.{arith}
use borrow.Author.Tests.{lt-ltb, le-ltb}
use lib.Dec.{ltb}
use lib.ListN.{length, get_or, set}
use lib.Seq.{ext_get_or}
use Rattle.words.specs.Runs.{tab, tab_from}
use Rattle.words.proofs.Runs.{tab-ext, tab-set, get_d-tab, length-tab, le-or-lt, eq-or-ne}
use Rattle.std.specs.Prelude.{if◌then◌else◌}
use Rattle.fresh.specs.Makes.{mixed}

module _ {A : Type 0} (f g : ℕ → A) where
  below : (k i : ℕ) → i < k → (if ltb i k then f i else g i) ≡ f i
  below k i h = rw (lt-ltb i k h)

  above : (k i : ℕ) → k ≤ i → (if ltb i k then f i else g i) ≡ g i
  above k i h = rw (le-ltb i k h)

  pub mixed-none : mixed 0 f g ≡ tab 64 g
  unfolding mixed
  mixed-none = tab-ext 64 _ g (λ i h. above 0 i (omega arith))

  pub mixed-all : mixed 64 f g ≡ tab 64 f
  unfolding mixed
  mixed-all = tab-ext 64 _ f (λ i h. below 64 i h)

  pub mixed-at : (k : ℕ) (d : A) → k < 64 → get_or (mixed k f g) k d ≡ g k
  unfolding mixed
  mixed-at k d h = get_d-tab 64 k (λ i. if ltb i k then f i else g i) d h ∙ above k k (omega arith)

  other : (k i : ℕ) → (i ≡ k → ⊥) → (if ltb i (k + 1) then f i else g i) ≡ (if ltb i k then f i else g i)
  other k i ne =
      ⊎_elim
      (λ (h : k ≤ i). above (k + 1) i (omega arith) ∙ sym (above k i h))
      (λ (h : i < k). below (k + 1) i (omega arith) ∙ sym (below k i h))
      (le-or-lt k i)

  -- the next element, by the first rule
  pub mixed-more : (k : ℕ) → k < 64 → set (mixed k f g) k (f k) ≡ mixed (k + 1) f g
  unfolding mixed
  mixed-more k h =
      let m : ℕ → A = λ i. if ltb i (k + 1) then f i else g i in
      let last : m k ≡ f k = below (k + 1) k (omega arith) in
      sym (tab-set 64 k (λ i. if ltb i k then f i else g i) m h (λ i p ne. other k i ne) ∙ ap (set (tab 64 (λ i. if ltb i k then f i else g i)) k) last)

  -- or where both rules agree on it
  pub mixed-skip : (k : ℕ) → k < 64 → f k ≡ g k → mixed k f g ≡ mixed (k + 1) f g
  unfolding mixed
  mixed-skip k h e =
      tab-ext 64 _ _ (λ i p. ⊎_elim (λ (q : i ≡ k). here i q) (λ (ne : i ≡ k → ⊥). sym (other k i ne)) (eq-or-ne i k))
    where
      here : (i : ℕ) → i ≡ k → (if ltb i k then f i else g i) ≡ (if ltb i (k + 1) then f i else g i)
      here i q = rw q (above k k (omega arith) ∙ sym e ∙ sym (below (k + 1) k (omega arith)))

module _ {A : Type 0} where
  -- a list of 64, element by element
  pub tab-get_d : (xs : List A) (d : A) → length xs ≡ 64 → tab 64 (λ i. get_or xs i d) ≡ xs
  tab-get_d xs d e =
      ext_get_or d (tab 64 (λ i. get_or xs i d)) xs (length-tab 64 _ ∙ sym e) (λ i h. get_d-tab 64 i (λ i. get_or xs i d) d (omega (arith, length-tab 64 (λ i. get_or xs i d))))

module _ {A B : Type 0} (h : A → B) where
  map-tab_from : (n a : ℕ) (f : ℕ → A) → map h (tab_from a n f) ≡ tab_from a n (λ i. h (f i))
  unfolding tab_from
  map-tab_from zero a f = refl
  map-tab_from (suc n) a f = ap (λ (l : List B). h (f a) ∷ l) (map-tab_from n (suc a) f)

  pub map-tab : (n : ℕ) (f : ℕ → A) → map h (tab n f) ≡ tab n (λ i. h (f i))
  unfolding tab
  map-tab n f = map-tab_from n 0 f
