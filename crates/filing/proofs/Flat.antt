-- Lists one behind the other: what is sifted out of them, and how often a number stands there. Assumes nothing.
use Prim.Native.Nat.{ℕ, zero, suc, ◌+◌, ◌≤◌, ◌<◌}
use native.Mathlib.Omega.{arith}
use native.Mathlib.Decide.{dec_le}
use mathlib.Core.Path.{◌≡◌, refl, sym, ap, ◌∙◌}
use mathlib.Core.Bool.{Bool, true, false}
use mathlib.Core.List.{List, [], ◌∷◌, ◌++◌, append-nil}
use lib.Dec.{eqb}
use borrow.Author.Tests.{eqb-true, eqb-false, eq-eqb}
use Rattle.units.specs.Plain.{times}
use Rattle.units.proofs.Lists.{times-append}
use Rattle.filing.specs.Filing.{sift, flat}
use Rattle.filing.proofs.Sift.{sift-append}

pub sift-flat : (p : ℕ → Bool) (n : ℕ) (f : ℕ → List ℕ) → sift p (flat n f) ≡ flat n (λ i. sift p (f i))
unfolding flat sift
sift-flat p zero f = refl
sift-flat p (suc n) f = sift-append p (flat n f) (f n) ∙ ap (λ (l : List ℕ). l ++ sift p (f n)) (sift-flat p n f)

pub flat-none : (n : ℕ) (f : ℕ → List ℕ) → ((i : ℕ) → i < n → f i ≡ []) → flat n f ≡ []
unfolding flat
flat-none zero f h = refl
flat-none (suc n) f h = rw (flat-none n f (λ i p. h i (omega arith)), h n (omega arith))

pub flat-one : (n j : ℕ) (f : ℕ → List ℕ) → j < n → ((i : ℕ) → i < n → (i ≡ j → ⊥) → f i ≡ []) → flat n f ≡ f j
unfolding flat
flat-one zero j f h o = absurd (omega arith)
flat-one (suc n) j f h o = go (eqb n j) refl (λ lt. flat-one n j f lt (λ i p ne. o i (omega arith) ne))
  where
    go : (b : Bool) → eqb n j ≡ b → (j < n → flat n f ≡ f j) → flat n f ++ f n ≡ f j
    go true e r =
        let q : n ≡ j = eqb-true n j e in
        rw (flat-none n f (λ i p. o i (omega arith) (λ z. omega arith))) (ap f q)
    go false e r = rw (o n (omega arith) (eqb-false n j e), append-nil) (r (omega (arith, eqb-false n j e)))

pub sift-all : (p : ℕ → Bool) (xs : List ℕ) → ((k : ℕ) → 0 < times k xs → p k ≡ true) → sift p xs ≡ xs
unfolding sift
sift-all p [] h = refl
sift-all p (x ∷ xs) h = rw (h x (simp (eq-eqb x x refl) (omega arith)), sift-all p xs (λ k m. h k (omega arith)))

pub sift-no : (p : ℕ → Bool) (xs : List ℕ) → ((k : ℕ) → 0 < times k xs → p k ≡ false) → sift p xs ≡ []
unfolding sift
sift-no p [] h = refl
sift-no p (x ∷ xs) h = rw (h x (simp (eq-eqb x x refl) (omega arith)), sift-no p xs (λ k m. h k (omega arith)))

-- ---- how often a number stands in lists in a row

-- lists that have nothing add nothing
pub flat-skip : (n m : ℕ) (f : ℕ → List ℕ) → n ≤ m → ((i : ℕ) → n ≤ i → i < m → f i ≡ []) → flat m f ≡ flat n f
unfolding flat
flat-skip n zero f h nil = let z : 0 ≡ n = omega arith in ap (λ (x : ℕ). flat x f) z
flat-skip n (suc m) f h nil = go (eqb n (suc m)) refl (λ le. flat-skip n m f le (λ i p q. nil i p (omega arith)))
  where
    go : (b : Bool) → eqb n (suc m) ≡ b → (n ≤ m → flat m f ≡ flat n f) → flat m f ++ f m ≡ flat n f
    go true e r = ap (λ (x : ℕ). flat x f) (sym (eqb-true n (suc m) e))
    go false e r =
        let le : n ≤ m = omega (arith, eqb-false n (suc m) e) in
        rw (nil m le (omega arith), append-nil) (r le)

pub times_more : (n k : ℕ) (f : ℕ → List ℕ) → times k (flat (suc n) f) ≡ times k (flat n f) + times k (f n)
unfolding flat
times_more n k f = times-append k (flat n f) (f n)

pub times-part : (n m k : ℕ) (f : ℕ → List ℕ) → n ≤ m → times k (flat n f) ≤ times k (flat m f)
unfolding flat
times-part n zero k f h = omega (arith, ap (λ (x : ℕ). times k (flat x f)) (none_below n h))
  where
    none_below : (n : ℕ) → n ≤ 0 → n ≡ 0
    none_below n h = omega arith
times-part n (suc m) k f h = go (eqb n (suc m)) refl (times-part n m k f)
  where
    go : (b : Bool) → eqb n (suc m) ≡ b → (n ≤ m → times k (flat n f) ≤ times k (flat m f)) → times k (flat n f) ≤ times k (flat m f ++ f m)
    go true e r = omega (arith, ap (λ (x : ℕ). times k (flat x f)) (eqb-true n (suc m) e))
    go false e r = omega (arith, r (omega (arith, eqb-false n (suc m) e)), times-append k (flat m f) (f m))

pub times-in : (n m k : ℕ) (f : ℕ → List ℕ) → n < m → times k (f n) ≤ times k (flat m f)
times-in n m k f h = omega (arith, times_more n k f, times-part (suc n) m k f h)

-- a number that stands there stands in one of the lists
pub times-where : (n k : ℕ) (f : ℕ → List ℕ) → 0 < times k (flat n f) → (i : ℕ) × (i < n) × (0 < times k (f i))
unfolding flat
times-where zero k f h = absurd (omega arith)
times-where (suc n) k f h =
    elim (dec_le 1 (times k (f n))) [
      | yes q ↦ (n, omega arith, q)
      | no q ↦ let r = times-where n k f (omega (arith, times-append k (flat n f) (f n))) in (r.0, omega (arith, r.1), r.2)
    ]

pub flat-ext : (n : ℕ) (f h : ℕ → List ℕ) → ((i : ℕ) → i < n → f i ≡ h i) → flat n f ≡ flat n h
unfolding flat
flat-ext zero f h e = refl
flat-ext (suc n) f h e = rw (flat-ext n f h (λ i p. e i (omega arith)), e n (omega arith))

pub times_none : (n k : ℕ) (f : ℕ → List ℕ) → ((i : ℕ) → i < n → times k (f i) ≡ 0) → times k (flat n f) ≡ 0
unfolding flat
times_none zero k f h = refl
times_none (suc n) k f h = omega (arith, times-append k (flat n f) (f n), times_none n k f (λ i p. h i (omega arith)), h n (omega arith))

pub times-one : (n j k : ℕ) (f : ℕ → List ℕ) → j < n → ((i : ℕ) → i < n → (i ≡ j → ⊥) → times k (f i) ≡ 0) → times k (flat n f) ≡ times k (f j)
unfolding flat
times-one zero j k f h o = absurd (omega arith)
times-one (suc n) j k f h o = go (eqb n j) refl (λ lt. times-one n j k f lt (λ i p ne. o i (omega arith) ne))
  where
    go : (b : Bool) → eqb n j ≡ b → (j < n → times k (flat n f) ≡ times k (f j)) → times k (flat n f ++ f n) ≡ times k (f j)
    go true e r =
        let q : n ≡ j = eqb-true n j e in
        omega (arith, times-append k (flat n f) (f n), times_none n k f (λ i p. o i (omega arith) (λ z. omega arith)), ap (λ (i : ℕ). times k (f i)) q)
    go false e r = omega (arith, times-append k (flat n f) (f n), o n (omega arith) (eqb-false n j e), r (omega (arith, eqb-false n j e)))
