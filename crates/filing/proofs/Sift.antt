-- Laws of sifted lists. Assumes nothing.
use Prim.Native.Nat.{ℕ, suc, ◌+◌, ◌≤◌, ◌<◌}
use native.Mathlib.Omega.{arith}
use mathlib.Core.Path.{◌≡◌, refl, sym, ap, ◌∙◌}
use mathlib.Core.Bool.{Bool, true, false, false≢true}
use mathlib.Core.Option.{some}
use mathlib.Core.List.{List, [], ◌∷◌, ◌++◌}
use lib.Dec.{ltb, eqb, leb-suc-suc}
use lib.ListN.{length}
use borrow.Author.Tests.{eqb-true, eq-eqb, ne_eqb}
use Rattle.std.specs.Prelude.{if◌then◌else◌}
use Rattle.units.specs.Plain.{place, times, without}
use Rattle.rules.specs.BySets.{first_in}
use Rattle.alike.proofs.Places.{place-cons}
use Rattle.filing.specs.Filing.{sift, front_of}

pub sift-append : (p : ℕ → Bool) (xs ys : List ℕ) → sift p (xs ++ ys) ≡ sift p xs ++ sift p ys
unfolding sift
sift-append p [] ys = refl
sift-append p (x ∷ xs) ys = rw (sift-append p xs ys) (go (p x))
  where
    go : (b : Bool) → (if b then x ∷ (sift p xs ++ sift p ys) else sift p xs ++ sift p ys) ≡ (if b then x ∷ sift p xs else sift p xs) ++ sift p ys
    go true = refl
    go false = refl

-- two tests that agree on what stands in the list
pub sift-ext : (p q : ℕ → Bool) (xs : List ℕ) → ((k : ℕ) → 0 < times k xs → p k ≡ q k) → sift p xs ≡ sift q xs
unfolding sift
sift-ext p q [] h = refl
sift-ext p q (x ∷ xs) h =
    rw (h x (simp (eq-eqb x x refl) (omega arith)), sift-ext p q xs (λ k m. h k (omega arith)))

pub sift-without : (p : ℕ → Bool) (k : ℕ) (xs : List ℕ) → sift p (without k xs) ≡ without k (sift p xs)
unfolding sift without
sift-without p k [] = refl
sift-without p k (x ∷ xs) = go (eqb k x) refl (p x) refl (sift-without p k xs)
  where
    go : (b : Bool) → eqb k x ≡ b → (c : Bool) → p x ≡ c → sift p (without k xs) ≡ without k (sift p xs)
        → sift p (if b then without k xs else x ∷ without k xs) ≡ without k (if c then x ∷ sift p xs else sift p xs)
    go true e true f r = r ∙ simp e
    go true e false f r = r
    go false e true f r = simp (e, f, r)
    go false e false f r = simp (f, r)

pub without-none : (k : ℕ) (xs : List ℕ) → times k xs ≡ 0 → without k xs ≡ xs
unfolding without
without-none k [] h = refl
without-none k (x ∷ xs) h =
    let ne : k ≡ x → ⊥ = λ q. omega (arith, simp (eq-eqb x k (sym q)) at h) in
    simp (ne_eqb k x ne) (ap (λ (l : List ℕ). x ∷ l) (without-none k xs (omega arith)))

pub without-first : (k : ℕ) (xs : List ℕ) → times k (k ∷ xs) ≡ 1 → without k (k ∷ xs) ≡ xs
unfolding without
without-first k xs h = simp (eq-eqb k k refl) (without-none k xs (omega (arith, simp (eq-eqb k k refl) at h)))

pub times-sift : (p : ℕ → Bool) (k : ℕ) (xs : List ℕ) → times k (sift p xs) ≡ (if p k then times k xs else 0)
unfolding sift
times-sift p k [] = go (p k)
  where
    go : (b : Bool) → ◌≡◌ {A = ℕ} 0 (if b then 0 else 0)
    go true = refl
    go false = refl
times-sift p k (x ∷ xs) = go (p x) refl (p k) refl (eqb x k) refl (times-sift p k xs)
  where
    go : (b : Bool) → p x ≡ b → (c : Bool) → p k ≡ c → (d : Bool) → eqb x k ≡ d → times k (sift p xs) ≡ (if c then times k xs else 0)
        → times k (if b then x ∷ sift p xs else sift p xs) ≡ (if c then (if d then 1 else 0) + times k xs else 0)
    go true e true f d m r = simp m (omega (arith, r))
    go true e false f true m r = absurd (false≢true (sym f ∙ ap p (sym (eqb-true x k m)) ∙ e))
    go true e false f false m r = simp m (omega (arith, r))
    go false e true f true m r = absurd (false≢true (sym e ∙ ap p (eqb-true x k m) ∙ f))
    go false e true f false m r = omega (arith, r)
    go false e false f d m r = r

pub first-sift : (p : ℕ → Bool) (xs : List ℕ) → first_in p xs ≡ front_of (sift p xs)
unfolding sift first_in
first-sift p [] = refl
first-sift p (x ∷ xs) = go (p x) (first-sift p xs)
  where
    go : (b : Bool) → first_in p xs ≡ front_of (sift p xs) → (if b then some x else first_in p xs) ≡ front_of (if b then x ∷ sift p xs else sift p xs)
    go true r = refl
    go false r = r

pub length-sift : (p : ℕ → Bool) (xs : List ℕ) → length (sift p xs) ≤ length xs
unfolding sift
length-sift p [] = omega arith
length-sift p (x ∷ xs) = go (p x) (length-sift p xs)
  where
    go : (b : Bool) → length (sift p xs) ≤ length xs → length (if b then x ∷ sift p xs else sift p xs) ≤ suc (length xs)
    go true r = omega arith
    go false r = omega arith

-- of two numbers that pass, the same one comes first
pub place-sift : (p : ℕ → Bool) (j k : ℕ) (xs : List ℕ) → p j ≡ true → p k ≡ true → ltb (place j (sift p xs)) (place k (sift p xs)) ≡ ltb (place j xs) (place k xs)
unfolding sift place
place-sift p j k [] a b = refl
place-sift p j k (x ∷ xs) a b = go (p x) refl (place-sift p j k xs a b)
  where
    ys : List ℕ
    ys = sift p xs

    go : (c : Bool) → p x ≡ c → ltb (place j ys) (place k ys) ≡ ltb (place j xs) (place k xs)
        → ltb (place j (if c then x ∷ ys else ys)) (place k (if c then x ∷ ys else ys)) ≡ ltb (place j (x ∷ xs)) (place k (x ∷ xs))
    go true e r = place-cons (eqb j x) (eqb k x) (place j ys) (place k ys) (place j xs) (place k xs) r
    go false e r =
        let nj : j ≡ x → ⊥ = λ q. false≢true (sym e ∙ ap p (sym q) ∙ a) in
        let nk : k ≡ x → ⊥ = λ q. false≢true (sym e ∙ ap p (sym q) ∙ b) in
        r ∙ simp (ne_eqb j x nj, ne_eqb k x nk) (sym (leb-suc-suc (suc (place j xs)) (place k xs)))
