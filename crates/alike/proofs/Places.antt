-- Laws of places in a list of lane numbers. Assumes nothing.
use Prim.Native.Nat.{ℕ, suc, ◌+◌, ◌≤◌, ◌<◌}
use native.Mathlib.Omega.{arith}
use mathlib.Core.Path.{◌≡◌, refl, sym, ap, ◌∙◌}
use mathlib.Core.Bool.{Bool, true, false}
use mathlib.Core.Logic.{◌⊎◌, inl, inr}
use mathlib.Core.List.{List, [], ◌∷◌, ◌++◌}
use lib.Dec.{ltb, eqb, leb-suc-suc}
use lib.ListN.{length}
use borrow.Author.Tests.{eqb-true, eqb-false, eq-eqb, ne_eqb, lt-ltb, le-ltb}
use Rattle.std.specs.Prelude.{if◌then◌else◌}
use Rattle.units.specs.Plain.{place, times, without}

-- a number that stands in a list has its place there, whatever follows
pub place-append : (j : ℕ) (xs ys : List ℕ) → 0 < times j xs → place j (xs ++ ys) ≡ place j xs
unfolding place
place-append j [] ys h = absurd (omega arith)
place-append j (x ∷ xs) ys h = go (eqb j x) refl (place-append j xs ys)
  where
    go : (b : Bool) → eqb j x ≡ b → (0 < times j xs → place j (xs ++ ys) ≡ place j xs) → (if b then 0 else suc (place j (xs ++ ys))) ≡ (if b then 0 else suc (place j xs))
    go true e r = refl
    go false e r = ap suc (r (omega (arith, simp (ne_eqb x j (λ q. eqb-false j x e (sym q))) at h)))

pub place-lt : (j : ℕ) (xs : List ℕ) → 0 < times j xs → place j xs < length xs
unfolding place
place-lt j [] h = absurd (omega arith)
place-lt j (x ∷ xs) h = go (eqb j x) refl (place-lt j xs)
  where
    go : (b : Bool) → eqb j x ≡ b → (0 < times j xs → place j xs < length xs) → (if b then 0 else suc (place j xs)) < suc (length xs)
    go true e r = omega arith
    go false e r = omega (arith, r (omega (arith, simp (ne_eqb x j (λ q. eqb-false j x e (sym q))) at h)))

-- one that stands in the second list only has its place there, behind the first
pub place-behind : (j : ℕ) (xs ys : List ℕ) → times j xs ≡ 0 → place j (xs ++ ys) ≡ length xs + place j ys
unfolding place
place-behind j [] ys h = omega arith
place-behind j (x ∷ xs) ys h =
    let ne : j ≡ x → ⊥ = λ q. omega (arith, simp (eq-eqb x j (sym q)) at h) in
    simp (ne_eqb j x ne) (omega (arith, place-behind j xs ys (omega (arith, simp (ne_eqb x j (λ q. ne (sym q))) at h))))

-- two numbers that stand in a list have different places, unless they are the same
pub place-unique : (j k : ℕ) (xs : List ℕ) → 0 < times j xs → place j xs ≡ place k xs → j ≡ k
unfolding place
place-unique j k [] h e = absurd (omega arith)
place-unique j k (x ∷ xs) h e = go (eqb j x) refl (eqb k x) refl (place-unique j k xs) e
  where
    go : (b : Bool) → eqb j x ≡ b → (c : Bool) → eqb k x ≡ c → (0 < times j xs → place j xs ≡ place k xs → j ≡ k)
        → (if b then 0 else suc (place j xs)) ≡ (if c then 0 else suc (place k xs)) → j ≡ k
    go true p true q r e = eqb-true j x p ∙ sym (eqb-true k x q)
    go true p false q r e = absurd (omega arith)
    go false p true q r e = absurd (omega arith)
    go false p false q r e = r (omega (arith, simp (ne_eqb x j (λ t. eqb-false j x p (sym t))) at h)) (omega arith)

-- one element put in front of two lists: of two numbers the same one comes first in both, if it did
pub place-cons : (p q : Bool) (a b c d : ℕ) → ltb a b ≡ ltb c d → ltb (if p then 0 else suc a) (if q then 0 else suc b) ≡ ltb (if p then 0 else suc c) (if q then 0 else suc d)
place-cons true true a b c d r = refl
place-cons true false a b c d r = lt-ltb 0 (suc b) (omega arith) ∙ sym (lt-ltb 0 (suc d) (omega arith))
place-cons false true a b c d r = le-ltb (suc a) 0 (omega arith) ∙ sym (le-ltb (suc c) 0 (omega arith))
place-cons false false a b c d r = leb-suc-suc (suc a) b ∙ r ∙ sym (leb-suc-suc (suc c) d)

-- taking j out does not change which of two others comes first
pub place-without : (j a b : ℕ) (xs : List ℕ) → (j ≡ a → ⊥) → (j ≡ b → ⊥)
    → ltb (place a (without j xs)) (place b (without j xs)) ≡ ltb (place a xs) (place b xs)
unfolding place without
place-without j a b [] na nb = refl
place-without j a b (x ∷ xs) na nb = go (eqb j x) refl (place-without j a b xs na nb)
  where
    ys : List ℕ
    ys = without j xs

    go : (t : Bool) → eqb j x ≡ t → ltb (place a ys) (place b ys) ≡ ltb (place a xs) (place b xs)
        → ltb (place a (if t then ys else x ∷ ys)) (place b (if t then ys else x ∷ ys)) ≡ ltb (place a (x ∷ xs)) (place b (x ∷ xs))
    go true e r =
        let x≠a : a ≡ x → ⊥ = λ q. na (eqb-true j x e ∙ sym q) in
        let x≠b : b ≡ x → ⊥ = λ q. nb (eqb-true j x e ∙ sym q) in
        r ∙ simp (ne_eqb a x x≠a, ne_eqb b x x≠b) (sym (leb-suc-suc (suc (place a xs)) (place b xs)))
    go false e r = place-cons (eqb a x) (eqb b x) (place a ys) (place b ys) (place a xs) (place b xs) r

-- two lists, each with j put behind: they agree on which of two numbers comes first, if they did on any two but j
pub place-last : (j a b : ℕ) (f f' : List ℕ) → times j f ≡ 0 → times j f' ≡ 0
    → ((k : ℕ) → (j ≡ k → ⊥) → (k ≡ a) ⊎ (k ≡ b) → (0 < times k f) × (0 < times k f'))
    → ((j ≡ a → ⊥) → (j ≡ b → ⊥) → ltb (place a f) (place b f) ≡ ltb (place a f') (place b f'))
    → ltb (place a (f ++ (j ∷ []))) (place b (f ++ (j ∷ []))) ≡ ltb (place a (f' ++ (j ∷ []))) (place b (f' ++ (j ∷ [])))
place-last j a b f f' h h' others same = go (eqb j a) refl (eqb j b) refl
  where
    -- where a number stands among the others, and where j stands
    among : (k : ℕ) (l : List ℕ) → 0 < times k l → (place k (l ++ (j ∷ [])) < length l) × (place k (l ++ (j ∷ [])) ≡ place k l)
    among k l p = (omega (arith, place-append k l (j ∷ []) p, place-lt k l p), place-append k l (j ∷ []) p)

    behind : (k : ℕ) (l : List ℕ) → j ≡ k → times j l ≡ 0 → length l ≤ place k (l ++ (j ∷ []))
    behind k l e z = rw (← e) (omega (arith, place-behind j l (j ∷ []) z))

    go : (p : Bool) → eqb j a ≡ p → (q : Bool) → eqb j b ≡ q
        → ltb (place a (f ++ (j ∷ []))) (place b (f ++ (j ∷ []))) ≡ ltb (place a (f' ++ (j ∷ []))) (place b (f' ++ (j ∷ [])))
    go true p true q =
        let e : a ≡ b = sym (eqb-true j a p) ∙ eqb-true j b q in
        rw e (le-ltb (place b (f ++ (j ∷ []))) (place b (f ++ (j ∷ []))) (omega arith) ∙ sym (le-ltb (place b (f' ++ (j ∷ []))) (place b (f' ++ (j ∷ []))) (omega arith)))
    go true p false q =
        let o = others b (eqb-false j b q) (inr refl) in
        le-ltb (place a (f ++ (j ∷ []))) (place b (f ++ (j ∷ []))) (omega (arith, behind a f (eqb-true j a p) h, (among b f o.0).0))
        ∙ sym (le-ltb (place a (f' ++ (j ∷ []))) (place b (f' ++ (j ∷ []))) (omega (arith, behind a f' (eqb-true j a p) h', (among b f' o.1).0)))
    go false p true q =
        let o = others a (eqb-false j a p) (inl refl) in
        lt-ltb (place a (f ++ (j ∷ []))) (place b (f ++ (j ∷ []))) (omega (arith, behind b f (eqb-true j b q) h, (among a f o.0).0))
        ∙ sym (lt-ltb (place a (f' ++ (j ∷ []))) (place b (f' ++ (j ∷ []))) (omega (arith, behind b f' (eqb-true j b q) h', (among a f' o.1).0)))
    go false p false q =
        let x = others a (eqb-false j a p) (inl refl) in
        let y = others b (eqb-false j b q) (inr refl) in
        rw ((among a f x.0).1, (among b f y.0).1, (among a f' x.1).1, (among b f' y.1).1) (same (eqb-false j a p) (eqb-false j b q))
