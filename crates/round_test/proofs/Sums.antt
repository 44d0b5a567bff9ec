-- Sums over the trains, and what a round of so many names can name. Assumes nothing.
use Prim.Native.Nat.{ℕ, zero, suc, ◌+◌, ◌-◌, ◌/◌, ◌%◌, ◌^◌, ◌≤◌, ◌<◌}
use native.Mathlib.Omega.{arith}
use native.Mathlib.Decide.{dec_lt}
use mathlib.Core.Path.{◌≡◌, refl, sym, ap, subst, ◌∙◌}
use mathlib.Core.Bool.{Bool}
use mathlib.Core.List.{List, [], ◌∷◌}
use lib.Dec.{eqb}
use lib.ListN.{length}
use lib.Pow.{pow_pos, field, mod-mod-pow}
use borrow.Author.Tests.{eq-eqb, ne_eqb}
use Rattle.std.specs.Prelude.{if◌then◌else◌}
use Rattle.units.specs.Plain.{times}
use Rattle.units.proofs.Bools.{if-most}
use Rattle.words.specs.Bits.{bit}
use Rattle.words.proofs.Bits.{bit-add-same, bit-add-other, bit-above}
use Rattle.round_test.specs.Shared.{below}

pub le_below : (f g : ℕ → ℕ) (n : ℕ) → ((k : ℕ) → k < n → f k ≤ g k) → below f n ≤ below g n
unfolding below
le_below f g zero h = omega arith
le_below f g (suc n) h = omega (arith, le_below f g n (λ k l. h k (omega arith)), h n (omega arith))

-- of two sums that are the same, and one not over the other anywhere, all is the same
same-below : (f g : ℕ → ℕ) (n : ℕ) → ((k : ℕ) → k < n → f k ≤ g k) → below f n ≡ below g n → (k : ℕ) → k < n → f k ≡ g k
unfolding below
same-below f g zero h e k l = absurd (omega arith)
same-below f g (suc n) h e k l =
    let less = le_below f g n (λ k l. h k (omega arith)) in
    let last = h n (omega arith) in
    elim (dec_lt k n) [
      | yes p ↦ same-below f g n (λ k l. h k (omega arith)) (omega (arith, e, less, last)) k p
      | no p ↦ let is : n ≡ k = omega arith in subst (λ (x : ℕ). f x ≡ g x) is (omega (arith, e, less, last))
    ]

-- ---- how often a list names a train

abbrev pub one : ℕ → ℕ → ℕ
one j k = if eqb j k then 1 else 0

pub one_same : (j k : ℕ) → j ≡ k → one j k ≡ 1
one_same j k e = ap (λ (b : Bool). if b then 1 else 0) (eq-eqb j k e)

pub one-other : (j k : ℕ) → (j ≡ k → ⊥) → one j k ≡ 0
one-other j k n = ap (λ (b : Bool). if b then 1 else 0) (ne_eqb j k n)

one-most : (j k : ℕ) → one j k ≤ 1
one-most j k = if-most (eqb j k)

one-beyond : (j : ℕ) (f : ℕ → ℕ) (n : ℕ) → n ≤ j → below (λ k. one j k + f k) n ≡ below f n
unfolding below
one-beyond j f zero h = refl
one-beyond j f (suc n) h = omega (arith, one-beyond j f n (omega arith), one-other j n (λ e. omega (arith, e)))

one_in : (j : ℕ) (f : ℕ → ℕ) (n : ℕ) → j < n → below (λ k. one j k + f k) n ≡ suc (below f n)
unfolding below
one_in j f zero h = absurd (omega arith)
one_in j f (suc n) h =
    elim (dec_lt j n) [
      | yes p ↦ omega (arith, one_in j f n p, one-other j n (λ e. omega (arith, e)))
      | no p ↦ omega (arith, one-beyond j f n (omega arith), one_same j n (omega arith))
    ]

abbrev pub named : List ℕ → ℕ
named ks = below (λ k. times k ks) 8

-- a list of trains has as many names as it names trains, each counted as often as it is named
pub named-all : (ks : List ℕ) → ((k : ℕ) → 0 < times k ks → k < 8) → named ks ≡ length ks
unfolding below
named-all [] h = refl
named-all (j ∷ js) h =
    one_in j (λ k. times k js) 8 (h j (omega (arith, one_same j j refl)))
    ∙ ap suc (named-all js (λ k p. h k (omega arith)))

-- any list has no more, and those that are no trains take from them
named-most : (ks : List ℕ) (far : ℕ) → 8 ≤ far → named ks + times far ks ≤ length ks
unfolding below
named-most [] far h = omega arith
named-most (j ∷ js) far h =
    elim (dec_lt j 8) [
      | yes p ↦ omega (arith, one_in j (λ k. times k js) 8 p, one-other j far (λ e. omega (arith, e)), named-most js far h)
      | no p ↦ omega (arith, one-beyond j (λ k. times k js) 8 (omega arith), one-most j far, named-most js far h)
    ]

-- a list that names each train of a set, and is as long as there are such, names each of them once, and nothing else
module _ (ks : List ℕ) (h : ℕ → ℕ) (least : (k : ℕ) → k < 8 → h k ≤ times k ks) (as_many : below h 8 ≡ length ks) where
  abbrev more : below h 8 ≤ named ks
  more = le_below h (λ k. times k ks) 8 least

  pub exact : (k : ℕ) → k < 8 → h k ≡ times k ks
  exact = same-below h (λ k. times k ks) 8 least (omega (arith, more, named-most ks 8 (omega arith), as_many))

  pub no_other : (k : ℕ) → 8 ≤ k → times k ks ≡ 0
  no_other k far = omega (arith, more, named-most ks k far, as_many)

-- ---- bits

pub bit-none : (k : ℕ) → bit k 0 ≡ 0
bit-none k = bit-above k 0 (omega (arith, pow_pos k))

whole : (k : ℕ) → 2 ^ k + 0 ≡ 2 ^ k
whole k = omega arith

pub bit-power : (k : ℕ) → bit k (2 ^ k) ≡ 1
bit-power k = ap (bit k) (sym (whole k)) ∙ bit-add-same k 0 (bit-none k)

pub bit-power-other : (k j : ℕ) → (k ≡ j → ⊥) → bit j (2 ^ k) ≡ 0
bit-power-other k j n = ap (bit j) (sym (whole k)) ∙ bit-add-other k j 0 n (bit-none k) ∙ bit-none j

pub bit-low : (x k : ℕ) → k < 8 → bit k (x % 256) ≡ bit k x
bit-low x k h =
    ap (λ (y : ℕ). x % 2 ^ y / 2 ^ k % 2) whole-width
    ∙ ap (λ (y : ℕ). y % 2) (field x (8 - k) k)
    ∙ ap (λ (y : ℕ). x / 2 ^ k % 2 ^ y % 2) above
    ∙ mod-mod-pow (x / 2 ^ k) (7 - k) 1
  where
    whole-width : 8 ≡ 8 - k + k
    whole-width = omega arith

    above : 8 - k ≡ 7 - k + 1
    above = omega arith
