-- Two tie orders of the same lanes that agree on all ties give the same choice, and still agree after a lane gets a new S. Assumes nothing.
use Prim.Native.Nat.{ℕ, ◌^◌, ◌≤◌, ◌<◌}
use native.Mathlib.Nat.{le_antisymm, zero-add}
use native.Mathlib.Omega.{arith}
use mathlib.Core.Path.{◌≡◌, refl, sym, ap, subst, ◌∙◌}
use mathlib.Core.Bool.{Bool, true, false, false≢true}
use mathlib.Core.Logic.{◌⊎◌, inl, inr}
use mathlib.Core.Option.{Option, none, some}
use mathlib.Core.List.{List, [], ◌∷◌, ◌++◌}
use lib.Dec.{ltb}
use lib.ListN.{length, get_or, set}
use borrow.Author.Tests.{ltb-true, ltb-false}
use Rattle.std.specs.Prelude.{if◌then◌else◌}
use Rattle.units.specs.Plain.{place, times}
use Rattle.units.proofs.Lists.{set_cases}
use Rattle.rules.specs.State.{first_of, Lane, no_lane, State, group, slot, finish_r, holds}
use Rattle.rules.specs.Choice.{Candidate, choose}
use Rattle.rules.proofs.BySets.{candidate_lane}
use Rattle.rules.specs.Calls.{pick_first, pick_of, picked}
use Rattle.alike.specs.Alike.{Ties}
use Rattle.rules.proofs.Chosen.{Chosen, Choice, chosen}
use Rattle.rules.proofs.Keep.{eligible-is}
use Rattle.alike.proofs.Places.{place-unique, place-last}

-- what a tie order of these lanes is
abbrev pub Names : List Lane → List ℕ → Type 0
Names ls o = (k : ℕ) → times k o ≡ (if holds (get_or ls k no_lane) then 1 else 0)

-- two orders agree on the ties of these lanes
abbrev pub Agree : List Lane → List ℕ → List ℕ → Type 0
Agree ls o o' = (j k : ℕ) → Ties (get_or ls j no_lane) (get_or ls k no_lane) → ltb (place j o) (place k o) ≡ ltb (place j o') (place k o')

module _ (v : ℕ) (ls : List Lane) (o o' : List ℕ) (n : Names ls o) (n' : Names ls o') (same : Agree ls o o') where
  abbrev pub s : State
  s = record { clock = v; lanes = ls; order = o }

  abbrev pub t : State
  t = record { clock = v; lanes = ls; order = o' }

  named : (k : ℕ) → holds (get_or ls k no_lane) ≡ true → (0 < times k o) × (0 < times k o')
  named k h = (omega (arith, simp h at (n k)), omega (arith, simp h at (n' k)))

  -- ---- the choice

  module _ (c d : Candidate) (h : Chosen v o 0 ls c) (i : Chosen v o' 0 ls d) where
    abbrev a : ℕ
    a = h.at

    abbrev b : ℕ
    b = i.at

    fin : finish_r (get_or ls a no_lane) ≡ finish_r (get_or ls b no_lane)
    fin = omega (arith, h.fin, i.fin, (h.least b i.is).fin, (i.least a h.is).fin)

    grp : group (get_or ls a no_lane).given ≡ group (get_or ls b no_lane).given
    grp = omega (arith, h.grp, i.grp, (h.least b i.is).grp (omega (arith, h.fin, fin)), (i.least a h.is).grp (omega (arith, i.fin, fin)))

    ties : Ties (get_or ls a no_lane) (get_or ls b no_lane)
    unfolding slot
    ties = record {
      first = (eligible-is v (get_or ls a no_lane) h.is).0;
      second = (eligible-is v (get_or ls b no_lane) i.is).0;
      group = grp;
      start = omega (arith, fin, ap (λ (x : ℕ). 2 ^ x) grp);
    }

    -- a is not behind b in the one order, nor b behind a in the other
    turn : place a o ≤ place b o
    turn = omega (arith, (h.least b i.is).trn (omega (arith, h.fin, fin)) (omega (arith, h.grp, grp)), h.trn, ap (λ (x : ℕ). place x o) (zero-add a), ap (λ (x : ℕ). place x o) (zero-add b))

    turn' : place b o' ≤ place a o'
    turn' = omega (arith, (i.least a h.is).trn (omega (arith, i.fin, fin)) (omega (arith, i.grp, grp)), i.trn, ap (λ (x : ℕ). place x o') (zero-add a), ap (λ (x : ℕ). place x o') (zero-add b))

    one : a ≡ b
    one = place-unique a b o (named a ties.first).0 (le_antisymm turn (not-before (ltb (place a o) (place b o)) refl))
      where
        not-before : (x : Bool) → ltb (place a o) (place b o) ≡ x → place b o ≤ place a o
        not-before true e = absurd (omega (arith, ltb-true (place a o') (place b o') (sym (same a b ties) ∙ e), turn'))
        not-before false e = ltb-false (place a o) (place b o) e

  same-lane : (x y : Option Candidate) → Choice v o 0 ls x → Choice v o' 0 ls y → candidate_lane x ≡ candidate_lane y
  same-lane none none h i = refl
  same-lane none (some d) h i = absurd (false≢true (sym (h i.at) ∙ i.is))
  same-lane (some c) none h i = absurd (false≢true (sym (i h.at) ∙ h.is))
  same-lane (some c) (some d) h i = ap some (omega (arith, h.num, i.num, one c d h i))

  same-pick : (x y : Option Candidate) → candidate_lane x ≡ candidate_lane y → pick_of s x ≡ pick_of t y
  unfolding pick_of
  same-pick none none e = refl
  same-pick none (some d) e = let z : ◌≡◌ {A = ℕ} 0 1 = cc in absurd (omega arith)
  same-pick (some c) none e = let z : ◌≡◌ {A = ℕ} 0 1 = cc in absurd (omega arith)
  same-pick (some c) (some d) e = let l : c.lane ≡ d.lane = cc in ap (λ (k : ℕ). pick_first k (first_of (get_or ls k no_lane))) l

  pub same-picked : picked s ≡ picked t
  unfolding picked choose
  same-picked = same-pick (choose s) (choose t) (same-lane (choose s) (choose t) (chosen v o 0 ls) (chosen v o' 0 ls))

  -- ---- lane j gets a new S, or none

  -- lanes that tie after lane j was replaced, neither of them j, tied before
  pub tied-before : (j : ℕ) (l : Lane) (a b : ℕ) → j < length ls → Ties (get_or (set ls j l) a no_lane) (get_or (set ls j l) b no_lane) → (j ≡ a → ⊥) → (j ≡ b → ⊥) → Ties (get_or ls a no_lane) (get_or ls b no_lane)
  tied-before j l a b inside h na nb =
      subst (λ (x : Lane). Ties x (get_or ls b no_lane)) (other a na) (subst (λ (x : Lane). Ties (get_or (set ls j l) a no_lane) x) (other b nb) h)
    where
      other : (k : ℕ) → (j ≡ k → ⊥) → get_or (set ls j l) k no_lane ≡ get_or ls k no_lane
      other k ne = set_cases (λ (x : Lane). x ≡ get_or ls k no_lane) ls j k l no_lane inside (λ e. absurd (ne e)) (λ e. refl)

  pub holds-before : (j : ℕ) (l : Lane) (k : ℕ) → j < length ls → holds (get_or (set ls j l) k no_lane) ≡ true → (j ≡ k → ⊥) → holds (get_or ls k no_lane) ≡ true
  holds-before j l k inside h ne = set_cases (λ (x : Lane). holds x ≡ true → holds (get_or ls k no_lane) ≡ true) ls j k l no_lane inside (λ e. absurd (ne e)) (λ e p. p) h

  either : (P : ℕ → Type 0) (a b k : ℕ) → P a → P b → (k ≡ a) ⊎ (k ≡ b) → P k
  either P a b k p q (inl e) = subst P (sym e) p
  either P a b k p q (inr e) = subst P (sym e) q

  -- j goes behind the fronts f and f' of the two orders
  pub agree-last : (j : ℕ) (l : Lane) (f f' : List ℕ) → j < length ls → times j f ≡ 0 → times j f' ≡ 0
      → ((k : ℕ) → (j ≡ k → ⊥) → (times k f ≡ times k o) × (times k f' ≡ times k o'))
      → ((a b : ℕ) → (j ≡ a → ⊥) → (j ≡ b → ⊥) → (ltb (place a f) (place b f) ≡ ltb (place a o) (place b o)) × (ltb (place a f') (place b f') ≡ ltb (place a o') (place b o')))
      → Agree (set ls j l) (f ++ (j ∷ [])) (f' ++ (j ∷ []))
  agree-last j l f f' inside z z' kept order a b h =
      place-last j a b f f' z z'
      (λ k ne e.
      let x = named k (holds-before j l k inside (either (λ (m : ℕ). holds (get_or (set ls j l) m no_lane) ≡ true) a b k h.first h.second e) ne) in
      let y = kept k ne in
      (omega arith, omega arith))
      (λ na nb. (order a b na nb).0 ∙ same a b (tied-before j l a b inside h na nb) ∙ sym (order a b na nb).1)
