-- The plain choice is an eligible lane, and no eligible lane is ahead of it by finish, then group, then place in the tie order. Assumes nothing.
use Prim.Native.Nat.{ℕ, zero, suc, ◌+◌}
use native.Mathlib.Omega.{arith}
use native.Mathlib.Nat.{add-suc, suc-add, add-zero}
use mathlib.Core.Path.{◌≡◌, refl, sym, ◌∙◌}
use mathlib.Core.Bool.{Bool, true, false, ◌&&◌, ◌||◌, false≢true}
use mathlib.Core.Option.{Option, none, some}
use mathlib.Core.List.{List, [], ◌∷◌}
use lib.Dec.{ltb, eqb}
use lib.ListN.{get_or}
use borrow.Author.Tests.{ltb-true, ltb-false, eqb-true, eqb-false}
use Rattle.rules.specs.State.{Lane, group, finish_r, eligible, no_lane}
use Rattle.units.specs.Plain.{place}
use Rattle.units.proofs.Bools.{if-ind}
use Rattle.rules.specs.Choice.{Candidate, before, best, choose_from, choose}
pub use Rattle.rules.specs.Chosen.{Ahead, Chosen, Choice}
use Rattle.rules.specs.Chosen.{AheadOf, ChoiceRule}

-- ---- the choice

ahead-trans : (f g t f' g' t' f'' g'' t'' : ℕ) → Ahead f g t f' g' t' → Ahead f' g' t' f'' g'' t'' → Ahead f g t f'' g'' t''
ahead-trans f g t f' g' t' f'' g'' t'' p q = record {
  fin = omega (arith, p.fin, q.fin);
  grp = λ h. omega (arith, p.grp (omega (arith, q.fin)), q.grp (omega (arith, p.fin)));
  trn = λ h k.
      let g₁ = p.grp (omega (arith, q.fin)) in
      let g₂ = q.grp (omega (arith, p.fin)) in
      omega (arith, p.trn (omega (arith, q.fin)) (omega arith), q.trn (omega (arith, p.fin)) (omega arith));
}

abbrev Before : Candidate → Candidate → Type 0
Before a b = Ahead a.finish a.group a.turn b.finish b.group b.turn

module _ (a b : Candidate) where
  abbrev by_turn : Bool
  by_turn = ltb a.turn b.turn

  before-true : before a b ≡ true → Before a b
  unfolding before
  before-true e = go (ltb a.finish b.finish) refl (eqb a.finish b.finish) refl (ltb a.group b.group) refl (eqb a.group b.group) refl e
    where
      go : (x : Bool) → ltb a.finish b.finish ≡ x → (y : Bool) → eqb a.finish b.finish ≡ y → (z : Bool) → ltb a.group b.group ≡ z → (u : Bool) → eqb a.group b.group ≡ u
          → (x || y && (z || u && by_turn)) ≡ true → Before a b
      go true p y q z r u t e = let lt = ltb-true a.finish b.finish p in omega arith
      go false p true q true r u t e = let eq = eqb-true a.finish b.finish q in let lt = ltb-true a.group b.group r in omega arith
      go false p true q false r true t e =
          let eq = eqb-true a.finish b.finish q in
          let eg = eqb-true a.group b.group t in
          let lt = ltb-true a.turn b.turn e in
          omega arith
      go false p true q false r false t e = absurd (false≢true e)
      go false p false q z r u t e = absurd (false≢true e)

  before-false : before a b ≡ false → Before b a
  unfolding before
  before-false e = go (ltb a.finish b.finish) refl (eqb a.finish b.finish) refl (ltb a.group b.group) refl (eqb a.group b.group) refl e
    where
      go : (x : Bool) → ltb a.finish b.finish ≡ x → (y : Bool) → eqb a.finish b.finish ≡ y → (z : Bool) → ltb a.group b.group ≡ z → (u : Bool) → eqb a.group b.group ≡ u
          → (x || y && (z || u && by_turn)) ≡ false → Before b a
      go true p y q z r u t e = absurd (false≢true (sym e))
      go false p true q true r u t e = absurd (false≢true (sym e))
      go false p true q false r true t e =
          let le = ltb-false a.finish b.finish p in
          let lg = ltb-false a.group b.group r in
          let lt = ltb-false a.turn b.turn e in
          omega arith
      go false p true q false r false t e =
          let le = ltb-false a.finish b.finish p in
          let lg = ltb-false a.group b.group r in
          record { fin = le; grp = λ h. lg; trn = λ h k. absurd (eqb-false a.group b.group t (omega arith)) }
      go false p false q z r u t e =
          let le = ltb-false a.finish b.finish p in
          record { fin = le; grp = λ h. absurd (eqb-false a.finish b.finish q (omega arith)); trn = λ h. absurd (eqb-false a.finish b.finish q (omega arith)) }

module _ (v : ℕ) (order : List ℕ) where
  module _ (i : ℕ) (l : Lane) (ls : List Lane) where
    -- what is so of the rest of the list is so of the whole, one place on
    shift : (c : Candidate) (k : ℕ) → AheadOf v order c (suc i) ls k → AheadOf v order c i (l ∷ ls) (suc k)
    shift c k h = rw (add-suc, ← suc-add) h

    -- the choice of the rest is that of the whole, where the first lane is not ahead of it
    later : (c : Candidate) → Chosen v order (suc i) ls c → (eligible v l ≡ true → AheadOf v order c i (l ∷ ls) 0) → Chosen v order i (l ∷ ls) c
    later c h z = record {
      at = suc h.at;
      num = omega (arith, h.num);
      is = h.is;
      fin = h.fin;
      grp = h.grp;
      trn = rw (add-suc, ← suc-add) h.trn;
      least = elim [ zero ↦ z | suc k ↦ λ t. shift c k (h.least k t) ];
    }

    skip : (o : Option Candidate) → eligible v l ≡ false → Choice v order (suc i) ls o → Choice v order i (l ∷ ls) o
    skip none e h = elim [ zero ↦ e | suc k ↦ h k ]
    skip (some c) e h = later c h (λ t. absurd (false≢true (sym e ∙ t)))

    abbrev here : Candidate
    here = record { lane = i; finish = finish_r l; group = group l.given; turn = place i order }

    first : eligible v l ≡ true → ((k : ℕ) → eligible v (get_or ls k no_lane) ≡ true → AheadOf v order here (suc i) ls k) → Chosen v order i (l ∷ ls) here
    first e h = record {
      at = 0;
      num = omega arith;
      is = e;
      fin = refl;
      grp = refl;
      trn = rw add-zero;
      least = elim [ zero ↦ λ t. rw add-zero (omega arith) | suc k ↦ λ t. shift here k (h k t) ];
    }

    keep : (o : Option Candidate) → eligible v l ≡ true → Choice v order (suc i) ls o → Choice v order i (l ∷ ls) (best here o)
    unfolding best
    keep none e h = first e (λ k t. absurd (false≢true (sym (h k) ∙ t)))
    keep (some d) e h =
        if-ind (Chosen v order i (l ∷ ls)) (before d here) d here
        (λ b. later d h (λ t. rw add-zero (before-true d here b)))
        (λ b. first e (λ k t.
        ahead-trans (finish_r l) (group l.given) (place i order) d.finish d.group d.turn
        (finish_r (get_or ls k no_lane)) (group (get_or ls k no_lane).given) (place (suc i + k) order) (before-false d here b) (h.least k t)))

  pub chosen : (i : ℕ) (ls : List Lane) → Choice v order i ls (choose_from v order i ls)
  unfolding choose_from eligible
  chosen i [] = λ k. refl
  chosen i (l ∷ ls) =
      if-ind (Choice v order i (l ∷ ls)) (eligible v l) _ _
      (λ e. keep i l ls (choose_from v order (suc i) ls) e (chosen (suc i) ls))
      (λ e. skip i l ls (choose_from v order (suc i) ls) e (chosen (suc i) ls))

pub choice-rule : ChoiceRule
unfolding ChoiceRule choose
choice-rule s = chosen s.clock s.order 0 s.lanes
