-- A lane is put at the end of its list, or taken off its front: the lists still are the tie order's lanes, list by list. Assumes nothing.
use Prim.Native.Nat.{ℕ, ◌+◌, ◌%◌, ◌≤◌, ◌<◌}
use native.Mathlib.Omega.{arith}
use mathlib.Core.Path.{◌≡◌, refl, sym, ap, subst, ◌∙◌}
use mathlib.Core.Bool.{Bool, true, false, false≢true}
use mathlib.Core.Logic.{◌⊎◌, inl, inr, ⊎_elim}
use mathlib.Core.List.{List, [], ◌∷◌, ◌++◌, append-nil}
use lib.Dec.{eqb}
use lib.ListN.{length, get_or, set}
use borrow.Author.Tests.{eqb-true, eq-eqb}
use Rattle.units.specs.Plain.{times, without}
use Rattle.units.proofs.Bools.{and_parts, and-made, not-passed}
use Rattle.units.proofs.Lists.{set_cases}
use Rattle.rules.specs.State.{Lane, State, no_lane, group, holds, lane_at}
use Rattle.rules.specs.Sets.{in_group}
use Rattle.rules.proofs.GroupRule.{in_group_lem, is-in-group}
use Rattle.rules.proofs.Ties.{times-same}
use Rattle.filing.specs.Filing.{sift, slot_at, in_list, Lists, Filing}
use Rattle.filing.proofs.Sift.{sift-append, sift-ext, sift-without, without-none, without-first, times-sift}

-- ---- a lane and its list

pub record Stands (B g b : ℕ) (l : Lane) : Type 0 where
  pub held : holds l ≡ true
  pub grp : group l.given ≡ g
  pub at : slot_at B l % 32 ≡ b

pub stands : (B g b : ℕ) (l : Lane) → in_list B g b l ≡ true → Stands B g b l
unfolding in_list
stands B g b l e =
    let p = and_parts (in_group g l) (eqb (slot_at B l % 32) b) e in
    let q = in_group_lem g l p.0 in
    record { held = q.0; grp = q.1; at = eqb-true (slot_at B l % 32) b p.1 }

pub is-standing : (B g b : ℕ) (l : Lane) → Stands B g b l → in_list B g b l ≡ true
unfolding in_list
is-standing B g b l s =
    and-made (in_group g l) (eqb (slot_at B l % 32) b) (subst (λ (i : ℕ). in_group i l ≡ true) s.grp (is-in-group l s.held)) (eq-eqb (slot_at B l % 32) b s.at)

-- it stands in one list only
pub elsewhere : (B g b i c : ℕ) (l : Lane) → in_list B g b l ≡ true → (i ≡ g → c ≡ b → ⊥) → in_list B i c l ≡ false
elsewhere B g b i c l e ne =
    not-passed (in_list B i c l) (λ f.
    let x = stands B g b l e in
    let y = stands B i c l f in
    ne (sym y.grp ∙ x.grp) (sym y.at ∙ x.at))

pub idle-nowhere : (B i c : ℕ) (l : Lane) → holds l ≡ false → in_list B i c l ≡ false
idle-nowhere B i c l h = not-passed (in_list B i c l) (λ f. false≢true (sym h ∙ (stands B i c l f).held))

-- ---- what changed in the lists

pub record Changed (lists lists' : Lists) (g b : ℕ) (l : List ℕ) : Type 0 where
  pub list : lists' g b ≡ l
  pub others : (i c : ℕ) → 16 ≤ i → i ≤ 31 → c < 32 → (i ≡ g → c ≡ b → ⊥) → lists' i c ≡ lists i c

pub same_or_not : (i g c b : ℕ) → ((i ≡ g) × (c ≡ b)) ⊎ (i ≡ g → c ≡ b → ⊥)
same_or_not i g c b = go (eqb i g) refl (eqb c b) refl
  where
    go : (x : Bool) → eqb i g ≡ x → (y : Bool) → eqb c b ≡ y → ((i ≡ g) × (c ≡ b)) ⊎ (i ≡ g → c ≡ b → ⊥)
    go true e true f = inl (eqb-true i g e, eqb-true c b f)
    go true e false f = inr (λ p q. false≢true (sym f ∙ eq-eqb c b q))
    go false e y f = inr (λ p q. false≢true (sym e ∙ eq-eqb i g p))

abbrev pub test : ℕ → ℕ → ℕ → List Lane → ℕ → Bool
test B g b ls k = in_list B g b (get_or ls k no_lane)

-- a lane that is not in a list of numbers may change
pub sift-set : (B : ℕ) (ls : List Lane) (k : ℕ) (l : Lane) (g b : ℕ) (xs : List ℕ) → k < length ls → times k xs ≡ 0 → sift (test B g b (set ls k l)) xs ≡ sift (test B g b ls) xs
sift-set B ls k l g b xs inside none =
    sift-ext (test B g b (set ls k l)) (test B g b ls) xs (λ j h.
    set_cases (λ (m : Lane). in_list B g b m ≡ test B g b ls j) ls k j l no_lane inside
    (λ e. absurd (omega (arith, none, ap (λ (i : ℕ). times i xs) e)))
    (λ ne. refl))

pub set_here : (B : ℕ) (ls : List Lane) (k : ℕ) (l : Lane) (g b : ℕ) → k < length ls → test B g b (set ls k l) k ≡ in_list B g b l
set_here B ls k l g b inside =
    set_cases (λ (m : Lane). in_list B g b m ≡ in_list B g b l) ls k k l no_lane inside (λ e. refl) (λ ne. absurd (ne refl))

-- ---- the two moves

-- lane k, which is in no list, gets the S of l and goes to the end of its list
pub insert-filed : (B : ℕ) (s s' : State) (lists lists' : Lists) (k g b : ℕ) (l : Lane) → Filing B lists s → k < length s.lanes → times k s.order ≡ 0 → in_list B g b l ≡ true
    → s'.lanes ≡ set s.lanes k l → s'.order ≡ s.order ++ (k ∷ [])
    → Changed lists lists' g b (lists g b ++ (k ∷ [])) → 16 ≤ g → g ≤ 31 → b < 32 → Filing B lists' s'
unfolding sift
insert-filed B s s' lists lists' k g b l filed inside none is el eo ch lo hi hb i c x y z =
    let p = test B i c (set s.lanes k l) in
    let right : sift (λ j. in_list B i c (lane_at s' j)) s'.order ≡ sift p s.order ++ sift p (k ∷ []) = rw (el, eo) (sift-append p s.order (k ∷ [])) in
    let front : sift p s.order ≡ lists i c = sift-set B s.lanes k l i c s.order inside none ∙ sym (filed i c x y z) in
    let pk : p k ≡ in_list B i c l = set_here B s.lanes k l i c inside in
    ⊎_elim
    (λ (q : (i ≡ g) × (c ≡ b)).
    let pt : p k ≡ true = pk ∙ subst (λ (i : ℕ). in_list B i c l ≡ true) (sym q.0) (subst (λ (c : ℕ). in_list B g c l ≡ true) (sym q.1) is) in
    let new : lists' i c ≡ lists i c ++ (k ∷ []) = subst (λ (i : ℕ). lists' i c ≡ lists i c ++ (k ∷ [])) (sym q.0) (subst (λ (c : ℕ). lists' g c ≡ lists g c ++ (k ∷ [])) (sym q.1) ch.list) in
    new ∙ sym (right ∙ rw (pt, front)))
    (λ (ne : i ≡ g → c ≡ b → ⊥). ch.others i c x y z ne ∙ sym (right ∙ rw (pk ∙ elsewhere B g b i c l is ne, front, append-nil)))
    (same_or_not i g c b)

-- lane k, which stands first in its list, leaves it and holds no more
pub remove-filed : (B : ℕ) (s s' : State) (lists lists' : Lists) (k g b : ℕ) (l : Lane) (rest : List ℕ) → Filing B lists s → k < length s.lanes → times k s.order ≡ 1 → in_list B g b (lane_at s k) ≡ true
    → lists g b ≡ k ∷ rest → s'.lanes ≡ set s.lanes k l → s'.order ≡ without k s.order
    → Changed lists lists' g b rest → 16 ≤ g → g ≤ 31 → b < 32 → Filing B lists' s'
remove-filed B s s' lists lists' k g b l rest filed inside once is first el eo ch lo hi hb i c x y z =
    let p = test B i c s.lanes in
    let right : sift (λ j. in_list B i c (lane_at s' j)) s'.order ≡ without k (lists i c) = rw (el, eo) (sift-set B s.lanes k l i c (without k s.order) inside (times-same k s.order) ∙ sift-without p k s.order ∙ ap (without k) (sym (filed i c x y z))) in
    ⊎_elim
    (λ (q : (i ≡ g) × (c ≡ b)).
    let here : lists i c ≡ k ∷ rest = subst (λ (i : ℕ). lists i c ≡ k ∷ rest) (sym q.0) (subst (λ (c : ℕ). lists g c ≡ k ∷ rest) (sym q.1) first) in
    let new : lists' i c ≡ rest = subst (λ (i : ℕ). lists' i c ≡ rest) (sym q.0) (subst (λ (c : ℕ). lists' g c ≡ rest) (sym q.1) ch.list) in
    let count : times k (k ∷ rest) ≡ 1 = ap (times k) (sym first ∙ filed g b lo hi hb) ∙ times-sift (test B g b s.lanes) k s.order ∙ simp is once in
    new ∙ sym (right ∙ ap (without k) here ∙ without-first k rest count))
    (λ (ne : i ≡ g → c ≡ b → ⊥).
    let none : times k (lists i c) ≡ 0 = ap (times k) (filed i c x y z) ∙ times-sift p k s.order ∙ simp (elsewhere B g b i c (lane_at s k) is ne) in
    ch.others i c x y z ne ∙ sym (right ∙ without-none k (lists i c) none))
    (same_or_not i g c b)
