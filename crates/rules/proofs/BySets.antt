-- What the four words mean, of every good state; and the choice through them (first set bit of eligible ready, least R in that group, earliest in the tie
-- order) is the plain choice. Assumes nothing.
use Prim.Native.Nat.{ℕ, suc, ◌+◌, ◌*◌, ◌^◌, ◌≤◌, ◌<◌}
use native.Mathlib.Nat.{zero-add}
use native.Mathlib.Omega.{arith}
use mathlib.Core.Path.{◌≡◌, refl, sym, ap, subst, ◌∙◌}
use mathlib.Core.Bool.{Bool, true, false, false≢true}
use mathlib.Core.Option.{Option, none, some}
use mathlib.Core.List.{List, [], ◌∷◌}
use lib.Dec.{eqb}
use borrow.Author.Tests.{eqb-true, eq-eqb, ne_eqb}
use Rattle.std.specs.Prelude.{if◌then◌else◌}
use Rattle.units.specs.Plain.{place, times}
use Rattle.units.proofs.Bools.{and_parts, and-made}
use Rattle.rules.specs.State.{Setting, Lane, State, group, slot, start_r, finish_r, holds, eligible, lane_at, setup_of}
use Rattle.rules.specs.Choice.{Candidate, choose}
use Rattle.rules.specs.Sets.{groups, in_group, group_start, finish_from, group_finish, first_group, SetsRule}
use Rattle.rules.specs.Good.{Good}
pub use Rattle.rules.specs.BySets.{stands_at, first_in, lane_of_group, choose_by_sets, candidate_lane}
use Rattle.rules.specs.BySets.{SameChoice}
use Rattle.rules.proofs.Lane.{group-most}
use Rattle.rules.proofs.Lowest.{LowOf}
use Rattle.rules.proofs.Chosen.{Chosen, Choice, chosen}
use Rattle.rules.proofs.Keep.{eligible-is, is-eligible}
use Rattle.rules.proofs.SameSetup.{setting-lane}
use Rattle.rules.proofs.Figures.{longest-most, framing-most}
use Rattle.rules.proofs.GroupRule.{in_group_lem, is-in-group, group-low, never-fall, chosen-finish, first-bit-group, parted}

-- ---- the first in a list of a test: the one of least place

first-in : (p : ℕ → Bool) (js : List ℕ) (j : ℕ) → p j ≡ true → 0 < times j js → ((k : ℕ) → p k ≡ true → place j js ≤ place k js) → first_in p js ≡ some j
unfolding first_in place
first-in p [] j e h least = absurd (omega arith)
first-in p (x ∷ xs) j e h least = go (p x) refl (first-in p xs j e)
  where
    go : (b : Bool) → p x ≡ b → (0 < times j xs → ((k : ℕ) → p k ≡ true → place j xs ≤ place k xs) → first_in p xs ≡ some j) → (if b then some x else first_in p xs) ≡ some j
    go true q r = near (eqb j x) refl (simp (eq-eqb x x refl) at (least x q))
      where
        near : (b : Bool) → eqb j x ≡ b → (if b then 0 else suc (place j xs)) ≤ 0 → ◌≡◌ {A = Option ℕ} (some x) (some j)
        near true t l = ap some (sym (eqb-true j x t))
        near false t l = absurd (omega arith)
    go false q r =
        r (omega (arith, simp (ne_eqb x j (λ t. apart j e (sym t))) at h))
        (λ k f. omega (arith, simp (ne_eqb j x (apart j e), ne_eqb k x (apart k f)) at (least k f)))
      where
        apart : (k : ℕ) → p k ≡ true → k ≡ x → ⊥
        apart k f t = false≢true (sym q ∙ ap p (sym t) ∙ f)

stands : (i r : ℕ) (l : Lane) → stands_at i r l ≡ true → (holds l ≡ true) × (group l.given ≡ i) × (start_r l ≡ r)
unfolding stands_at
stands i r l e =
    let b = and_parts (in_group i l) (eqb (start_r l) r) e in
    let g = in_group_lem i l b.0 in
    (g.0, g.1, eqb-true (start_r l) r b.1)

is-standing : (l : Lane) → holds l ≡ true → stands_at (group l.given) (start_r l) l ≡ true
unfolding stands_at
is-standing l e = and-made (in_group (group l.given) l) (eqb (start_r l) (start_r l)) (is-in-group l e) (eq-eqb (start_r l) (start_r l) refl)

module _ (s : State) (good : Good s) where
  pub group-small : (k : ℕ) → group (lane_at s k).given < groups
  group-small k =
      omega (
        arith,
        group-most (lane_at s k).given (subst (λ (g : Setting). g.longest ≤ 1500) (setting-lane s k) (longest-most (setup_of s) good.setup k))
            (subst (λ (g : Setting). g.framing ≤ 64) (setting-lane s k) (framing-most (setup_of s) good.setup k)),
      )

  -- ---- no lane is eligible: then none holds a record, and no group has a start

  none-chosen : ((k : ℕ) → eligible s.clock (lane_at s k) ≡ false) → choose_by_sets s ≡ none
  unfolding choose_by_sets lane_of_group
  none-chosen h = go (group_start s.lanes (first_group s)) (group-low s.lanes (first_group s))
    where
      go : (o : Option ℕ) → LowOf (in_group (first_group s)) s.lanes o → lane_of_group s (first_group s) o ≡ none
      go none low = refl
      go (some r) low = let e = good.live low.at (in_group_lem (first_group s) (lane_at s low.at) low.is).0 in absurd (false≢true (sym (h e.0) ∙ e.1))

  -- ---- the chosen lane

  module _ (c : Candidate) (h : Chosen s.clock s.order 0 s.lanes c) where
    at-lane : h.at ≡ c.lane
    at-lane = omega (arith, h.num)

    is : eligible s.clock (lane_at s c.lane) ≡ true
    is = subst (λ (n : ℕ). eligible s.clock (lane_at s n) ≡ true) at-lane h.is

    is-group : c.group ≡ group (lane_at s c.lane).given
    is-group = h.grp ∙ ap (λ (n : ℕ). group (lane_at s n).given) at-lane

    is-finish : c.finish ≡ finish_r (lane_at s c.lane)
    is-finish = h.fin ∙ ap (λ (n : ℕ). finish_r (lane_at s n)) at-lane

    small : c.group < groups
    small = omega (arith, is-group, group-small c.lane)

    first_group_lem : first_group s ≡ c.group
    first_group_lem = first-bit-group s.clock s.lanes s.order 0 c h small

    -- its R is its group's start
    its-start : group_start s.lanes c.group ≡ some (start_r (lane_at s c.lane))
    unfolding group_finish finish_from slot
    its-start = go (group_start s.lanes c.group) refl (group-low s.lanes c.group)
      where
        l : Lane
        l = lane_at s c.lane

        fin : (o : Option ℕ) → group_start s.lanes c.group ≡ o → finish_from c.group o ≡ start_r l + 2 * 2 ^ group l.given
        fin o e = ap (finish_from c.group) (sym e) ∙ chosen-finish s.clock s.lanes s.order 0 c h ∙ is-finish

        go : (o : Option ℕ) → group_start s.lanes c.group ≡ o → LowOf (in_group c.group) s.lanes o → group_start s.lanes c.group ≡ some (start_r l)
        go none e low = absurd (false≢true (sym (low c.lane) ∙ subst (λ (i : ℕ). in_group i l ≡ true) (sym is-group) (is-in-group l (eligible-is s.clock l is).0)))
        go (some r) e low = e ∙ ap some (omega (arith, fin (some r) e, ap (λ (i : ℕ). 2 ^ i) is-group))

    -- no lane of its group and R stands before it in the tie order
    earliest : (k : ℕ) → stands_at c.group (start_r (lane_at s c.lane)) (lane_at s k) ≡ true → place c.lane s.order ≤ place k s.order
    unfolding slot
    earliest k e =
        let t = stands c.group (start_r (lane_at s c.lane)) (lane_at s k) e in
        let el = is-eligible s.clock (lane_at s k) t.0 (omega (arith, t.2, (eligible-is s.clock (lane_at s c.lane) is).1)) in
        let a = h.least k el in
        let pow : 2 ^ group (lane_at s k).given ≡ 2 ^ group (lane_at s c.lane).given = ap (λ (i : ℕ). 2 ^ i) (t.1 ∙ is-group) in
        omega (
          arith,
          a.trn (omega (arith, is-finish, t.2)) (omega (arith, t.1)),
          h.trn,
          ap (λ (n : ℕ). place (0 + n) s.order) at-lane,
          ap (λ (n : ℕ). place n s.order) (zero-add k),
          ap (λ (n : ℕ). place n s.order) (zero-add c.lane),
        )

    once : 0 < times c.lane s.order
    once = omega (arith, simp (eligible-is s.clock (lane_at s c.lane) is).0 at (good.order c.lane))

    found : choose_by_sets s ≡ some c.lane
    unfolding choose_by_sets lane_of_group
    found =
        rw (first_group_lem, its-start)
        (first-in (λ k. stands_at c.group (start_r (lane_at s c.lane)) (lane_at s k)) s.order c.lane
        (subst (λ (i : ℕ). stands_at i (start_r (lane_at s c.lane)) (lane_at s c.lane) ≡ true) (sym is-group) (is-standing (lane_at s c.lane) (eligible-is s.clock (lane_at s c.lane) is).0))
        once earliest)

  by-sets : (o : Option Candidate) → Choice s.clock s.order 0 s.lanes o → choose_by_sets s ≡ candidate_lane o
  by-sets none h = none-chosen h
  by-sets (some c) h = found c h

  first-is : (o : Option Candidate) → Choice s.clock s.order 0 s.lanes o → (c : Candidate) → o ≡ some c → first_group s ≡ group (lane_at s c.lane).given
  first-is none h c e = let z : ◌≡◌ {A = ℕ} 0 1 = cc in absurd (omega arith)
  first-is (some d) h c e = let same : d ≡ c = cc in first_group_lem d h ∙ is-group d h ∙ ap (λ (x : Candidate). group (lane_at s x.lane).given) same

  pub sets-rule : SetsRule s
  unfolding choose
  sets-rule = record {
    parted = parted s.clock s.lanes;
    first = first-is (choose s) (chosen s.clock s.order 0 s.lanes);
    rising = never-fall s.clock s.lanes;
  }

  -- the choice through the sets is the plain choice
  pub same-choice : choose_by_sets s ≡ candidate_lane (choose s)
  unfolding choose
  same-choice = by-sets (choose s) (chosen s.clock s.order 0 s.lanes)

pub the-same-choice : SameChoice
unfolding SameChoice
the-same-choice s good = same-choice s good
