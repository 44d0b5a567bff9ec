-- The choice by the groups' starts and the lists' lists is the plain choice. Assumes nothing.
use Prim.Native.Nat.{ℕ, ◌+◌, ◌*◌, ◌/◌, ◌%◌, ◌^◌, ◌≤◌, ◌<◌}
use native.Mathlib.Nat.{le_antisymm}
use native.Mathlib.Omega.{arith}
use mathlib.Core.Path.{◌≡◌, refl, sym, ap, subst, ◌∙◌}
use mathlib.Core.Bool.{Bool, true, false, ◌&&◌, false≢true}
use mathlib.Core.Option.{Option, none, some}
use lib.Dec.{eqb}
use borrow.Author.Tests.{eq-eqb, ne_eqb}
use Rattle.units.proofs.Lists.{same_or}
use Rattle.rules.specs.State.{Lane, State, group, slot, start_r, holds, eligible, lane_at}
use Rattle.rules.specs.Choice.{Candidate, choose}
use Rattle.rules.specs.Sets.{in_group, group_start, first_group}
use Rattle.rules.specs.Good.{Good}
use Rattle.rules.proofs.Lowest.{LowOf, LowestOf}
use Rattle.rules.proofs.GroupRule.{in_group_lem, group-low}
use Rattle.rules.proofs.Keep.{eligible-is, is-eligible}
use Rattle.rules.proofs.Chosen.{Choice, chosen}
use Rattle.rules.specs.BySets.{stands_at, lane_of_group, choose_by_sets, candidate_lane}
use Rattle.rules.proofs.BySets.{sets-rule, same-choice}
use Rattle.filing.specs.Filing.{front_of, Whole, slot_at, in_list, Lists, Agrees, LeastGroup}
use Rattle.filing.proofs.Sift.{sift-ext, first-sift}
use Rattle.filing.proofs.Slots.{start-slot, no_less, group-held, window}
use Rattle.filing.proofs.LeastStart.{group_of}

module _ (B : ℕ) (wh : Whole B) (s : State) (good : Good s) (lists : Lists) (starts : ℕ → Option ℕ) (ag : Agrees B lists starts s) where
  -- ---- the first lane of the list of a group's start

  module _ (g r : ℕ) (hi : g ≤ 31) (e : group_start s.lanes g ≡ some r) where
    abbrev a : ℕ
    a = (r + B) / 2 ^ g

    -- of the group's lanes those that stand at the start, and those of the start's list, are the same
    same_place : (l : Lane) → group l.given ≡ g → a ≤ slot_at B l → slot_at B l < a + 32 → eqb (start_r l) r ≡ eqb (slot_at B l % 32) (a % 32)
    same_place l q lo up =
        let r-is = (window s good B g r wh e).1 in
        let l-is = start-slot B g l wh hi q in
        same_or {P = eqb (start_r l) r ≡ eqb (slot_at B l % 32) (a % 32)} (slot_at B l) a
        (λ x. eq-eqb (start_r l) r (omega (arith, l-is, ap (λ (y : ℕ). y * 2 ^ g) x, r-is)) ∙ sym (eq-eqb (slot_at B l % 32) (a % 32) (ap (λ (y : ℕ). y % 32) x)))
        (λ ne.
        ne_eqb (start_r l) r (λ y. ne (le_antisymm (no_less g (slot_at B l) a (omega (arith, y, r-is, l-is))) lo))
        ∙ sym (ne_eqb (slot_at B l % 32) (a % 32) (λ y. ne (omega arith))))

    same_test : (k : ℕ) → stands_at g r (lane_at s k) ≡ in_list B g (a % 32) (lane_at s k)
    unfolding stands_at in_list
    same_test k = go (in_group g (lane_at s k)) refl
      where
        go : (b : Bool) → in_group g (lane_at s k) ≡ b → (b && eqb (start_r (lane_at s k)) r) ≡ (b && eqb (slot_at B (lane_at s k) % 32) (a % 32))
        go true h = let w = (window s good B g r wh e).0 in same_place (lane_at s k) (in_group_lem g (lane_at s k) h).1 (w.from k h) (w.to k h)
        go false h = refl

    pub first-of-list : 16 ≤ g → lane_of_group s g (some r) ≡ front_of (lists g (a % 32))
    unfolding lane_of_group
    first-of-list lo =
        first-sift (λ k. stands_at g r (lane_at s k)) s.order
        ∙ ap front_of (sift-ext (λ k. stands_at g r (lane_at s k)) (λ k. in_list B g (a % 32) (lane_at s k)) s.order (λ k h. same_test k) ∙ sym (ag.filed g (a % 32) lo hi (omega arith)))

  -- ---- the group

  module _ (g r : ℕ) (n : LeastGroup starts s.clock g r) where
    start : group_start s.lanes g ≡ some r
    start = sym (ag.started g n.low n.high) ∙ n.start

    lead : LowestOf (in_group g) s.lanes r
    lead = subst (LowOf (in_group g) s.lanes) start (group-low s.lanes g)

    lead-in : (holds (lane_at s lead.at) ≡ true) × (group (lane_at s lead.at).given ≡ g)
    lead-in = in_group_lem g (lane_at s lead.at) lead.is

    lead-eligible : eligible s.clock (lane_at s lead.at) ≡ true
    lead-eligible = is-eligible s.clock (lane_at s lead.at) lead-in.0 (omega (arith, lead.start, n.reached))

    chosen-group : (o : Option Candidate) → choose s ≡ o → Choice s.clock s.order 0 s.lanes o → first_group s ≡ g
    unfolding slot
    chosen-group none e h = absurd (false≢true (sym (h lead.at) ∙ lead-eligible))
    chosen-group (some c) e h =
        let l = lane_at s h.at in
        let el = eligible-is s.clock l h.is in
        let i = group l.given in
        let bounds = group-held s good h.at el.0 in
        let q = group_of s starts ag.started (group-held s good) h.at el.0 in
        let pow : 2 ^ group (lane_at s lead.at).given ≡ 2 ^ g = ap (λ (x : ℕ). 2 ^ x) lead-in.1 in
        let no_more = h.least lead.at lead-eligible in
        let below = n.finish i q.0 bounds.0 bounds.1 q.1 (omega (arith, q.2, el.1)) in
        let equal : r + 2 * 2 ^ g ≡ q.0 + 2 * 2 ^ i = omega (arith, below, no_more.fin, h.fin, lead.start, pow, q.2) in
        let up = n.lowest i q.0 bounds.0 bounds.1 q.1 (omega (arith, q.2, el.1)) equal in
        let down = no_more.grp (omega (arith, below, no_more.fin, h.fin, lead.start, pow, q.2)) in
        let same : i ≡ g = omega (arith, up, down, h.grp, lead-in.1) in
        (sets-rule s good).first c e ∙ ap (λ (k : ℕ). group (lane_at s k).given) (omega (arith, h.num)) ∙ same

    -- the chosen lane is the first of the list of that group's start
    pub choice-is : front_of (lists g ((r + B) / 2 ^ g % 32)) ≡ candidate_lane (choose s)
    unfolding choose choose_by_sets
    choice-is =
        let first : first_group s ≡ g = chosen-group (choose s) refl (chosen s.clock s.order 0 s.lanes) in
        let by : lane_of_group s (first_group s) (group_start s.lanes (first_group s)) ≡ candidate_lane (choose s) = same-choice s good in
        sym (first-of-list g r n.high start n.low) ∙ ap (lane_of_group s g) (sym start) ∙ ap (λ (i : ℕ). lane_of_group s i (group_start s.lanes i)) (sym first) ∙ by

  -- no group's start is at most V
  pub choice-none : ((i q : ℕ) → 16 ≤ i → i ≤ 31 → starts i ≡ some q → s.clock < q) → none ≡ candidate_lane (choose s)
  unfolding choose
  choice-none f = go (choose s) (chosen s.clock s.order 0 s.lanes)
    where
      go : (o : Option Candidate) → Choice s.clock s.order 0 s.lanes o → none ≡ candidate_lane o
      go none h = refl
      go (some c) h =
          let el = eligible-is s.clock (lane_at s h.at) h.is in
          let bounds = group-held s good h.at el.0 in
          let q = group_of s starts ag.started (group-held s good) h.at el.0 in
          absurd (omega (arith, f (group (lane_at s h.at).given) q.0 bounds.0 bounds.1 q.1, q.2, el.1))
