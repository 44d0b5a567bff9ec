-- The group rule, once over the index: the chosen lane's group is the first of the eligible groups that are not blocked (R4.7), along these the finishes stay
-- or rise (R4.8), and a group that holds records passes just one of the four tests, any other none (R4.6). Assumes nothing.
use Prim.Native.Nat.{ℕ, zero, suc, ◌+◌, ◌^◌, ◌≤◌, ◌<◌}
use native.Mathlib.Omega.{arith}
use native.Mathlib.Nat.{eq-or-lt_of_le, le_of_suc-le-suc, not-suc-le-zero, le_antisymm}
use mathlib.Core.Path.{◌≡◌, refl, sym, ap, ◌∙◌}
use mathlib.Core.Bool.{Bool, true, false, not, ◌&&◌, false≢true}
use mathlib.Core.Logic.{◌⊎◌, inl, inr}
use mathlib.Core.Option.{Option, none, some}
use mathlib.Core.List.{List}
use lib.Dec.{leb, ltb, eqb}
use lib.ListN.{get_or}
use lib.Count.{count_trailing_zeros}
use borrow.Author.Tests.{leb-true, le-leb, ltb-true, ltb-false, lt-ltb, eqb-true, eq-eqb, not-true}
use Rattle.rules.specs.State.{Lane, group, slot, start_r, finish_r, holds, eligible, no_lane}
use Rattle.rules.specs.Choice.{Candidate}
use Rattle.units.specs.Plain.{any_below, word_of, count}
use Rattle.units.proofs.Bools.{and_parts, and-made, or_parts, not-passed}
use Rattle.rules.specs.Sets.{groups, in_group, group_start, reached, finish_from, group_eligible, group_finish, blocks, blocked, ready, ineligible_ready, eligible_blocked, ineligible_blocked, group_holds, held_start}
use Rattle.rules.proofs.Lowest.{LowOf, lowest-of}
use Rattle.rules.proofs.Chosen.{Chosen}
use Rattle.rules.proofs.Keep.{eligible-is, is-eligible}
use Rattle.rules.proofs.Word.{first_bit}

pub any_below-at : (p : ℕ → Bool) (n k : ℕ) → any_below p n ≡ false → k < n → p k ≡ false
unfolding any_below
any_below-at p zero k e h = absurd (not-suc-le-zero h)
any_below-at p (suc n) k e h = go (eq-or-lt_of_le (le_of_suc-le-suc h)) (any_below-at p n k)
  where
    go : (k ≡ n) ⊎ (k < n) → (any_below p n ≡ false → k < n → p k ≡ false) → p k ≡ false
    go (inl q) r = ap p q ∙ (or_parts (p n) (any_below p n) e).0
    go (inr q) r = r (or_parts (p n) (any_below p n) e).1 q

pub any_below-none : (p : ℕ → Bool) (n : ℕ) → ((k : ℕ) → p k ≡ false) → any_below p n ≡ false
unfolding any_below
any_below-none p zero f = refl
any_below-none p (suc n) f = simp (f n, any_below-none p n f)

pub in_group_lem : (i : ℕ) (l : Lane) → in_group i l ≡ true → (holds l ≡ true) × (group l.given ≡ i)
unfolding in_group
in_group_lem i l e = let b = and_parts (holds l) (eqb (group l.given) i) e in (b.0, eqb-true (group l.given) i b.1)

pub is-in-group : (l : Lane) → holds l ≡ true → in_group (group l.given) l ≡ true
unfolding in_group
is-in-group l e = and-made (holds l) (eqb (group l.given) (group l.given)) e (eq-eqb (group l.given) (group l.given) refl)

pub group-low : (ls : List Lane) (i : ℕ) → LowOf (in_group i) ls (group_start ls i)
unfolding in_group group_start
group-low ls i = lowest-of (in_group i) refl ls

module _ (v : ℕ) (ls : List Lane) where
  -- an eligible group has an eligible lane that has the group's finish
  record Lead (i : ℕ) : Type 0 where
    at : ℕ
    is : eligible v (get_or ls at no_lane) ≡ true
    of : group (get_or ls at no_lane).given ≡ i
    fin : finish_r (get_or ls at no_lane) ≡ group_finish ls i

  lead : (i : ℕ) → group_eligible v ls i ≡ true → Lead i
  unfolding group_eligible group_finish slot reached finish_from
  lead i e = go (group_start ls i) refl (group-low ls i) e
    where
      go : (o : Option ℕ) → group_start ls i ≡ o → LowOf (in_group i) ls o → reached v o ≡ true → Lead i
      go none q h t = absurd (false≢true t)
      go (some r) q h t =
          let l = get_or ls h.at no_lane in
          let b = in_group_lem i l h.is in
          record {
            at = h.at;
            is = is-eligible v l b.0 (omega (arith, leb-true r v t, h.start));
            of = b.1;
            fin = omega (arith, h.start, ap (finish_from i) q, ap (λ (g : ℕ). 2 ^ g) b.1);
          }

  -- the group of an eligible lane is eligible, and its finish is at most the lane's
  own-group : (a : ℕ) → eligible v (get_or ls a no_lane) ≡ true
      → (group_eligible v ls (group (get_or ls a no_lane).given) ≡ true) × (group_finish ls (group (get_or ls a no_lane).given) ≤ finish_r (get_or ls a no_lane))
  unfolding group_eligible group_finish slot reached finish_from
  own-group a e = go (group_start ls i) refl (group-low ls i)
    where
      l : Lane
      l = get_or ls a no_lane

      i : ℕ
      i = group l.given

      b : (holds l ≡ true) × (start_r l ≤ v)
      b = eligible-is v l e

      go : (o : Option ℕ) → group_start ls i ≡ o → LowOf (in_group i) ls o → (reached v (group_start ls i) ≡ true) × (finish_from i (group_start ls i) ≤ finish_r l)
      go none q h = absurd (false≢true (sym (h a) ∙ is-in-group l b.0))
      go (some r) q h =
          let low = h.bound a (is-in-group l b.0) in
          (ap (reached v) q ∙ le-leb r v (omega (arith, b.1)), omega (arith, ap (finish_from i) q))

  -- a group that is not blocked has no later finish than an eligible group of higher index
  free-order : (i k : ℕ) → blocked v ls i ≡ false → group_eligible v ls k ≡ true → i < k → k < groups → group_finish ls i ≤ group_finish ls k
  unfolding blocked blocks
  free-order i k f e lt small =
      ltb-false (group_finish ls k) (group_finish ls i)
      (not-passed (ltb (group_finish ls k) (group_finish ls i)) (λ t.
      false≢true (sym (any_below-at (blocks v ls i) groups k f small)
      ∙ and-made (ltb i k) (group_eligible v ls k && ltb (group_finish ls k) (group_finish ls i)) (lt-ltb i k lt) (and-made (group_eligible v ls k) (ltb (group_finish ls k) (group_finish ls i)) e t))))

  -- finishes never fall along the eligible-ready word
  pub never-fall : (i k : ℕ) → i < k → k < groups → ready v ls i ≡ true → ready v ls k ≡ true → group_finish ls i ≤ group_finish ls k
  unfolding ready
  never-fall i k lt small p q =
      free-order i k (not-true (blocked v ls i) (and_parts (group_eligible v ls i) (not (blocked v ls i)) p).1) (and_parts (group_eligible v ls k) (not (blocked v ls k)) q).0 lt small

  module _ (order : List ℕ) (j : ℕ) (c : Candidate) (h : Chosen v order j ls c) where
    own : (group_eligible v ls c.group ≡ true) × (group_finish ls c.group ≤ c.finish)
    own = rw (h.fin, h.grp) (own-group h.at h.is)

    -- every eligible group has a finish that is at least the chosen one's
    no_less : (k : ℕ) → group_eligible v ls k ≡ true → c.finish ≤ group_finish ls k
    no_less k e = let m = lead k e in omega (arith, (h.least m.at m.is).fin, m.fin)

    -- the chosen lane has its group's finish
    pub chosen-finish : group_finish ls c.group ≡ c.finish
    chosen-finish = le_antisymm own.1 (no_less c.group own.0)

    chosen-ready : ready v ls c.group ≡ true
    unfolding ready blocked blocks
    chosen-ready =
        and-made (group_eligible v ls c.group) (not (blocked v ls c.group)) own.0
        (ap not (any_below-none (blocks v ls c.group) groups (λ k. not-passed (blocks v ls c.group k) (λ e.
        let b = and_parts (ltb c.group k) (group_eligible v ls k && ltb (group_finish ls k) (group_finish ls c.group)) e in
        let d = and_parts (group_eligible v ls k) (ltb (group_finish ls k) (group_finish ls c.group)) b.1 in
        omega (arith, no_less k d.0, own.1, ltb-true (group_finish ls k) (group_finish ls c.group) d.1)))))

    chosen-first : c.group < groups → (i : ℕ) → i < c.group → ready v ls i ≡ false
    unfolding ready
    chosen-first small i lt = not-passed (ready v ls i) (λ e.
        let b = and_parts (group_eligible v ls i) (not (blocked v ls i)) e in
        let m = lead i b.0 in
        let le : group_finish ls i ≤ c.finish = omega (arith, free-order i c.group (not-true (blocked v ls i) b.1) own.0 lt small, own.1) in
        omega (arith, (h.least m.at m.is).grp (omega (arith, m.fin)), m.of))

    -- R4.7
    pub first-bit-group : c.group < groups → count_trailing_zeros 64 (word_of (ready v ls) groups) ≡ c.group
    first-bit-group small = first_bit 64 (ready v ls) groups c.group chosen-ready (chosen-first small) small (omega arith)

-- R4.6
pub parted : (v : ℕ) (ls : List Lane) (i : ℕ)
    → count (ready v ls i) + count (ineligible_ready v ls i) + count (eligible_blocked v ls i) + count (ineligible_blocked v ls i) ≡ count (group_holds ls i)
unfolding ready ineligible_ready eligible_blocked ineligible_blocked group_holds group_eligible held_start reached
parted v ls i = go (group_start ls i) (blocked v ls i)
  where
    sort : (e b : Bool) → count (e && not b) + count (not e && not b) + count (e && b) + count (not e && b) ≡ 1
    sort true true = refl
    sort true false = refl
    sort false true = refl
    sort false false = refl

    go : (o : Option ℕ) (b : Bool)
        → count (reached v o && not b) + count (held_start o && (not (reached v o) && not b)) + count (reached v o && b) + count (held_start o && (not (reached v o) && b)) ≡ count (held_start o)
    go none b = refl
    go (some r) b = sort (leb r v) b
