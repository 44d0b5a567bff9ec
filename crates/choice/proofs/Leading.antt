-- What the pass over the groups finds is the plain choice, of any state that the slot lists agree with. Assumes nothing.
use mathlib.Core.Path.{◌≡◌, sym, ap, subst, ◌∙◌}
use mathlib.Core.Option.{none, some}
use mathlib.Core.Logic.{inl, inr}
use Prim.Native.Nat.{ℕ, ◌+◌, ◌-◌, ◌*◌, ◌/◌, ◌%◌, ◌^◌, ◌≤◌, ◌<◌}
use native.Mathlib.Nat.{mod-eq_of_lt}
use mathlib.Core.List.{List, [], ◌∷◌}
use native.Mathlib.Omega.{arith}
use lib.ListN.{length, get_or}
use lib.Pow.{pow_mono, shl-shr}
use Rattle.units.specs.Plain.{times}
use Rattle.units.proofs.Lists.{times-length}
use Rattle.rules.specs.State.{State, lane_at}
use Rattle.rules.specs.Choice.{choose}
use Rattle.rules.specs.Sets.{in_group, group_start}
use Rattle.rules.specs.Good.{Good}
use Rattle.rules.specs.BySets.{candidate_lane}
use Rattle.rules.proofs.Lowest.{LowOf, LowestOf}
use Rattle.rules.proofs.GroupRule.{in_group_lem, group-low}
use Rattle.choice.proofs.Held.{start-early}
use Rattle.slot_lists.specs.Lists.{back_at, list_at, start_at, slot_of, list_of}
use Rattle.filing.specs.Filing.{front_of, Whole, slot_at, Agrees, LeastGroup, never}
use Rattle.filing.proofs.Slots.{start-slot}
use Rattle.filing.proofs.Starts.{in_list_lem}
use Rattle.filing.proofs.Choose.{choice-is, choice-none}
use Rattle.groups.specs.Front.{LeadsAt, Leads}
use Rattle.groups.specs.declared.Front.{Front}

-- the starts are small
pub starts-early : (t : List ℕ) (s : State) → Good s → Agrees (back_at t) (list_at t) (start_at t) s → (i q : ℕ) → 16 ≤ i → i ≤ 31 → start_at t i ≡ some q → q < 2 ^ 63
starts-early t s good ag i q lo hi e = start-early s good i q (sym (ag.started i lo hi) ∙ e)

module _ (t : List ℕ) (s : State) (good : Good s) (whole : Whole (back_at t)) (ag : Agrees (back_at t) (list_at t) (start_at t) s) where
  -- the list of a group's start has a lane
  front-some : (g r : ℕ) → 16 ≤ g → g ≤ 31 → start_at t g ≡ some r → 0 < length (list_at t g (list_of t g r))
  front-some g r lo hi e =
      let start : group_start s.lanes g ≡ some r = sym (ag.started g lo hi) ∙ e in
      let lead : LowestOf (in_group g) s.lanes r = subst (LowOf (in_group g) s.lanes) start (group-low s.lanes g) in
      let i = in_group_lem g (lane_at s lead.at) lead.is in
      let own : slot_at (back_at t) (lane_at s lead.at) ≡ slot_of t g r = sym (shl-shr (slot_at (back_at t) (lane_at s lead.at)) g) ∙ ap (λ (x : ℕ). x / 2 ^ g) (sym (start-slot (back_at t) g (lane_at s lead.at) whole hi i.1) ∙ ap (λ (x : ℕ). x + back_at t) lead.start) in
      let n : times lead.at (list_at t g (list_of t g r)) ≡ 1 = ap (λ (x : ℕ). times lead.at (list_at t g (x % 32))) (sym own) ∙ in_list_lem (back_at t) whole s (list_at t) g ag.filed good.order lo hi lead.at lead.is in
      times-length lead.at (list_at t g (list_of t g r)) (omega (arith, n))

  module _ (v : ℕ) (clock : v ≡ s.clock) (f : Front) (l : Leads (start_at t) v 64 f) where
    pub found_none : f.finish ≡ never → none ≡ candidate_lane (choose s)
    found_none e = go l
      where
        go : Leads (start_at t) v 64 f → none ≡ candidate_lane (choose s)
        go (inl (q, h)) = choice-none (back_at t) whole s good (list_at t) (start_at t) ag (λ i q lo hi z. omega (arith, h i q lo hi (omega arith) z, clock))
        go (inr h) = absurd (omega (arith, e, h.sum, h.small, pow_mono {i = f.group} {j = 31} h.high))

    pub found_at : (f.finish ≡ never → ⊥) → LeadsAt (start_at t) v 64 f
    found_at ne = go l
      where
        go : Leads (start_at t) v 64 f → LeadsAt (start_at t) v 64 f
        go (inl (q, h)) = absurd (ne q)
        go (inr h) = h

    module _ (h : LeadsAt (start_at t) v 64 f) where
      -- the start, from the finish
      pub two-slots : 2 * 2 ^ f.group % 2 ^ 64 ≡ 2 * 2 ^ f.group
      two-slots = mod-eq_of_lt (omega (arith, pow_mono {i = f.group} {j = 31} h.high))

      pub start_is : f.finish - 2 * 2 ^ f.group % 2 ^ 64 ≡ h.from
      start_is = omega (arith, h.sum, two-slots)

      least-group : LeastGroup (start_at t) s.clock f.group h.from
      least-group =
          record {
            low = h.low;
            high = h.high;
            start = h.start;
            reached = omega (arith, h.reached, clock);
            finish = λ i q lo hi z le. omega (arith, h.finish i q lo hi (omega arith) z (omega (arith, clock)), h.sum);
            lowest = λ i q lo hi z le e. h.lowest i q lo hi (omega arith) z (omega (arith, clock)) (h.sum ∙ e);
          }

      pub list-some : 0 < length (list_at t f.group (list_of t f.group h.from))
      list-some = front-some f.group h.from h.low h.high h.start

      pub found-head : (k : ℕ) → k ≡ get_or (list_at t f.group (list_of t f.group h.from)) 0 0 → front_of (list_at t f.group (list_of t f.group h.from)) ≡ some k
      found-head k e = head (list_at t f.group (list_of t f.group h.from)) list-some e
        where
          head : (l : List ℕ) → 0 < length l → k ≡ get_or l 0 0 → front_of l ≡ some k
          head [] n e = absurd (omega arith)
          head (x ∷ xs) n e = ap some (sym e)

      pub found-lane : (k : ℕ) → k ≡ get_or (list_at t f.group (list_of t f.group h.from)) 0 0 → some k ≡ candidate_lane (choose s)
      found-lane k e = sym (found-head k e) ∙ choice-is (back_at t) whole s good (list_at t) (start_at t) ag f.group h.from least-group
