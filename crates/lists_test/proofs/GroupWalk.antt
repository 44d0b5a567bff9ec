-- The walk over the groups. Assumes nothing.
use mathlib.Core.Path.{◌≡◌, refl, sym, ap, ◌∙◌}
use mathlib.Core.Bool.{Bool, true, false}
use Prim.Native.Nat.{ℕ, suc, ◌+◌, ◌-◌, ◌%◌, ◌^◌, ◌≤◌, ◌<◌}
use mathlib.Core.List.{List, []}
use native.Mathlib.Numerals.{add-one}
use native.Mathlib.Omega.{arith}
use lib.Dec.{eqb}
use borrow.Author.Tests.{eqb-true, eqb-false, eq-eqb, ne_eqb}
use lib.Pow.{pow_pos}
use Rattle.units.specs.Plain.{times}
use Rattle.words.specs.Bits.{bit}
use Rattle.words.proofs.Bits.{bit-above}
use Rattle.words.proofs.Bits.{bits-same}
use Rattle.table.specs.Means.{Next}
use Rattle.slot_lists.specs.Lists.{groups_at, back_at}
use Rattle.filing.specs.Filing.{flat}
use Rattle.lane_test.specs.Says.{Says}
use Rattle.filing.proofs.Flat.{flat-skip, times_more, times-part}
use Rattle.lists_test.specs.Stored.{GroupFine, ring_in, group_in, ListsStored, NotListedYet, Adds}
use Rattle.lists_test.proofs.WordBits.{bit-under}
use Rattle.lists_test.proofs.ListWalk.{flat-next, fine-next, fine_more}

module _ (t : List ℕ) where
  abbrev groups : ℕ
  groups = groups_at t

  pub group-in : (g : ℕ) → bit g groups ≡ 1 → group_in t g ≡ flat 32 (ring_in t g)
  unfolding group_in
  group-in g e = rw (eq-eqb _ 1 e)

  pub group-out : (g : ℕ) → (bit g groups ≡ 1 → ⊥) → group_in t g ≡ []
  unfolding group_in
  group-out g ne = rw (ne_eqb (bit g groups) 1 ne)

  pub record Passed (g met : ℕ) : Type 0 where
    pub ends : g ≤ 64
    pub fine : (i : ℕ) → i < g → bit i groups ≡ 1 → GroupFine t i
    pub adds : (k : ℕ) → bit k met ≡ times k (flat g (group_in t))

  pub pass-none : Passed 0 0
  unfolding flat
  pass-none = record { ends = omega arith; fine = λ c h e. absurd (omega arith); adds = λ k. bit-above k 0 (pow_pos k) }

  pub pass-next : (g c met : ℕ) → Passed g met → Next groups g c → Passed c met
  pass-next g c met w n =
      record {
        ends = n.ends;
        fine = fine-next groups (GroupFine t) g w.fine c n;
        adds = λ k. omega (arith, w.adds k, ap (times k) (flat-next groups (group_in t) group-out g c n));
      }

  module _ (g met : ℕ) (w : Passed g met) (small : g ≤ 31) (has : bit g groups ≡ 1) where
    pub pass_step : (met' : ℕ) → GroupFine t g → Adds met (flat 32 (ring_in t g)) met' → Passed (g + 1) met'
    pass_step met' fine adds =
        record {
          ends = omega arith;
          fine = fine_more groups (GroupFine t) g w.fine fine;
          adds = λ k. omega (arith, adds k, w.adds k, times_more g k (group_in t), ap (times k) (group-in g has), ap (λ (n : ℕ). times k (flat n (group_in t))) (add-one g));
        }

    pub pass-bad : (lanes : ℕ) → 16 ≤ g → (GroupFine t g → NotListedYet met (flat 32 (ring_in t g)) → ⊥) → ListsStored t lanes → ⊥
    pass-bad lanes lo bad stored =
        bad (stored.fine g lo small has)
        (λ k. omega (arith, stored.once k, w.adds k, times_more g k (group_in t), ap (times k) (group-in g has), times-part (suc g) 32 k (group_in t) (omega arith)))

  module _ (g met lanes : ℕ) (w : Passed g met) (end : 64 ≤ g) (high : groups < 2 ^ 32) where
    all : flat g (group_in t) ≡ flat 32 (group_in t)
    all = flat-skip 32 g (group_in t) (omega arith) (λ i p q. group-out i (λ e. omega (arith, bit-under 32 i groups high e)))

    pub pass_same : back_at t % 2 ^ 31 ≡ 0 → back_at t < 2 ^ 36 → groups % 65536 ≡ 0 → met ≡ lanes → ListsStored t lanes
    pass_same whole small low e =
        record {
          back_whole = whole;
          back_small = small;
          low = low;
          high = high;
          fine = λ i p q h. w.fine i (omega arith) h;
          once = λ k. omega (arith, w.adds k, ap (times k) all, ap (bit k) e);
        }

    pub pass-other : met < 2 ^ 64 → lanes < 2 ^ 64 → (met ≡ lanes → ⊥) → ListsStored t lanes → ⊥
    pass-other a b ne stored = ne (bits-same 64 met lanes a b (λ k. omega (arith, w.adds k, ap (times k) all, stored.once k)))

  -- no group has lanes: then no lane holds a record
  pub pass-empty : (lanes : ℕ) → lanes < 2 ^ 64 → back_at t % 2 ^ 31 ≡ 0 → back_at t < 2 ^ 36 → groups ≡ 0 → Says (eqb lanes 0) (ListsStored t lanes)
  pass-empty lanes fits whole small none = go (eqb lanes 0) refl
    where
      clear : (i : ℕ) → bit i groups ≡ 0
      clear i = ap (bit i) none ∙ bit-above i 0 (pow_pos i)

      passed : Passed 64 0
      passed = pass-next 0 64 0 pass-none (record { on = omega arith; ends = omega arith; absent = λ i p q. clear i; present = λ q. absurd (omega arith) })

      high : groups < 2 ^ 32
      high = omega (arith, none)

      go : (b : Bool) → eqb lanes 0 ≡ b → Says b (ListsStored t lanes)
      go true e = pass_same 64 0 lanes passed (omega arith) high whole small (ap (λ (x : ℕ). x % 65536) none) (sym (eqb-true lanes 0 e))
      go false e = pass-other 64 0 lanes passed (omega arith) high (omega arith) fits (λ z. eqb-false lanes 0 e (sym z))
