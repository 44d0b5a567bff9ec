-- A walk over the set bits of a word, and that over a group's lists. Assumes nothing.
use mathlib.Core.Path.{◌≡◌, sym, ap, subst}
use mathlib.Core.Logic.{⊎_elim}
use Prim.Native.Nat.{ℕ, suc, ◌+◌, ◌^◌, ◌≤◌, ◌<◌}
use mathlib.Core.List.{List, []}
use native.Mathlib.Numerals.{add-one}
use native.Mathlib.Omega.{arith}
use borrow.Author.Tests.{eq-eqb, ne_eqb}
use native.Mathlib.Decide.{dec_lt}
use Rattle.units.specs.Plain.{times}
use Rattle.words.specs.Bits.{bit}
use Rattle.words.proofs.Runs.{eq-or-ne}
use Rattle.rings.specs.Rings.{ring_at}
use Rattle.words.specs.Words.{word_at}
use Rattle.table.specs.Means.{Next}
use Rattle.slot_lists.specs.Lists.{map_word, ring_number}
use Rattle.filing.specs.Filing.{flat}
use Rattle.filing.proofs.Flat.{flat-skip, times_more, times-part}
use Rattle.lists_test.specs.Stored.{RingFine, list_slot, GroupFine, ring_in, NotListedYet, Adds}
use Rattle.lists_test.proofs.WordBits.{bit-under}

-- ---- a walk over the set bits of a word

module _ (word : ℕ) where
  -- bits that are not set add nothing
  pub flat-next : (f : ℕ → List ℕ) → ((i : ℕ) → (bit i word ≡ 1 → ⊥) → f i ≡ []) → (b c : ℕ) → Next word b c → flat c f ≡ flat b f
  flat-next f out b c n = flat-skip b c f n.on (λ i p q. out i (λ e. omega (arith, e, n.absent i p q)))

  module _ (P : ℕ → Type 0) (b : ℕ) (below : (i : ℕ) → i < b → bit i word ≡ 1 → P i) where
    -- what is so of the set bits below b is so of those below the next one
    pub fine-next : (c : ℕ) → Next word b c → (i : ℕ) → i < c → bit i word ≡ 1 → P i
    fine-next c n i h e = elim (dec_lt i b) [ yes q ↦ below i q e | no q ↦ absurd (omega (arith, e, n.absent i (omega arith) h)) ]

    -- and with b itself of those up to b
    pub fine_more : P b → (i : ℕ) → i < b + 1 → bit i word ≡ 1 → P i
    fine_more p i h e = ⊎_elim (λ (q : i ≡ b). subst P (sym q) p) (λ (ne : i ≡ b → ⊥). below i (omega (arith, ne)) e) (eq-or-ne i b)

-- ---- the lists of a group

module _ (t : List ℕ) (g : ℕ) where
  abbrev map : ℕ
  map = word_at t (map_word g)

  pub ring_in_lem : (b : ℕ) → bit b map ≡ 1 → ring_in t g b ≡ ring_at t (ring_number g b)
  ring_in_lem b e = rw (eq-eqb _ 1 e)

  pub ring_out : (b : ℕ) → (bit b map ≡ 1 → ⊥) → ring_in t g b ≡ []
  ring_out b ne = rw (ne_eqb (bit b map) 1 ne)

  -- the lists below b are walked
  pub record Walked (before b met : ℕ) : Type 0 where
    pub ends : b ≤ 64
    pub fine : (c : ℕ) → c < b → bit c map ≡ 1 → RingFine t (ring_number g c) g (list_slot t g c)
    pub adds : Adds before (flat b (ring_in t g)) met

  module _ (before : ℕ) where
    -- on to the next list that has lanes
    pub walk-next : (b c met : ℕ) → Walked before b met → Next map b c → Walked before c met
    walk-next b c met w n =
        record {
          ends = n.ends;
          fine = fine-next map (λ (i : ℕ). RingFine t (ring_number g i) g (list_slot t g i)) b w.fine c n;
          adds = λ k. omega (arith, w.adds k, ap (times k) (flat-next map (ring_in t g) ring_out b c n));
        }

    pub walk_none : Walked before 0 before
    unfolding flat
    walk_none = record { ends = omega arith; fine = λ c h e. absurd (omega arith); adds = λ k. omega arith }

    module _ (b met : ℕ) (w : Walked before b met) (small : b < 32) (has : bit b map ≡ 1) where
      pub walk_step : (met' : ℕ) → RingFine t (ring_number g b) g (list_slot t g b) → Adds met (ring_at t (ring_number g b)) met' → Walked before (b + 1) met'
      walk_step met' fine adds =
          record {
            ends = omega arith;
            fine = fine_more map (λ (i : ℕ). RingFine t (ring_number g i) g (list_slot t g i)) b w.fine fine;
            adds = λ k. omega (arith, adds k, w.adds k, times_more b k (ring_in t g), ap (times k) (ring_in_lem b has), ap (λ (n : ℕ). times k (flat n (ring_in t g))) (add-one b));
          }

      pub walk-bad : (RingFine t (ring_number g b) g (list_slot t g b) → NotListedYet met (ring_at t (ring_number g b)) → ⊥) → GroupFine t g → NotListedYet before (flat 32 (ring_in t g)) → ⊥
      walk-bad bad fine new =
          bad (fine.rings b small has)
          (λ k. omega (arith, new k, w.adds k, times_more b k (ring_in t g), ap (times k) (ring_in_lem b has), times-part (suc b) 32 k (ring_in t g) small))

    pub walk-all : (b met : ℕ) → Walked before b met → 64 ≤ b → map < 2 ^ 32
        → ((c : ℕ) → c < 32 → bit c map ≡ 1 → RingFine t (ring_number g c) g (list_slot t g c)) × Adds before (flat 32 (ring_in t g)) met
    walk-all b met w end narrow =
        let same : flat b (ring_in t g) ≡ flat 32 (ring_in t g) = flat-skip 32 b (ring_in t g) (omega arith) (λ i p q. ring_out i (λ e. omega (arith, bit-under 32 i map narrow e))) in
        (λ c h e. w.fine c (omega arith) e, λ k. omega (arith, w.adds k, ap (times k) same))
