-- The walk over a ring. Assumes nothing.
use mathlib.Core.Path.{◌≡◌, refl, sym, ap, subst, ◌∙◌}
use mathlib.Core.Logic.{⊎_elim}
use Prim.Native.Nat.{ℕ, ◌+◌, ◌-◌, ◌^◌, ◌≤◌, ◌<◌}
use mathlib.Core.List.{List, [], ◌∷◌}
use native.Mathlib.Numerals.{add-one}
use native.Mathlib.Omega.{arith}
use borrow.Author.Tests.{eq-eqb, ne_eqb}
use lib.ListN.{length, get_or, take, drop, take-append-drop}
use lib.Seq.{take-suc, drop-cons, take_all}
use Rattle.units.specs.Plain.{times}
use Rattle.units.proofs.Lists.{times-append}
use Rattle.words.specs.Bits.{bit}
use Rattle.words.proofs.Bits.{bit-add-same, bit-add-other}
use Rattle.words.proofs.Runs.{eq-or-ne}
use Rattle.rings.specs.Rings.{ring_at}
use Rattle.lists_test.specs.Stored.{FitsSlot, RingFine, NotListedYet, Adds}

-- j of the ring's lanes are read
pub record Read (t : List ℕ) (i g at before j met : ℕ) : Type 0 where
  pub within : j ≤ length (ring_at t i)
  pub fit : (k : ℕ) → 0 < times k (take j (ring_at t i)) → (k < 64) × FitsSlot t k g at
  pub adds : Adds before (take j (ring_at t i)) met

module _ (t : List ℕ) (i g at before : ℕ) where
  abbrev l : List ℕ
  l = ring_at t i

  pub read_none : Read t i g at before 0 before
  read_none = record { within = omega arith; fit = λ k h. absurd (omega arith); adds = λ k. omega arith }

  module _ (j met : ℕ) (r : Read t i g at before j met) (lt : j < length (ring_at t i)) where
    abbrev e : ℕ
    e = get_or l j 0

    one_more : (k : ℕ) → times k (take (j + 1) l) ≡ times k (take j l) + times k (e ∷ [])
    one_more k = ap (λ (n : ℕ). times k (take n l)) (add-one j) ∙ ap (times k) (take-suc l j 0 lt) ∙ times-append k (take j l) (e ∷ [])

    parts : (k : ℕ) → times k (take j l) + times k (e ∷ []) ≤ times k l
    parts k =
        omega (
          arith,
          times-append k (take j l) (drop j l),
          ap (times k) (take-append-drop j l),
          ap (times k) (drop-cons l j 0 lt),
        )

    here : times e (e ∷ []) ≡ 1
    here = simp (eq-eqb e e refl)

    pub read-far : 64 ≤ e → RingFine t i g at → NotListedYet before l → ⊥
    read-far far fine new = omega (arith, parts e, here, (fine.fit e (omega (arith, parts e, here))).0)

    pub read_twice : bit e met ≡ 1 → RingFine t i g at → NotListedYet before l → ⊥
    read_twice b fine new = omega (arith, b, r.adds e, parts e, here, new e)

    pub read-misfit : (FitsSlot t e g at → ⊥) → RingFine t i g at → NotListedYet before l → ⊥
    read-misfit not_so fine new = not_so (fine.fit e (omega (arith, parts e, here))).1

    pub read_more : e < 64 → bit e met ≡ 0 → FitsSlot t e g at → Read t i g at before (j + 1) (met + 2 ^ e)
    read_more small b fits =
        record {
          within = omega arith;
          fit = λ k h.
              ⊎_elim
              (λ (q : k ≡ e). (omega (arith, q), subst (λ (x : ℕ). FitsSlot t x g at) (sym q) fits))
              (λ (ne : k ≡ e → ⊥). r.fit k (omega (arith, h, one_more k, other k ne)))
              (eq-or-ne k e);
          adds = λ k.
              let flip : met + 2 ^ e ≡ 2 ^ e + met = omega arith in
              ap (bit k) flip
              ∙ ⊎_elim
              (λ (q : k ≡ e). ap (λ (x : ℕ). bit x (2 ^ e + met)) q ∙ bit-add-same e met b ∙ omega (arith, b, r.adds e, one_more e, here, ap (λ (x : ℕ). bit x before + times x (take (j + 1) l)) q))
              (λ (ne : k ≡ e → ⊥). bit-add-other e k met (λ q. ne (sym q)) b ∙ omega (arith, r.adds k, one_more k, other k ne))
              (eq-or-ne k e);
        }
      where
        other : (k : ℕ) → (k ≡ e → ⊥) → times k (e ∷ []) ≡ 0
        other k ne = simp (ne_eqb e k (λ q. ne (sym q)))

  pub read_all : (j met : ℕ) → Read t i g at before j met → length (ring_at t i) ≤ j → 0 < length (ring_at t i) → RingFine t i g at × Adds before (ring_at t i) met
  read_all j met r end more =
      let all : take j (ring_at t i) ≡ ring_at t i = take_all j (ring_at t i) end in
      (record { some_lane = more; fit = λ k h. r.fit k (omega (arith, h, ap (times k) all)) }, λ k. omega (arith, r.adds k, ap (times k) all))
