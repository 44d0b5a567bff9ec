-- The sweep over the groups from the highest down gives the four words. Assumes nothing.
use Prim.Native.Nat.{ℕ, zero, suc, ◌+◌, ◌*◌, ◌^◌, ◌≤◌, ◌<◌, min}
use native.Mathlib.Nat.{eq-or-lt_of_le, le_refl}
use native.Mathlib.Decide.{dec_le}
use native.Mathlib.Omega.{arith}
use lib.Pow.{pow_mono}
use mathlib.Core.Path.{◌≡◌, refl, sym, ap, ◌∙◌}
use mathlib.Core.Bool.{Bool, true, false, not, ◌&&◌, false≢true}
use mathlib.Core.Logic.{◌⊎◌, inl, inr, ⊎_elim}
use mathlib.Core.List.{List}
use mathlib.Core.Option.{none, some}
use lib.Dec.{leb, ltb}
use borrow.Author.Tests.{ltb-true, ltb-false, lt-ltb}
use Rattle.std.specs.Prelude.{if◌then◌else◌}
use Rattle.units.specs.Plain.{any_below, word_of}
use Rattle.rules.specs.State.{Lane, State}
use Rattle.rules.specs.Sets.{groups, group_start, held_start, reached, finish_from, group_holds, group_eligible, group_finish, blocks, blocked, ready, ineligible_ready, eligible_blocked, ineligible_blocked}
use Rattle.units.proofs.Bools.{and_parts, not-passed}
use Rattle.units.proofs.Lists.{any_at}
use Rattle.rules.proofs.Word.{word_lt}
use Rattle.filing.specs.Filing.{never}
use Rattle.choice.specs.Sweep.{swept, BitFits, AreWords}
use Rattle.choice.specs.declared.Sweep.{Sweep}

none_below : (p : ℕ → Bool) (n : ℕ) → ((k : ℕ) → k < n → p k ≡ false) → any_below p n ≡ false
unfolding any_below
none_below p zero f = refl
none_below p (suc n) f = simp (f n (omega arith), none_below p n (λ k h. f k (omega arith)))

-- ---- one word: what it still lacks are the bits below i

abbrev Lacks : (ℕ → Bool) → ℕ → ℕ → Type 0
Lacks p i w = w + word_of p i ≡ word_of p groups

lacks_less : (p : ℕ → Bool) (i w : ℕ) (b : Bool) → p i ≡ b → Lacks p (suc i) w → Lacks p i (if b then w + 2 ^ i else w)
unfolding word_of
lacks_less p i w true e h = omega (arith, simp e at h)
lacks_less p i w false e h = omega (arith, simp e at h)

module _ (v : ℕ) (ls : List Lane) where
  -- the groups from i on are swept
  pub record Swept (i : ℕ) (a : Sweep) : Type 0 where
    pub er : Lacks (ready v ls) i a.words.er
    pub ir : Lacks (ineligible_ready v ls) i a.words.ir
    pub eb : Lacks (eligible_blocked v ls) i a.words.eb
    pub ib : Lacks (ineligible_blocked v ls) i a.words.ib
    pub lower : (k : ℕ) → i ≤ k → k < groups → group_eligible v ls k ≡ true → a.least.0 ≤ group_finish ls k
    pub met : a.least.0 < never → (k : ℕ) × (i ≤ k) × (k < groups) × (group_eligible v ls k ≡ true) × (group_finish ls k ≡ a.least.0)

  pub swept_none : Swept groups (record { words = record { er = 0; ir = 0; eb = 0; ib = 0 }; least = record { 0 = never } })
  swept_none = record {
    er = omega arith;
    ir = omega arith;
    eb = omega arith;
    ib = omega arith;
    lower = λ k p q. absurd (omega arith);
    met = λ h. absurd (omega arith);
  }

  -- all swept: the four words
  pub swept_all : (s : State) → s.clock ≡ v → s.lanes ≡ ls → (a : Sweep) → Swept 0 a → AreWords s a.words
  unfolding word_of
  swept_all s cv cl a h = record {
    er = rw (cv, cl) (omega (arith, h.er));
    ir = rw (cv, cl) (omega (arith, h.ir));
    eb = rw (cv, cl) (omega (arith, h.eb));
    ib = rw (cv, cl) (omega (arith, h.ib));
  }

  -- so far no word has 33 bits
  pub swept-fits : (i : ℕ) (a : Sweep) → Swept (suc i) a → i < groups → BitFits a.words (2 ^ i)
  swept-fits i a h small =
      let p : 2 ^ i ≤ 2 ^ 31 = pow_mono {i = i} {j = 31} (omega arith) in
      record {
        er = omega (arith, h.er, word_lt (ready v ls) groups);
        ir = omega (arith, h.ir, word_lt (ineligible_ready v ls) groups);
        eb = omega (arith, h.eb, word_lt (eligible_blocked v ls) groups);
        ib = omega (arith, h.ib, word_lt (ineligible_blocked v ls) groups);
      }

  below_or : (i k : ℕ) → i ≤ k → (i ≡ k) ⊎ (suc i ≤ k)
  below_or i k h = eq-or-lt_of_le h

  blocks-made : (i k : ℕ) → suc i ≤ k → group_eligible v ls k ≡ true → group_finish ls k < group_finish ls i → blocks v ls i k ≡ true
  unfolding blocks
  blocks-made i k p e q = simp (lt-ltb i k p, e, lt-ltb (group_finish ls k) (group_finish ls i) q)

  blocks-parts : (i k : ℕ) → blocks v ls i k ≡ true → (suc i ≤ k) × (group_eligible v ls k ≡ true) × (group_finish ls k < group_finish ls i)
  unfolding blocks
  blocks-parts i k e =
      let b = and_parts (ltb i k) (group_eligible v ls k && ltb (group_finish ls k) (group_finish ls i)) e in
      let d = and_parts (group_eligible v ls k) (ltb (group_finish ls k) (group_finish ls i)) b.1 in
      (ltb-true i k b.0, d.0, ltb-true (group_finish ls k) (group_finish ls i) d.1)

  -- ---- a group that holds no records

  pub swept-skip : (i : ℕ) (a : Sweep) → group_start ls i ≡ none → Swept (suc i) a → Swept i a
  unfolding ready ineligible_ready eligible_blocked ineligible_blocked group_holds group_eligible held_start reached
  swept-skip i a e h = record {
    er = lacks_less (ready v ls) i a.words.er false (simp e) h.er;
    ir = lacks_less (ineligible_ready v ls) i a.words.ir false (simp e) h.ir;
    eb = lacks_less (eligible_blocked v ls) i a.words.eb false (simp e) h.eb;
    ib = lacks_less (ineligible_blocked v ls) i a.words.ib false (simp e) h.ib;
    lower = λ k p q t. ⊎_elim (λ (z : i ≡ k). absurd (false≢true (ap (reached v) (sym e) ∙ ap (λ (x : ℕ). reached v (group_start ls x)) z ∙ t))) (λ (z : suc i ≤ k). h.lower k z q t) (below_or i k p);
    met = λ p. let m = h.met p in (m.0, omega (arith, m.1), m.2, m.3, m.4);
  }

  -- ---- a group that holds records, with the start r

  module _ (i : ℕ) (a : Sweep) (r : ℕ) (small : i < groups) (start : group_start ls i ≡ some r) (early : r < 2 ^ 63) (h : Swept (suc i) a) where
    abbrev f : ℕ
    f = r + 2 * 2 ^ i

    holds-is : group_holds ls i ≡ true
    unfolding group_holds held_start
    holds-is = simp start

    eligible-is : group_eligible v ls i ≡ leb r v
    unfolding group_eligible reached
    eligible-is = simp start

    finish-is : group_finish ls i ≡ f
    unfolding group_finish finish_from
    finish-is = simp start

    -- blocked exactly where the least finish of the eligible groups above is strictly smaller
    blocked-is : blocked v ls i ≡ ltb a.least.0 f
    unfolding blocked
    blocked-is = go (ltb a.least.0 f) refl
      where
        go : (b : Bool) → ltb a.least.0 f ≡ b → any_below (blocks v ls i) groups ≡ b
        go true e =
            let lt = ltb-true a.least.0 f e in
            let p : 2 ^ i ≤ 2 ^ 31 = pow_mono {i = i} {j = 31} (omega arith) in
            let m = h.met (omega arith) in
            any_at (blocks v ls i) groups m.0 m.2 (blocks-made i m.0 m.1 m.3 (omega (arith, m.4, finish-is)))
        go false e =
            let le = ltb-false a.least.0 f e in
            none_below (blocks v ls i) groups (λ k q. not-passed (blocks v ls i k) (λ t. let b = blocks-parts i k t in omega (arith, h.lower k b.0 q b.1, b.2, finish-is)))

    pub swept-group : Swept i (swept r v i a)
    unfolding ready ineligible_ready eligible_blocked ineligible_blocked
    swept-group = record {
      er = lacks_less (ready v ls) i a.words.er (leb r v && not (ltb a.least.0 f)) (simp (eligible-is, blocked-is)) h.er;
      ir = lacks_less (ineligible_ready v ls) i a.words.ir (not (leb r v) && not (ltb a.least.0 f)) (simp (holds-is, eligible-is, blocked-is)) h.ir;
      eb = lacks_less (eligible_blocked v ls) i a.words.eb (leb r v && ltb a.least.0 f) (simp (eligible-is, blocked-is)) h.eb;
      ib = lacks_less (ineligible_blocked v ls) i a.words.ib (not (leb r v) && ltb a.least.0 f) (simp (holds-is, eligible-is, blocked-is)) h.ib;
      lower = λ k p q t. lower k (below_or i k p) q t (leb r v) refl;
      met = met (leb r v) refl;
    }
      where
        lower : (k : ℕ) → (i ≡ k) ⊎ (suc i ≤ k) → k < groups → group_eligible v ls k ≡ true → (b : Bool) → leb r v ≡ b → (if b then min f a.least.0 else a.least.0) ≤ group_finish ls k
        lower k (inl z) q t true e = omega (arith, finish-is, ap (group_finish ls) z)
        lower k (inl z) q t false e = absurd (false≢true (sym e ∙ sym eligible-is ∙ ap (group_eligible v ls) z ∙ t))
        lower k (inr z) q t true e = omega (arith, h.lower k z q t)
        lower k (inr z) q t false e = h.lower k z q t

        met : (b : Bool) → leb r v ≡ b → (if b then min f a.least.0 else a.least.0) < never
            → (k : ℕ) × (i ≤ k) × (k < groups) × (group_eligible v ls k ≡ true) × (group_finish ls k ≡ (if b then min f a.least.0 else a.least.0))
        met false e p = let m = h.met p in (m.0, omega (arith, m.1), m.2, m.3, m.4)
        met true e p = elim (dec_le f a.least.0) [
          | yes q ↦ (i, le_refl i, small, eligible-is ∙ e, omega (arith, finish-is))
          | no q ↦ (let m = h.met (omega arith) in (m.0, omega (arith, m.1), m.2, m.3, omega (arith, m.4)))
        ]
