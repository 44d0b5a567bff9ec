-- The rule for a good state as a computed test, and the laws of its parts. proofs/GoodAgrees.antt: the two agree. Assumes nothing.
use Prim.Native.Nat.{ℕ, zero, suc, ◌+◌, ◌*◌, ◌<◌}
use native.Mathlib.Omega.{arith}
use mathlib.Core.Path.{◌≡◌, refl, ap, ◌∙◌, sym}
use mathlib.Core.Bool.{Bool, true, false, not, ◌&&◌, ◌||◌}
use mathlib.Core.Logic.{◌⊎◌, inl, inr}
use mathlib.Core.List.{List, [], ◌∷◌}
use mathlib.Core.Option.{Option, none, some}
use Rattle.rounds.specs.Good.{every, every_below}
use Rattle.waiting.specs.Waiting.{is_shared, waiting_test}
use lib.Dec.{leb, ltb, eqb}
use lib.ListN.{length, get_or}
use borrow.Author.Tests.{leb-true, le-leb, ltb-true, lt-ltb, eqb-true, eqb-false, eq-eqb, ne_eqb, not-true}
use Rattle.std.specs.Prelude.{if◌then◌else◌}
use Rattle.units.specs.Plain.{times}
use Rattle.units.proofs.Bools.{and_parts, and-made}
use Rattle.rules.specs.State.{clock_edge, Rec, Setting, no_setting, setting_at, Lane, State, charge, rate, slot, start_r, first_of, holds, eligible, lane_at, setup_of, any_holds}
use Rattle.rules.specs.Setup.{InNumbers, weights, Setup, margin, framing_of}
use Rattle.rules.specs.Good.{Times}

-- ---- the test

unfoldable pub in_numbers : Setting → Bool
in_numbers g = leb 1 g.weight && (leb g.weight 1024 && (leb 64 g.longest && leb g.longest 1500))

unfoldable pub absent : Setting → Bool
absent g = not g.shared && (eqb g.weight 0 && (eqb g.longest 0 && eqb g.framing 0))

abbrev pub setting_test : Setting → Bool
setting_test g = in_numbers g || absent g

unfoldable pub framed_test : ℕ → Setting → Bool
framed_test h g = eqb g.weight 0 || eqb g.framing h

unfoldable pub setup_test : List Setting → Bool
setup_test gs =
    eqb (length gs) 64 && (every setting_test gs && (ltb 0 (weights gs) && (leb (weights gs) 1024 && (leb (framing_of gs) 64 && every (framed_test (framing_of gs)) gs))))

unfoldable pub times_test : ℕ → Lane → Option Rec → Bool
times_test v l none = ltb l.finish (v + 2 * slot l.given)
times_test v l (some r) =
    eqb l.finish (l.start + charge l.given r.len * rate l.given)
    && (ltb l.start (v + 2 * slot l.given) && ltb v (start_r l + 2 * slot l.given + margin l.given.framing))

unfoldable pub kind_test : Bool → Bool → Bool
kind_test true b = b
kind_test false b = not b

unfoldable pub test_of_lane : ℕ → Lane → Bool
test_of_lane v l = waiting_test l.given.longest l.waiting && (times_test v l (first_of l) && kind_test (is_shared l.waiting) l.given.shared)

unfoldable pub any_eligible : ℕ → List Lane → Bool
any_eligible v [] = false
any_eligible v (l ∷ ls) = eligible v l || any_eligible v ls

abbrev pub is_named_once : State → ℕ → Bool
is_named_once s k = eqb (times k s.order) (if holds (lane_at s k) then 1 else 0)

unfoldable pub good_test : State → Bool
good_test s =
    setup_test (setup_of s)
    && (ltb s.clock (clock_edge)
    && (every (test_of_lane s.clock) s.lanes
    && ((not (any_holds s.lanes) || any_eligible s.clock s.lanes)
    && (every (λ (k : ℕ). ltb k 64) s.order && every_below (is_named_once s) 64))))

-- ---- laws of its parts

pub kind-true : (a b : Bool) → kind_test a b ≡ true → a ≡ b
unfolding kind_test
kind-true true b e = sym e
kind-true false b e = sym (not-true b e)

pub true-kind : (a b : Bool) → a ≡ b → kind_test a b ≡ true
unfolding kind_test
true-kind true b e = sym e
true-kind false b e = ap not (sym e)

module _ {A : Type 0} (p : A → Bool) (d : A) (pd : p d ≡ true) where
  pub every-at : (xs : List A) → every p xs ≡ true → (k : ℕ) → p (get_or xs k d) ≡ true
  unfolding every
  every-at [] e k = pd
  every-at (x ∷ xs) e zero = (and_parts (p x) (every p xs) e).0
  every-at (x ∷ xs) e (suc k) = every-at xs (and_parts (p x) (every p xs) e).1 k

  pub at_every : (xs : List A) → ((k : ℕ) → p (get_or xs k d) ≡ true) → every p xs ≡ true
  unfolding every
  at_every [] h = refl
  at_every (x ∷ xs) h = and-made (p x) (every p xs) (h 0) (at_every xs (λ k. h (suc k)))

setting-true : (g : Setting) → setting_test g ≡ true → InNumbers g ⊎ (g ≡ no_setting)
unfolding in_numbers absent
setting-true g e = go (in_numbers g) refl e
  where
    go : (b : Bool) → in_numbers g ≡ b → (b || absent g) ≡ true → InNumbers g ⊎ (g ≡ no_setting)
    go true q t =
        let a = and_parts (leb 1 g.weight) _ q in
        let b = and_parts (leb g.weight 1024) _ a.1 in
        let c = and_parts (leb 64 g.longest) (leb g.longest 1500) b.1 in
        inl (record {
          weight_low = leb-true 1 g.weight a.0;
          weight_high = leb-true g.weight 1024 b.0;
          longest_low = leb-true 64 g.longest c.0;
          longest_high = leb-true g.longest 1500 c.1;
        })
    go false q t =
        let u = and_parts (not g.shared) _ t in
        let a = and_parts (eqb g.weight 0) _ u.1 in
        let b = and_parts (eqb g.longest 0) (eqb g.framing 0) a.1 in
        let w : g.weight ≡ 0 = eqb-true g.weight 0 a.0 in
        let l : g.longest ≡ 0 = eqb-true g.longest 0 b.0 in
        let f : g.framing ≡ 0 = eqb-true g.framing 0 b.1 in
        inr (ap (λ (x : ℕ). record { weight = x; longest = g.longest; framing = g.framing; shared = g.shared }) w
        ∙ ap (λ (x : ℕ). record { weight = 0; longest = x; framing = g.framing; shared = g.shared }) l
        ∙ ap (λ (x : ℕ). record { weight = 0; longest = 0; framing = x; shared = g.shared }) f
        ∙ ap (λ (x : Bool). record { weight = 0; longest = 0; framing = 0; shared = x }) (not-true g.shared u.0))

true-setting : (g : Setting) → InNumbers g ⊎ (g ≡ no_setting) → setting_test g ≡ true
unfolding in_numbers absent
true-setting g (inl n) = simp (le-leb 1 g.weight n.weight_low, le-leb g.weight 1024 n.weight_high, le-leb 64 g.longest n.longest_low, le-leb g.longest 1500 n.longest_high)
true-setting g (inr e) = rw e

framed-true : (h : ℕ) (g : Setting) → framed_test h g ≡ true → 0 < g.weight → g.framing ≡ h
unfolding framed_test
framed-true h g e p = eqb-true g.framing h (rw (ne_eqb g.weight 0 (λ q. omega arith)) at e)

true-framed : (h : ℕ) (g : Setting) → (0 < g.weight → g.framing ≡ h) → framed_test h g ≡ true
unfolding framed_test
true-framed h g f = go (eqb g.weight 0) refl
  where
    go : (b : Bool) → eqb g.weight 0 ≡ b → (b || eqb g.framing h) ≡ true
    go true e = refl
    go false e = eq-eqb g.framing h (f (nonzero g.weight (eqb-false g.weight 0 e)))
      where
        nonzero : (n : ℕ) → (n ≡ 0 → ⊥) → 0 < n
        nonzero n q = omega arith

pub setup-true : (gs : List Setting) → setup_test gs ≡ true → Setup gs
unfolding setup_test in_numbers absent framed_test
setup-true gs e =
    let a = and_parts (eqb (length gs) 64) _ e in
    let b = and_parts (every setting_test gs) _ a.1 in
    let c = and_parts (ltb 0 (weights gs)) _ b.1 in
    let d = and_parts (leb (weights gs) 1024) _ c.1 in
    let f = and_parts (leb (framing_of gs) 64) (every (framed_test (framing_of gs)) gs) d.1 in
    record {
      size = eqb-true (length gs) 64 a.0;
      each = λ k. setting-true (setting_at gs k) (every-at setting_test no_setting refl gs b.0 k);
      some_lane = ltb-true 0 (weights gs) c.0;
      total = leb-true (weights gs) 1024 d.0;
      framing_high = leb-true (framing_of gs) 64 f.0;
      framed = λ k. framed-true (framing_of gs) (setting_at gs k) (every-at (framed_test (framing_of gs)) no_setting refl gs f.1 k);
    }

pub true-setup : (gs : List Setting) → Setup gs → setup_test gs ≡ true
unfolding setup_test in_numbers absent framed_test
true-setup gs s =
    simp (
      eq-eqb (length gs) 64 s.size,
      at_every setting_test no_setting refl gs (λ k. true-setting (setting_at gs k) (s.each k)),
      lt-ltb 0 (weights gs) s.some_lane,
      le-leb (weights gs) 1024 s.total,
      le-leb (framing_of gs) 64 s.framing_high,
      at_every (framed_test (framing_of gs)) no_setting refl gs (λ k. true-framed (framing_of gs) (setting_at gs k) (s.framed k)),
    )

pub times-true : (v : ℕ) (l : Lane) (o : Option Rec) → times_test v l o ≡ true → Times v l o
unfolding times_test
times-true v l none e = ltb-true l.finish (v + 2 * slot l.given) e
times-true v l (some r) e =
    let a = and_parts (eqb l.finish (l.start + charge l.given r.len * rate l.given)) _ e in
    let b = and_parts (ltb l.start (v + 2 * slot l.given)) _ a.1 in
    (eqb-true l.finish _ a.0, ltb-true l.start _ b.0, ltb-true v _ b.1)

pub true-times : (v : ℕ) (l : Lane) (o : Option Rec) → Times v l o → times_test v l o ≡ true
unfolding times_test
true-times v l none h = lt-ltb l.finish (v + 2 * slot l.given) h
true-times v l (some r) h =
    simp (eq-eqb l.finish (l.start + charge l.given r.len * rate l.given) h.0, lt-ltb l.start (v + 2 * slot l.given) h.1, lt-ltb v (start_r l + 2 * slot l.given + margin l.given.framing) h.2)
