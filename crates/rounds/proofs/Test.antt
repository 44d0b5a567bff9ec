-- The rule for a good shared lane and its test agree. Assumes nothing.
use Prim.Native.Nat.{ℕ, zero, suc, ◌*◌, ◌≤◌, ◌<◌}
use native.Mathlib.Omega.{arith}
use native.Mathlib.Nat.{eq-or-lt_of_le, le_of_suc-le-suc, not-suc-le-zero}
use native.Mathlib.Decide.{dec_lt}
use mathlib.Core.Path.{◌≡◌, refl, ap, ◌∙◌}
use mathlib.Core.Bool.{Bool, true, false}
use mathlib.Core.Logic.{◌⊎◌, inl, inr}
use mathlib.Core.List.{List, [], ◌∷◌}
use lib.Dec.{leb, ltb, eqb}
use lib.ListN.{length, get_or-eq_default}
use borrow.Author.Tests.{leb-true, le-leb, ltb-true, lt-ltb, eqb-true, eq-eqb, ne_eqb}
use Rattle.std.specs.Prelude.{if◌then◌else◌}
use Rattle.units.specs.Plain.{times}
use Rattle.units.proofs.Bools.{and_parts}
use Rattle.rounds.specs.Round.{BareRec, Train, Shared, train_count, train_depth, no_train, queued?, train_at, in_turn}
use Rattle.rounds.specs.Good.{Lengths, Deficit, GoodTrain, GoodShared, every, every_below, length_test, deficit_test, train_test, good_test}
use Rattle.rounds.proofs.KeepHand.{named-holds, held-inside}

-- ---- every

module _ (p : ℕ → Bool) where
  pub below_at : (n : ℕ) → every_below p n ≡ true → (k : ℕ) → k < n → p k ≡ true
  unfolding every_below
  below_at zero e k h = absurd (not-suc-le-zero h)
  below_at (suc n) e k h = go (eq-or-lt_of_le (le_of_suc-le-suc h)) (below_at n (and_parts (p n) (every_below p n) e).1 k)
    where
      go : (k ≡ n) ⊎ (k < n) → (k < n → p k ≡ true) → p k ≡ true
      go (inl q) r = ap p q ∙ (and_parts (p n) (every_below p n) e).0
      go (inr q) r = r q

  pub at-below : (n : ℕ) → ((k : ℕ) → p k ≡ true) → every_below p n ≡ true
  unfolding every_below
  at-below zero h = refl
  at-below (suc n) h = simp (h n, at-below n h)

-- a number from n on stands nowhere in a list of numbers below n
pub times_none : (n k : ℕ) (js : List ℕ) → every (λ (j : ℕ). ltb j n) js ≡ true → n ≤ k → times k js ≡ 0
unfolding every
times_none n k [] e h = refl
times_none n k (j ∷ js) e h =
    let a = and_parts (ltb j n) (every (λ (j : ℕ). ltb j n) js) e in
    let lt = ltb-true j n a.0 in
    simp (ne_eqb j k (λ q. omega arith)) (omega (arith, times_none n k js a.1 h))

pub named_small : (n : ℕ) (js : List ℕ) → ((k : ℕ) → 0 < times k js → k < n) → every (λ (j : ℕ). ltb j n) js ≡ true
unfolding every
named_small n [] h = refl
named_small n (j ∷ js) h =
    simp (lt-ltb j n (h j (simp (eq-eqb j j refl) (omega arith))), named_small n js (λ k p. h k (omega arith)))

-- ---- one train

pub lengths-true : (L : ℕ) (q : List BareRec) → every (length_test L) q ≡ true → Lengths L q
unfolding every length_test
lengths-true L [] e = tt
lengths-true L (r ∷ rs) e =
    let a = and_parts (length_test L r) (every (length_test L) rs) e in
    let b = and_parts (leb 1 r.len) (leb r.len L) a.0 in
    (leb-true 1 r.len b.0, leb-true r.len L b.1, lengths-true L rs a.1)

pub true-lengths : (L : ℕ) (q : List BareRec) → Lengths L q → every (length_test L) q ≡ true
unfolding every length_test
true-lengths L [] l = refl
true-lengths L (r ∷ rs) l = simp (le-leb 1 r.len l.0, le-leb r.len L l.1, true-lengths L rs l.2)

deficit-true : (L : ℕ) (turn : Bool) (d : ℕ) (q : List BareRec) → deficit_test L turn d q ≡ true → Deficit L turn d q
unfolding deficit_test
deficit-true L turn d [] e = eqb-true d 0 e
deficit-true L true d (r ∷ rs) e = let a = and_parts (leb r.len d) (ltb d (2 * L)) e in (leb-true r.len d a.0, ltb-true d (2 * L) a.1)
deficit-true L false d (r ∷ rs) e = ltb-true d r.len e

true-deficit : (L : ℕ) (turn : Bool) (d : ℕ) (q : List BareRec) → Deficit L turn d q → deficit_test L turn d q ≡ true
unfolding deficit_test
true-deficit L turn d [] h = eq-eqb d 0 h
true-deficit L true d (r ∷ rs) h = simp (le-leb r.len d h.0, lt-ltb d (2 * L) h.1)
true-deficit L false d (r ∷ rs) h = lt-ltb d r.len h

train-true : (L : ℕ) (turn : Bool) (n : ℕ) (t : Train) → train_test L turn n t ≡ true → GoodTrain L turn n t
unfolding train_test
train-true L turn n t e =
    let a = and_parts (leb (length t.queue) train_depth) _ e in
    let b = and_parts (every (length_test L) t.queue) _ a.1 in
    let c = and_parts (deficit_test L turn t.deficit t.queue) (eqb n (if queued? t.queue then 1 else 0)) b.1 in
    record {
      room = leb-true (length t.queue) train_depth a.0;
      lengths = lengths-true L t.queue b.0;
      deficit = deficit-true L turn t.deficit t.queue c.0;
      named_once = eqb-true n (if queued? t.queue then 1 else 0) c.1;
    }

true-train : (L : ℕ) (turn : Bool) (n : ℕ) (t : Train) → GoodTrain L turn n t → train_test L turn n t ≡ true
unfolding train_test
true-train L turn n t g =
    simp (
      le-leb (length t.queue) train_depth g.room,
      true-lengths L t.queue g.lengths,
      true-deficit L turn t.deficit t.queue g.deficit,
      eq-eqb n (if queued? t.queue then 1 else 0) g.named_once,
    )

-- ---- the lane

-- a number that the round does not name is not in turn
pub not-in-turn : (k : ℕ) (js : List ℕ) → times k js ≡ 0 → in_turn k js ≡ false
not-in-turn k [] e = refl
not-in-turn k (j ∷ js) e = ne_eqb j k (λ q. absurd (omega (arith, simp (eq-eqb j k q) at e)))

pub test_good : (L : ℕ) (s : Shared) → good_test L s ≡ true → GoodShared L s
unfolding good_test
test_good L s e =
    let a = and_parts (eqb (length s.trains) train_count) _ e in
    let b = and_parts (every (λ (k : ℕ). ltb k train_count) s.round) _ a.1 in
    let size = eqb-true (length s.trains) train_count a.0 in
    record {
      size = size;
      each = λ k. elim (dec_lt k train_count) [
        | yes h ↦ train-true L _ _ (train_at s k) (below_at (λ (k : ℕ). train_test L (in_turn k s.round) (times k s.round) (train_at s k)) train_count b.1 k h)
        | no h ↦
            let far : times k s.round ≡ 0 = times_none train_count k s.round b.0 (omega arith) in
            rw (get_or-eq_default s.trains no_train {n = k} (omega arith), not-in-turn k s.round far, far) (record { room = omega arith; lengths = tt; deficit = refl; named_once = refl })
      ];
    }

pub good-test : (L : ℕ) (s : Shared) → GoodShared L s → good_test L s ≡ true
unfolding good_test
good-test L s g =
    simp (
      eq-eqb (length s.trains) train_count g.size,
      named_small train_count s.round (λ k h. omega (arith, held-inside s.trains k (named-holds (g.each k) h), g.size)),
      at-below (λ (k : ℕ). train_test L (in_turn k s.round) (times k s.round) (train_at s k)) train_count (λ k. true-train L _ _ (train_at s k) (g.each k)),
    )
