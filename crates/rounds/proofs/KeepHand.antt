-- A turn that begins and a record that is handed out keep a shared lane good. Assumes nothing.
use Prim.Native.Nat.{ℕ, zero, suc, ◌+◌, ◌-◌, ◌≤◌, ◌<◌}
use native.Mathlib.Nat.{zero-lt-suc}
use native.Mathlib.Omega.{arith}
use mathlib.Core.Path.{◌≡◌, refl, sym, subst, ◌∙◌}
use mathlib.Core.Bool.{Bool, true, false, false≢true}
use mathlib.Core.List.{List, [], ◌∷◌, ◌++◌}
use lib.Dec.{leb, eqb}
use lib.ListN.{length, get_or, set, length-set}
use borrow.Author.Tests.{eq-eqb, ne_eqb, leb-true, leb-false}
use Rattle.std.specs.Prelude.{if◌then◌else◌}
use Rattle.units.specs.Plain.{times}
use Rattle.units.proofs.Bools.{if-ind}
use Rattle.units.proofs.Lists.{set_cases, times-append}
use Rattle.rounds.specs.Round.{BareRec, Train, Shared, train_count, train_depth, no_train, queued?, raised, begin, hand_of, hand_in, shared_hand_out}
use Rattle.rounds.specs.Good.{Lengths, Deficit, GoodTrain, GoodShared}

-- ---- trains

pub held-inside : (ts : List Train) (k : ℕ) → queued? (get_or ts k no_train).queue ≡ true → k < length ts
held-inside [] k h = absurd (false≢true h)
held-inside (t ∷ ts) zero h = zero-lt-suc (length ts)
held-inside (t ∷ ts) (suc k) h = omega (arith, held-inside ts k h)

-- a train that the round names holds a record
pub named-holds : {L : ℕ} {b : Bool} {n : ℕ} {t : Train} → GoodTrain L b n t → 0 < n → queued? t.queue ≡ true
named-holds {n = n} {t = t} g h = go (queued? t.queue) refl g.named_once
  where
    go : (c : Bool) → queued? t.queue ≡ c → n ≡ (if c then 1 else 0) → queued? t.queue ≡ true
    go true e p = e
    go false e p = absurd (omega arith)

raised-good : (L n : ℕ) (t : Train) → 0 < n → GoodTrain L false n t → GoodTrain L true n (raised L t)
unfolding raised
raised-good L n t h g = record {
  room = g.room;
  lengths = g.lengths;
  deficit = go t.queue (named-holds g h) g.lengths g.deficit;
  named_once = g.named_once;
}
  where
    go : (q : List BareRec) → queued? q ≡ true → Lengths L q → Deficit L false t.deficit q → Deficit L true (t.deficit + L) q
    go [] e l d = absurd (false≢true e)
    go (r ∷ rs) e l d = (omega (arith, l.1), omega (arith, l.1))

-- ---- a turn begins

pub record Between (L : ℕ) (ts : List Train) (ks : List ℕ) : Type 0 where
  pub size : length ts ≡ train_count
  pub each : (k : ℕ) → GoodTrain L false (times k ks) (get_or ts k no_train)

pub begin-good : (L : ℕ) (ts : List Train) (ks : List ℕ) → Between L ts ks → GoodShared L (begin L ts ks)
unfolding begin
begin-good L ts [] b = record { size = b.size; each = b.each }
begin-good L ts (j ∷ js) b =
    let one : 0 < times j (j ∷ js) = simp (eq-eqb j j refl) (omega arith) in
    record {
      size = length-set ts j _ ∙ b.size;
      each = λ k. set_cases (GoodTrain L (eqb j k) (times k (j ∷ js))) ts j k (raised L (get_or ts j no_train)) no_train (held-inside ts j (named-holds (b.each j) one))
          (λ e. subst (λ (x : ℕ). GoodTrain L (eqb j x) (times x (j ∷ js)) (raised L (get_or ts j no_train))) e (subst (λ (b : Bool). GoodTrain L b (times j (j ∷ js)) (raised L (get_or ts j no_train))) (sym (eq-eqb j j refl)) (raised-good L _ (get_or ts j no_train) one (b.each j))))
          (λ n. rw (ne_eqb j k n) (subst (λ (x : ℕ). GoodTrain L false x (get_or ts k no_train)) (simp (ne_eqb j k n)) (b.each k)));
    }

-- ---- hand out

module _ (L : ℕ) (ts : List Train) (k : ℕ) (ks : List ℕ) (good : GoodShared L (record { trains = ts; round = k ∷ ks })) where
  named-k : times k (k ∷ ks) ≡ suc (times k ks)
  named-k = simp (eq-eqb k k refl) (omega arith)

  -- the train in turn
  in_turn : GoodTrain L true (suc (times k ks)) (get_or ts k no_train)
  in_turn = subst (λ (n : ℕ). GoodTrain L true n (get_or ts k no_train)) named-k (subst (λ (b : Bool). GoodTrain L b (times k (k ∷ ks)) (get_or ts k no_train)) (eq-eqb k k refl) (good.each k))

  pub turn_holds : queued? (get_or ts k no_train).queue ≡ true
  turn_holds = named-holds in_turn (omega arith)

  pub turn-once : times k ks ≡ 0
  turn-once = let e = turn_holds in omega (arith, simp e at in_turn.named_once)

  -- any other
  other : (j : ℕ) → (k ≡ j → ⊥) → GoodTrain L false (times j ks) (get_or ts j no_train)
  other j n =
      subst (λ (x : ℕ). GoodTrain L false x (get_or ts j no_train)) (simp (ne_eqb k j n) (omega arith))
      (subst (λ (b : Bool). GoodTrain L b (times j (k ∷ ks)) (get_or ts j no_train)) (ne_eqb k j n) (good.each j))

  -- its turn is over, and another round and another train stand for it
  over : (t : Train) (js : List ℕ) → GoodTrain L false (times k js) t → ((j : ℕ) → (k ≡ j → ⊥) → times j js ≡ times j ks) → Between L (set ts k t) js
  over t js g same = record {
    size = length-set ts k t ∙ good.size;
    each = λ j. set_cases (GoodTrain L false (times j js)) ts k j t no_train (held-inside ts k turn_holds) (λ e. rw (← e) g)
        (λ n. subst (λ (x : ℕ). GoodTrain L false x (get_or ts j no_train)) (sym (same j n)) (other j n));
  }

  -- its turn goes on
  goes_on : (t : Train) → GoodTrain L true 1 t → GoodShared L (record { trains = set ts k t; round = k ∷ ks })
  goes_on t g = record {
    size = length-set ts k t ∙ good.size;
    each = λ j. set_cases (GoodTrain L (eqb k j) (times j (k ∷ ks))) ts k j t no_train (held-inside ts k turn_holds)
        (λ e. subst (λ (x : ℕ). GoodTrain L (eqb k x) (times x (k ∷ ks)) t) e (subst (λ (b : Bool). GoodTrain L b (times k (k ∷ ks)) t) (sym (eq-eqb k k refl)) (subst (λ (x : ℕ). GoodTrain L true x t) (omega (arith, turn-once, named-k)) g)))
        (λ n. good.each j);
  }

  at_the_end : (j : ℕ) → times j (ks ++ (k ∷ [])) ≡ times j ks + (if eqb k j then 1 else 0)
  at_the_end j = times-append j ks (k ∷ []) ∙ omega arith

  pub hand-of-good : (d : ℕ) (q : List BareRec) → length q ≤ train_depth → Lengths L q → Deficit L true d q → queued? q ≡ true → GoodShared L (hand_of L ts k ks d q)
  unfolding hand_of
  hand-of-good d [] m l h e = absurd (false≢true e)
  hand-of-good d (r ∷ []) m l h e =
      begin-good L (set ts k no_train) ks
      (over no_train ks (record { room = omega arith; lengths = tt; deficit = refl; named_once = turn-once }) (λ j n. refl))
  hand-of-good d (r ∷ r' ∷ rs) m l h e =
      let t : Train = record { deficit = d - r.len; queue = r' ∷ rs } in
      if-ind (GoodShared L) (leb r'.len (d - r.len)) _ _
      (λ c. goes_on t (record { room = omega arith; lengths = l.2; deficit = (leb-true r'.len (d - r.len) c, omega arith); named_once = refl }))
      (λ c. begin-good L (set ts k t) (ks ++ (k ∷ []))
      (over t (ks ++ (k ∷ [])) (record { room = omega arith; lengths = l.2; deficit = leb-false r'.len (d - r.len) c; named_once = at_the_end k ∙ simp (eq-eqb k k refl) (omega (arith, turn-once)) })
      (λ j n. at_the_end j ∙ simp (ne_eqb k j n) (omega arith))))

  pub hand-in-good : GoodShared L (hand_in L ts (k ∷ ks))
  unfolding hand_in
  hand-in-good = hand-of-good (get_or ts k no_train).deficit (get_or ts k no_train).queue in_turn.room in_turn.lengths in_turn.deficit turn_holds

pub hand-out-good : (L : ℕ) (s : Shared) → GoodShared L s → GoodShared L (shared_hand_out L s)
unfolding shared_hand_out hand_in
hand-out-good L s g = go s.trains s.round g
  where
    go : (ts : List Train) (ks : List ℕ) → GoodShared L (record { trains = ts; round = ks }) → GoodShared L (hand_in L ts ks)
    go ts [] g = g
    go ts (k ∷ ks) g = hand-in-good L ts k ks g
