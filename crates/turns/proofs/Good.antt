-- What a good shared lane gives of its numbers: all that the two functions ask. Assumes nothing.
use Prim.Native.Nat.{ℕ, zero, suc, ◌+◌, ◌-◌, ◌/◌, ◌%◌, ◌≤◌, ◌<◌}
use native.Mathlib.Omega.{arith}
use mathlib.Core.Path.{◌≡◌, refl, sym, ap, subst, ◌∙◌}
use mathlib.Core.Bool.{Bool, true, false, false≢true}
use mathlib.Core.List.{List, [], ◌∷◌}
use mathlib.Core.Option.{some}
use borrow.Author.Tests.{eq-eqb}
use Rattle.std.specs.Prelude.{if◌then◌else◌}
use Rattle.units.specs.Plain.{times}
use Rattle.units.proofs.Below.{length-times, below_less}
use Rattle.rounds.specs.Round.{BareRec, Train, queued?, train_at, in_turn, first_of_train, first_in_turn, shared_first}
use Rattle.rounds.specs.Good.{Lengths, Deficit, GoodTrain, GoodShared}
use Rattle.rounds.proofs.KeepHand.{named-holds, held-inside, turn_holds}
use Rattle.turns.specs.Turns.{head_of, count_of, deficit_of, place_in_train, train_ring, train_of, trains_of, shared_of, fours, named_of, order_of, round_of, turn_of, Ordered, NamesTrains, Light}
use Rattle.turns.proofs.Round.{length-fours, round-cons}
use Rattle.turns.proofs.Train.{length-ring, ring-none, ring-cons, train-is}

-- ---- by the rule for a good lane

module _ (L r : ℕ) (at : ℕ → BareRec) (ts : ℕ → ℕ) (good : GoodShared L (shared_of at ts r)) where
  pub good-each : (k : ℕ) → k < 8 → GoodTrain L (in_turn k (round_of r)) (times k (round_of r)) (train_of at k (ts k))
  unfolding shared_of
  good-each k h = subst (GoodTrain L (in_turn k (round_of r)) (times k (round_of r))) (train-is ts at k h) (good.each k)

  pub good-once : (k : ℕ) → times k (round_of r) ≤ 1
  unfolding shared_of
  good-once k = go (queued? (train_at (shared_of at ts r) k).queue) (good.each k).named_once
    where
      go : (b : Bool) → times k (round_of r) ≡ (if b then 1 else 0) → times k (round_of r) ≤ 1
      go true e = omega arith
      go false e = omega arith

  pub good-known : NamesTrains r
  unfolding shared_of
  good-known i p = omega (arith, held-inside (trains_of at ts) i (named-holds (good.each i) p), good.size)

  pub good-count : (k : ℕ) → k < 8 → count_of (ts k) ≤ 8
  unfolding train_of
  good-count k h = omega (arith, (good-each k h).room, length-ring at k (head_of (ts k)) (count_of (ts k)))

  pub good-light : L ≤ 1500 → (k : ℕ) → k < 8 → Light (ts k)
  unfolding train_of
  good-light short k h = (good-count k h, below (in_turn k (round_of r)) (train_ring at k (head_of (ts k)) (count_of (ts k))) (good-each k h).deficit (good-each k h).lengths)
    where
      below : (turn : Bool) (q : List BareRec) → Deficit L turn (deficit_of (ts k)) q → Lengths L q → deficit_of (ts k) < 3000
      below turn [] d l = omega (arith, d)
      below true (x ∷ xs) d l = omega (arith, d.1)
      below false (x ∷ xs) d l = omega (arith, d, l.1)

  -- a train that starts finds room in the round
  pub good-room : (k : ℕ) → k < 8 → count_of (ts k) ≡ 0 → named_of r < 8
  unfolding train_of round_of
  good-room k h z =
      let none_held : queued? (train_ring at k (head_of (ts k)) (count_of (ts k))) ≡ false = ap queued? (ap (train_ring at k (head_of (ts k))) z ∙ ring-none at k (head_of (ts k))) in
      let none_named : times k (round_of r) ≡ 0 = (good-each k h).named_once ∙ ap (λ (b : Bool). if b then 1 else 0) none_held in
      omega (
        arith,
        length-times 8 (round_of r) good-known,
        below_less (λ (i : ℕ). times i (round_of r)) 8 k good-once h none_named,
        length-fours (named_of r) (order_of r),
      )

  -- ---- the train in turn

  module _ (o : Ordered r) (some-named : 0 < named_of r) where
    abbrev k : ℕ
    k = turn_of r

    abbrev h : ℕ
    h = head_of (ts k)

    abbrev ks : List ℕ
    ks = fours (named_of r - 1) (order_of r / 16)

    cons : round_of r ≡ k ∷ ks
    cons = round-cons r (named_of r - 1) o (omega arith)

    lane-is : shared_of at ts r ≡ record { trains = trains_of at ts; round = k ∷ ks }
    unfolding shared_of
    lane-is = ap (λ (x : List ℕ). record { trains = trains_of at ts; round = x }) cons

    pub turn-known : k < 8
    turn-known = good-known k (rw cons (simp (eq-eqb k k refl) (omega arith)))

    in_turn_lem : GoodTrain L true (times k (round_of r)) (train_of at k (ts k))
    in_turn_lem = subst (λ (b : Bool). GoodTrain L b (times k (round_of r)) (train_of at k (ts k))) (ap (in_turn k) cons ∙ eq-eqb k k refl) (good-each k turn-known)

    holds-k : queued? (train_of at k (ts k)).queue ≡ true
    holds-k =
        subst (λ (t : Train). queued? t.queue ≡ true) (train-is ts at k turn-known) (turn_holds L (trains_of at ts) k ks (subst (GoodShared L) lane-is good))

    pub turn-count : 0 < count_of (ts k)
    unfolding train_of
    turn-count = go (count_of (ts k)) refl
      where
        go : (c : ℕ) → count_of (ts k) ≡ c → 0 < count_of (ts k)
        go zero z = absurd (false≢true (ap queued? (sym (ap (train_ring at k h) z ∙ ring-none at k h)) ∙ holds-k))
        go (suc c) z = omega arith

    queue-is : train_ring at k h (count_of (ts k)) ≡ at (place_in_train k h) ∷ train_ring at k ((h + 1) % 8) (count_of (ts k) - 1)
    queue-is = let c : count_of (ts k) ≡ suc (count_of (ts k) - 1) = omega (arith, turn-count) in ap (train_ring at k h) c ∙ ring-cons at k h (count_of (ts k) - 1)

    pub turn-covers : (at (place_in_train k h)).len ≤ deficit_of (ts k)
    unfolding train_of
    turn-covers = (subst (Deficit L true (deficit_of (ts k))) queue-is in_turn_lem.deficit).0

    pub chosen_is : shared_first (shared_of at ts r) ≡ some (record { train = k; item = at (place_in_train k h) })
    unfolding shared_first first_in_turn first_of_train train_of
    chosen_is = ap shared_first lane-is ∙ ap (λ (t : Train). first_of_train k t.queue) (train-is ts at k turn-known) ∙ ap (first_of_train k) queue-is
