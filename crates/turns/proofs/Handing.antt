-- The chosen record handed out: what becomes of the lane. Assumes nothing.
use Prim.Native.Nat.{ℕ, suc, ◌+◌, ◌-◌, ◌*◌, ◌/◌, ◌%◌, ◌^◌, ◌≤◌, ◌<◌}
use native.Mathlib.Omega.{arith}
use mathlib.Core.Path.{◌≡◌, refl, sym, ap, subst, ◌∙◌}
use mathlib.Core.Bool.{true, false, false≢true}
use mathlib.Core.List.{List, [], ◌∷◌, ◌++◌}
use lib.ListN.{set}
use borrow.Author.Tests.{le-leb, lt-leb, eq-eqb}
use Rattle.units.specs.Plain.{times}
use Rattle.units.proofs.Lists.{times-append}
use Rattle.rounds.specs.Round.{BareRec, Train, no_train, begin, hand_of, hand_in, shared_hand_out}
use Rattle.turns.specs.Turns.{head_of, count_of, deficit_of, place_in_train, train_ring, train_of, trains_of, shared_of, fours, named_of, order_of, round_of, turn_of, Ordered, NamesTrains, Light, with, turn_begun, HandsOutTurn}
use Rattle.turns.proofs.Round.{round-cons, ordered-rest, round-rest, named-rest, ordered-turned, round-turned, named-turned}
use Rattle.turns.proofs.Train.{ring-none, ring-cons, train-made, trains-with, train-is, begin-is, not-begun}

module _ (t r : ℕ) (light : Light t) (some-held : 0 < count_of t) (o : Ordered r) (known : NamesTrains r) (m : ℕ) (named : named_of r ≡ suc m) where
  abbrev k : ℕ
  k = turn_of r

  abbrev h : ℕ
  h = (head_of t + 1) % 8

  abbrev ks : List ℕ
  ks = fours m (order_of r / 16)

  first-known : (j : ℕ) (js : List ℕ) → ((i : ℕ) → 0 < times i (j ∷ js) → i < 8) → j < 8
  first-known j js f = f j (simp (eq-eqb j j refl) (omega arith))

  in-round : (i : ℕ) → 0 < times i (k ∷ ks) → i < 8
  in-round i q = known i (subst (λ (x : List ℕ). 0 < times i x) (sym (round-cons r m o named)) q)

  pub turn_small : k < 8
  turn_small = first-known k ks in-round

  rest-known : (i : ℕ) → 0 < times i ks → i < 8
  rest-known i q = in-round i (omega arith)

  turned-known : (i : ℕ) → 0 < times i (ks ++ (k ∷ [])) → i < 8
  turned-known i q = in-round i (omega (arith, times-append i ks (k ∷ [])))

  -- the train that a round names first is a train
  turn-of : (q n : ℕ) → Ordered q → named_of q ≡ suc n → ((i : ℕ) → 0 < times i (round_of q) → i < 8) → turn_of q < 8
  turn-of q n oq nq f = first-known (turn_of q) (fours n (order_of q / 16)) (λ i p. f i (subst (λ (x : List ℕ). 0 < times i x) (sym (round-cons q n oq nq)) p))

  abbrev left : ℕ
  left = order_of r / 16 + 2 ^ 32 * m

  abbrev turned : ℕ
  turned = order_of r / 16 + k * 16 ^ m + 2 ^ 32 * suc m

  left-turn : (n : ℕ) → m ≡ suc n → turn_of left < 8
  left-turn n z = turn-of left n (ordered-rest r m o named) (named-rest r m o named ∙ z) (λ i p. rest-known i (subst (λ (x : List ℕ). 0 < times i x) (round-rest r m o named) p))

  turned_turn : turn_of turned < 8
  turned_turn = turn-of turned m (ordered-turned r m o named) (named-turned r m o named) (λ i p. turned-known i (subst (λ (x : List ℕ). 0 < times i x) (round-turned r m o named) p))

  module _ (L : ℕ) (at : ℕ → BareRec) (ts : ℕ → ℕ) (is : ts k ≡ t) where
    abbrev e : BareRec
    e = at (place_in_train k (head_of t))

    handed-is : shared_hand_out L (shared_of at ts r) ≡ hand_of L (trains_of at ts) k ks (deficit_of t) (train_ring at k (head_of t) (count_of t))
    unfolding shared_hand_out hand_in train_of shared_of
    handed-is = rw (round-cons r m o named) (ap (λ (x : Train). hand_of L (trains_of at ts) k ks x.deficit x.queue) (train-is ts at k turn_small ∙ ap (train_of at k) is))

    -- the only record: the train leaves the round
    module _ (one : count_of t ≡ 1) where
      last-trains : trains_of at (with ts k h) ≡ set (trains_of at ts) k no_train
      last-trains =
          let number : h ≡ h + 8 * 0 + 128 * 0 = omega arith in
          trains-with ts at k h turn_small
          ∙ ap (set (trains_of at ts) k) (ap (train_of at k) number ∙ train-made at k h 0 0 (omega arith) (omega arith) ∙ ap (λ (q : List BareRec). record { deficit = 0; queue = q }) (ring-none at k h))

      last-is : shared_hand_out L (shared_of at ts r) ≡ begin L (trains_of at (with ts k h)) ks
      unfolding hand_of
      last-is =
          handed-is
          ∙ ap (hand_of L (trains_of at ts) k ks (deficit_of t)) (ap (train_ring at k (head_of t)) one ∙ ring-cons at k (head_of t) 0 ∙ ap (λ (q : List BareRec). e ∷ q) (ring-none at k h))
          ∙ ap (λ (x : List Train). begin L x ks) (sym last-trains)

      last_none : m ≡ 0 → shared_of at (turn_begun L false (with ts k h) left) left ≡ shared_hand_out L (shared_of at ts r)
      unfolding fours begin
      last_none z =
          not-begun (with ts k h) at L left
          ∙ ap (λ (x : List ℕ). record { trains = trains_of at (with ts k h); round = x }) (round-rest r m o named ∙ nobody)
          ∙ sym (last-is ∙ ap (begin L (trains_of at (with ts k h))) nobody ∙ over)
        where
          nobody : ks ≡ []
          nobody = ap (λ (n : ℕ). fours n (order_of r / 16)) z

          over : begin L (trains_of at (with ts k h)) [] ≡ record { trains = trains_of at (with ts k h); round = [] }
          over = refl

      last_some : (n : ℕ) → m ≡ suc n → shared_of at (turn_begun L true (with ts k h) left) left ≡ shared_hand_out L (shared_of at ts r)
      last_some n z =
          let cons : round_of left ≡ turn_of left ∷ fours n (order_of left / 16) = round-cons left n (ordered-rest r m o named) (named-rest r m o named ∙ z) in
          begin-is (with ts k h) at L left (turn_of left) (fours n (order_of left / 16)) cons refl (left-turn n z)
          ∙ ap (begin L (trains_of at (with ts k h))) (round-rest r m o named)
          ∙ sym last-is

    -- more records
    module _ (c : ℕ) (more : count_of t ≡ suc (suc c)) (d : ℕ) (d-is : d ≡ deficit_of t - e.len) where
      abbrev x : ℕ
      x = h + 8 * suc c + 128 * d

      abbrev f : BareRec
      f = at (place_in_train k h)

      queue-is : train_ring at k (head_of t) (count_of t) ≡ e ∷ f ∷ train_ring at k ((h + 1) % 8) c
      queue-is = ap (train_ring at k (head_of t)) more ∙ ring-cons at k (head_of t) (suc c) ∙ ap (λ (q : List BareRec). e ∷ q) (ring-cons at k h c)

      left-trains : trains_of at (with ts k x) ≡ set (trains_of at ts) k (record { deficit = deficit_of t - e.len; queue = f ∷ train_ring at k ((h + 1) % 8) c })
      left-trains =
          trains-with ts at k x turn_small
          ∙ ap (set (trains_of at ts) k) (train-made at k h (suc c) d (omega arith) (omega (arith, light.0)) ∙ rw (d-is, ring-cons at k h c))

      stays-lane : f.len ≤ d → shared_of at (turn_begun L false (with ts k x) r) r ≡ shared_hand_out L (shared_of at ts r)
      unfolding hand_of
      stays-lane p =
          not-begun (with ts k x) at L r
          ∙ ap (λ (y : List ℕ). record { trains = trains_of at (with ts k x); round = y }) (round-cons r m o named)
          ∙ ap (λ (y : List Train). record { trains = y; round = k ∷ ks }) left-trains
          ∙ sym (handed-is ∙ ap (hand_of L (trains_of at ts) k ks (deficit_of t)) queue-is ∙ simp (le-leb f.len (deficit_of t - e.len) (omega arith)))

      goes-lane : d < f.len → shared_of at (turn_begun L true (with ts k x) turned) turned ≡ shared_hand_out L (shared_of at ts r)
      unfolding hand_of
      goes-lane p =
          begin-round
          ∙ ap (begin L (trains_of at (with ts k x))) (round-turned r m o named)
          ∙ ap (λ (y : List Train). begin L y (ks ++ (k ∷ []))) left-trains
          ∙ sym (handed-is ∙ ap (hand_of L (trains_of at ts) k ks (deficit_of t)) queue-is ∙ simp (lt-leb f.len (deficit_of t - e.len) (omega arith)))
        where
          begin-round : shared_of at (turn_begun L true (with ts k x) turned) turned ≡ begin L (trains_of at (with ts k x)) (round_of turned)
          begin-round =
              let cons : round_of turned ≡ turn_of turned ∷ fours m (order_of turned / 16) = round-cons turned m (ordered-turned r m o named) (named-turned r m o named) in
              begin-is (with ts k x) at L turned (turn_of turned) (fours m (order_of turned / 16)) cons refl turned_turn

  -- ---- what it leaves

  module _ (length next : ℕ) where
    pub hands-last-none : count_of t ≡ 1 → m ≡ 0 → HandsOutTurn t r length next (record { train = h; round = left; begins = false })
    hands-last-none one z = record { lane = λ L at ts is a b. last_none L at ts is one z; ordered = ordered-rest r m o named; small = omega arith; turn = λ q. absurd (false≢true q) }

    pub hands-last-some : (n : ℕ) → count_of t ≡ 1 → m ≡ suc n → HandsOutTurn t r length next (record { train = h; round = left; begins = true })
    hands-last-some n one z = record { lane = λ L at ts is a b. last_some L at ts is one n z; ordered = ordered-rest r m o named; small = omega arith; turn = λ q. left-turn n z }

    module _ (c : ℕ) (more : count_of t ≡ suc (suc c)) where
      abbrev d : ℕ
      d = deficit_of t - length

      abbrev fewer : ℕ
      fewer = h + 8 * suc c + 128 * d

      small-x : fewer < 2 ^ 20
      small-x = omega (arith, light.0, light.1)

      next_place : (at : ℕ → BareRec) → (at (place_in_train k (head_of t + 1))).len ≡ next → (at (place_in_train k h)).len ≡ next
      next_place at q = let p : place_in_train k h ≡ place_in_train k (head_of t + 1) = omega arith in ap (λ (i : ℕ). (at i).len) p ∙ q

      pub hands-stays : next ≤ d → HandsOutTurn t r length next (record { train = fewer; round = r; begins = false })
      hands-stays p = record {
        lane = λ L at ts is a b. stays-lane L at ts is c more d (ap (λ (y : ℕ). deficit_of t - y) (sym a)) (omega (arith, next_place at b));
        ordered = o;
        small = small-x;
        turn = λ q. absurd (false≢true q);
      }

      pub hands-goes : d < next → HandsOutTurn t r length next (record { train = fewer; round = turned; begins = true })
      hands-goes p = record {
        lane = λ L at ts is a b. goes-lane L at ts is c more d (ap (λ (y : ℕ). deficit_of t - y) (sym a)) (omega (arith, next_place at b));
        ordered = ordered-turned r m o named;
        small = small-x;
        turn = λ q. turned_turn;
      }
