-- A shared lane is good exactly if its round names trains once each, and each train's number is as it must be. Assumes nothing.
use Prim.Native.Nat.{ℕ, zero, suc, ◌+◌, ◌-◌, ◌%◌, ◌≤◌, ◌<◌}
use native.Mathlib.Numerals.{add-one}
use native.Mathlib.Omega.{arith}
use native.Mathlib.Decide.{dec_lt}
use mathlib.Core.Path.{◌≡◌, refl, sym, ap, subst, ◌∙◌}
use mathlib.Core.Bool.{Bool, true, false}
use mathlib.Core.List.{List, [], ◌∷◌}
use lib.Dec.{eqb}
use lib.ListN.{get_or, get_or-eq_default}
use Rattle.std.specs.Prelude.{if◌then◌else◌}
use Rattle.units.specs.Plain.{times, sum}
use Rattle.units.proofs.Lists.{sum-append}
use Rattle.words.specs.Runs.{tab, tab_from}
use Rattle.words.proofs.Runs.{tab-snoc}
use Rattle.rounds.specs.Round.{BareRec, no_train, queued?, in_turn, train_held, shared_held}
use Rattle.rounds.specs.Good.{Lengths, Deficit, GoodTrain, GoodShared}
use Rattle.rounds.proofs.Test.{not-in-turn}
use Rattle.turns.specs.Turns.{head_of, count_of, deficit_of, place_in_train, train_ring, train_of, trains_of, shared_of, fours, named_of, order_of, round_of, turn_of, Ordered}
use Rattle.turns.proofs.Train.{parts, length-ring, ring-none, ring-cons, train-is, length-trains}
use Rattle.turns.proofs.Good.{good-known, good-once, good-each}
use Rattle.round_test.specs.Shared.{LengthsFit, TrainFine, below, held_below, SharedGood}

-- ---- one train

-- all places hold lengths within the numbers, so the records of a train do
lengths-fit : (L : ℕ) (at : ℕ → BareRec) (k h n : ℕ) → k < 8 → ((p : ℕ) → p < 64 → (1 ≤ (at p).len) × ((at p).len ≤ L)) → Lengths L (train_ring at k h n)
lengths-fit L at k h zero hk fit = rw (ring-none at k h) tt
lengths-fit L at k h (suc n) hk fit =
    let f = fit (place_in_train k h) (omega arith) in
    rw (ring-cons at k h n) (f.0, f.1, lengths-fit L at k ((h + 1) % 8) n hk fit)

-- at most once, and not none
one : (n : ℕ) → suc n ≤ 1 → suc n ≡ 1
one n h = omega arith

module _ (L : ℕ) (at : ℕ → BareRec) (k t : ℕ) (hk : k < 8) (fit : (p : ℕ) → p < 64 → (1 ≤ (at p).len) × ((at p).len ≤ L)) where
  abbrev q : List BareRec
  q = train_ring at k (head_of t) (count_of t)

  abbrev len : ℕ
  len = (at (place_in_train k (head_of t))).len

  none-queue : count_of t ≡ 0 → q ≡ []
  none-queue z = ap (train_ring at k (head_of t)) z ∙ ring-none at k (head_of t)

  some-queue : 0 < count_of t → q ≡ at (place_in_train k (head_of t)) ∷ train_ring at k ((head_of t + 1) % 8) (count_of t - 1)
  some-queue p = let c : count_of t ≡ suc (count_of t - 1) = omega arith in ap (train_ring at k (head_of t)) c ∙ ring-cons at k (head_of t) (count_of t - 1)

  -- as the number must be, so the train is good
  pub fine-good : (n : ℕ) (turn : Bool) → n ≤ 1 → TrainFine L n turn t len → GoodTrain L turn n (train_of at k t)
  unfolding TrainFine train_of
  fine-good zero turn h f =
      let none : q ≡ [] = none-queue (omega (arith, parts t)) in
      let zero-deficit : deficit_of t ≡ 0 = omega (arith, parts t) in
      record {
        room = omega (arith, length-ring at k (head_of t) (count_of t), parts t);
        lengths = lengths-fit L at k (head_of t) (count_of t) hk fit;
        deficit = subst (λ (x : List BareRec). Deficit L turn (deficit_of t) x) (sym none) zero-deficit;
        named_once = sym (ap (λ (x : List BareRec). if queued? x then 1 else 0) none);
      }
  fine-good (suc n) true h f =
      let cons = some-queue f.0 in
      record {
        room = omega (arith, length-ring at k (head_of t) (count_of t), f.1);
        lengths = lengths-fit L at k (head_of t) (count_of t) hk fit;
        deficit = subst (λ (x : List BareRec). Deficit L true (deficit_of t) x) (sym cons) (f.2, f.3);
        named_once = one n h ∙ sym (ap (λ (x : List BareRec). if queued? x then 1 else 0) cons);
      }
  fine-good (suc n) false h f =
      let cons = some-queue f.0 in
      record {
        room = omega (arith, length-ring at k (head_of t) (count_of t), f.1);
        lengths = lengths-fit L at k (head_of t) (count_of t) hk fit;
        deficit = subst (λ (x : List BareRec). Deficit L false (deficit_of t) x) (sym cons) f.2;
        named_once = one n h ∙ sym (ap (λ (x : List BareRec). if queued? x then 1 else 0) cons);
      }

  -- and the other way
  pub good-fine : (n : ℕ) (turn : Bool) → GoodTrain L turn n (train_of at k t) → TrainFine L n turn t len
  unfolding TrainFine train_of
  good-fine n turn g = go (count_of t) refl n turn g
    where
      go : (c : ℕ) → count_of t ≡ c → (n : ℕ) (turn : Bool) → GoodTrain L turn n (train_of at k t) → TrainFine L n turn t len
      go zero z zero turn g = let d : deficit_of t ≡ 0 = subst (λ (x : List BareRec). Deficit L turn (deficit_of t) x) (none-queue z) g.deficit in omega (arith, parts t)
      go zero z (suc n) turn g = absurd (omega (arith, g.named_once ∙ ap (λ (x : List BareRec). if queued? x then 1 else 0) (none-queue z)))
      go (suc c) z zero turn g = absurd (omega (arith, g.named_once ∙ ap (λ (x : List BareRec). if queued? x then 1 else 0) (some-queue (omega arith))))
      go (suc c) z (suc n) true g =
          let d : Deficit L true (deficit_of t) (at (place_in_train k (head_of t)) ∷ train_ring at k ((head_of t + 1) % 8) (count_of t - 1)) = subst (λ (x : List BareRec). Deficit L true (deficit_of t) x) (some-queue (omega arith)) g.deficit in
          (omega arith, omega (arith, g.room, length-ring at k (head_of t) (count_of t)), d.0, d.1)
      go (suc c) z (suc n) false g =
          let d : Deficit L false (deficit_of t) (at (place_in_train k (head_of t)) ∷ train_ring at k ((head_of t + 1) % 8) (count_of t - 1)) = subst (λ (x : List BareRec). Deficit L false (deficit_of t) x) (some-queue (omega arith)) g.deficit in
          (omega arith, omega (arith, g.room, length-ring at k (head_of t) (count_of t)), d)

-- ---- how many records are held

held-tab : (at : ℕ → BareRec) (ts : ℕ → ℕ) (n : ℕ) → sum train_held (tab n (λ k. train_of at k (ts k))) ≡ held_below ts n
unfolding below tab tab_from train_of
held-tab at ts zero = refl
held-tab at ts (suc n) =
    ap (λ (m : ℕ). sum train_held (tab m (λ k. train_of at k (ts k)))) (sym (add-one n))
    ∙ ap (sum train_held) (tab-snoc n (λ k. train_of at k (ts k)))
    ∙ sum-append train_held (tab n (λ k. train_of at k (ts k))) (train_of at n (ts n) ∷ [])
    ∙ omega (arith, held-tab at ts n, length-ring at n (head_of (ts n)) (count_of (ts n)))

pub held-is : (at : ℕ → BareRec) (ts : ℕ → ℕ) (r : ℕ) → shared_held (shared_of at ts r) ≡ held_below ts 8
unfolding shared_of trains_of
held-is at ts r = held-tab at ts 8

-- ---- the lane

module _ (L r count : ℕ) (ts lengths : ℕ → ℕ) (o : Ordered r) (some_bytes : (p : ℕ) → 1 ≤ lengths p) (fit : LengthsFit L lengths) where
  abbrev first-length : ℕ → ℕ
  first-length k = lengths (place_in_train k (head_of (ts k)))

  abbrev Fine : ℕ → Type 0
  Fine k = TrainFine L (times k (round_of r)) (eqb (turn_of r) k) (ts k) (first-length k)

  module _ (at : ℕ → BareRec) (are : (p : ℕ) → p < 64 → (at p).len ≡ lengths p) where
    within : (p : ℕ) → p < 64 → (1 ≤ (at p).len) × ((at p).len ≤ L)
    within p h = (omega (arith, are p h, some_bytes p), omega (arith, are p h, fit p h))

    first-is : (k : ℕ) → k < 8 → (at (place_in_train k (head_of (ts k)))).len ≡ first-length k
    first-is k h = are (place_in_train k (head_of (ts k))) (omega arith)

  -- a round that names no train has none in turn, and then the number says nothing of a turn
  turned : (k : ℕ) (P : Bool → Type 0) → (times k (round_of r) ≡ 0 → (a b : Bool) → P a → P b) → P (eqb (turn_of r) k) → P (in_turn k (round_of r))
  unfolding round_of fours
  turned k P any p = go (named_of r) refl
    where
      go : (n : ℕ) → named_of r ≡ n → P (in_turn k (fours (named_of r) (order_of r)))
      go zero z = any (ap (λ (m : ℕ). times k (fours m (order_of r))) z) (eqb (turn_of r) k) (in_turn k (fours (named_of r) (order_of r))) p
      go (suc m) z = subst (λ (x : ℕ). P (in_turn k (fours x (order_of r)))) (sym z) p

  turned-back : (k : ℕ) (P : Bool → Type 0) → (times k (round_of r) ≡ 0 → (a b : Bool) → P a → P b) → P (in_turn k (round_of r)) → P (eqb (turn_of r) k)
  unfolding round_of fours
  turned-back k P any p = go (named_of r) refl
    where
      go : (n : ℕ) → named_of r ≡ n → P (eqb (turn_of r) k)
      go zero z = any (ap (λ (m : ℕ). times k (fours m (order_of r))) z) (in_turn k (fours (named_of r) (order_of r))) (eqb (turn_of r) k) p
      go (suc m) z = subst (λ (x : ℕ). P (in_turn k (fours x (order_of r)))) z p

  no-turn : (n t len : ℕ) → n ≡ 0 → (a b : Bool) → TrainFine L n a t len → TrainFine L n b t len
  unfolding TrainFine
  no-turn zero t len z a b f = f
  no-turn (suc n) t len z a b f = absurd (omega arith)

  pub all-good : ((k : ℕ) → k < 8 → Fine k) → ((k : ℕ) → k < 8 → times k (round_of r) ≤ 1) → ((k : ℕ) → 8 ≤ k → times k (round_of r) ≡ 0) → held_below ts 8 ≡ count → SharedGood L ts lengths r count
  unfolding shared_of
  all-good fine once known counted =
      record {
        ordered = o;
        lane = λ at are. record { size = length-trains ts at; each = λ k. elim (dec_lt k 8) [ yes h ↦ near at are k h | no h ↦ far at k (omega arith) ] };
        held = λ at. held-is at ts r ∙ counted;
      }
    where
      near : (at : ℕ → BareRec) → ((p : ℕ) → p < 64 → (at p).len ≡ lengths p) → (k : ℕ) → k < 8 → GoodTrain L (in_turn k (round_of r)) (times k (round_of r)) (get_or (trains_of at ts) k no_train)
      near at are k h =
          let f : TrainFine L (times k (round_of r)) (eqb (turn_of r) k) (ts k) (at (place_in_train k (head_of (ts k)))).len = rw (first-is at are k h) (fine k h) in
          let g : TrainFine L (times k (round_of r)) (in_turn k (round_of r)) (ts k) (at (place_in_train k (head_of (ts k)))).len =
          turned k (λ (b : Bool). TrainFine L (times k (round_of r)) b (ts k) (at (place_in_train k (head_of (ts k)))).len) (λ z a b. no-turn (times k (round_of r)) (ts k) (at (place_in_train k (head_of (ts k)))).len z a b) f in
          rw (train-is ts at k h) (fine-good L at k (ts k) h (within at are) (times k (round_of r)) (in_turn k (round_of r)) (once k h) g)

      far : (at : ℕ → BareRec) (k : ℕ) → 8 ≤ k → GoodTrain L (in_turn k (round_of r)) (times k (round_of r)) (get_or (trains_of at ts) k no_train)
      far at k h =
          let none = known k h in
          rw (get_or-eq_default (trains_of at ts) no_train {n = k} (omega (arith, length-trains ts at)), not-in-turn k (round_of r) none, none) (record { room = omega arith; lengths = tt; deficit = refl; named_once = refl })

  some-records : ℕ → BareRec
  some-records p = record { mark = 0; len = lengths p }

  module _ (g : SharedGood L ts lengths r count) where
    some_lane : GoodShared L (shared_of some-records ts r)
    unfolding some-records
    some_lane = g.lane some-records (λ p q. refl)

    pub good-all : (k : ℕ) → k < 8 → Fine k
    unfolding some-records
    good-all k h =
        let f = good-fine L some-records k (ts k) h (within some-records (λ p q. refl)) (times k (round_of r)) (in_turn k (round_of r)) (good-each L r some-records ts some_lane k h) in
        turned-back k (λ (b : Bool). TrainFine L (times k (round_of r)) b (ts k) (first-length k)) (λ z a b. no-turn (times k (round_of r)) (ts k) (first-length k) z a b) f

    pub named_once : (k : ℕ) → times k (round_of r) ≤ 1
    named_once = good-once L r some-records ts some_lane

    pub named-known : (k : ℕ) → 0 < times k (round_of r) → k < 8
    named-known = good-known L r some-records ts some_lane

    pub good-held : held_below ts 8 ≡ count
    good-held = sym (held-is some-records ts r) ∙ g.held some-records
