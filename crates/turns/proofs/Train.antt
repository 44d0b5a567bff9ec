-- Laws of a train's number and of the lane's trains. Assumes nothing.
use Prim.Native.Nat.{ℕ, suc, ◌+◌, ◌*◌, ◌/◌, ◌%◌, ◌<◌}
use native.Mathlib.Nat.{add-zero, div-div-eq-div-mul}
use native.Mathlib.Omega.{arith}
use mathlib.Core.Path.{◌≡◌, refl, sym, ap, subst, ◌∙◌}
use mathlib.Core.Bool.{true, false}
use mathlib.Core.List.{List, [], ◌∷◌, ◌++◌}
use lib.ListN.{length, get_or, set}
use borrow.Author.Tests.{eq-eqb, ne_eqb}
use Rattle.words.specs.Runs.{tab, tab_from}
use Rattle.words.proofs.Runs.{tab-ext, tab-set, tab-cons, tab-snoc, length-tab, get_d-tab}
use Rattle.rounds.specs.Round.{BareRec, Train, no_train, empty_shared, raised, added, begin}
use Rattle.turns.specs.Turns.{head_of, count_of, deficit_of, place_in_train, train_ring, train_of, trains_of, shared_of, fours, round_of, turn_of, with, turn_begun}

-- ---- parts of a number

module _ (h n d : ℕ) (a : h < 8) (b : n < 16) where
  made-low : (n + 16 * d) % 16 ≡ n
  made-low = omega arith

  pub made-head : head_of (h + 8 * n + 128 * d) ≡ h
  made-head = omega arith

  pub made-count : count_of (h + 8 * n + 128 * d) ≡ n
  made-count = let v : (h + 8 * n + 128 * d) / 8 ≡ n + 16 * d = omega arith in ap (λ (y : ℕ). y % 16) v ∙ made-low

  pub made-deficit : deficit_of (h + 8 * n + 128 * d) ≡ d
  made-deficit = omega arith

module _ (t : ℕ) where
  sixteenths : (a : ℕ) → a / 128 ≡ a / 8 / 16
  sixteenths a = sym (div-div-eq-div-mul a 8 16)

  -- a number by its parts
  pub parts : t ≡ head_of t + 8 * count_of t + 128 * deficit_of t
  parts = let e = sixteenths t in omega arith

  pub more-head : head_of (t + 8) ≡ head_of t
  more-head = omega arith

  module _ (room : count_of t < 8) where
    eighth : (t + 8) / 8 ≡ t / 8 + 1
    eighth = omega arith

    next : (a : ℕ) → a % 16 < 8 → (a + 1) % 16 ≡ a % 16 + 1
    next a q = omega arith

    kept : (a : ℕ) → a % 16 < 8 → (a + 1) / 16 ≡ a / 16
    kept a q = omega arith

    pub more-count : count_of (t + 8) ≡ count_of t + 1
    more-count = ap (λ (a : ℕ). a % 16) eighth ∙ next (t / 8) room

    pub more-deficit : deficit_of (t + 8) ≡ deficit_of t
    more-deficit = sixteenths (t + 8) ∙ ap (λ (a : ℕ). a / 16) eighth ∙ kept (t / 8) room ∙ sym (sixteenths t)

  module _ (L : ℕ) where
    same-part : (a d : ℕ) → (a + 16 * d) % 16 ≡ a % 16
    same-part a d = omega arith

    raised-count : count_of (t + 128 * L) ≡ count_of t
    raised-count = let v : (t + 128 * L) / 8 ≡ t / 8 + 16 * L = omega arith in ap (λ (y : ℕ). y % 16) v ∙ same-part (t / 8) L

-- ---- the records of a train

module _ (at : ℕ → BareRec) (k : ℕ) where
  pub length-ring : (h n : ℕ) → length (train_ring at k h n) ≡ n
  unfolding train_ring
  length-ring h n = length-tab n _

  pub ring-none : (h : ℕ) → train_ring at k h 0 ≡ []
  unfolding train_ring tab tab_from
  ring-none h = refl

  pub ring-cons : (h n : ℕ) → train_ring at k h (suc n) ≡ at (place_in_train k h) ∷ train_ring at k ((h + 1) % 8) n
  unfolding train_ring
  ring-cons h n =
      let next : (i : ℕ) → place_in_train k (h + suc i) ≡ place_in_train k ((h + 1) % 8 + i) = λ i. omega arith in
      tab-cons n (λ i. at (place_in_train k (h + i))) (λ i. at (place_in_train k ((h + 1) % 8 + i))) (λ i. ap at (next i)) ∙ rw add-zero

  pub ring-snoc : (h n : ℕ) → train_ring at k h (n + 1) ≡ train_ring at k h n ++ (at (place_in_train k (h + n)) ∷ [])
  unfolding train_ring
  ring-snoc h n = tab-snoc n (λ i. at (place_in_train k (h + i)))

  pub train-made : (h n d : ℕ) → h < 8 → n < 16 → train_of at k (h + 8 * n + 128 * d) ≡ record { deficit = d; queue = train_ring at k h n }
  unfolding train_of
  train-made h n d a b = rw (made-head h n d a b, made-count h n d a b, made-deficit h n d a b)

  pub train-more : (t : ℕ) → count_of t < 8 → train_of at k (t + 8) ≡ added (train_of at k t) (at (place_in_train k (head_of t + count_of t)))
  unfolding train_of added
  train-more t room = rw (more-head t, more-count t room, more-deficit t room) (ap (λ (q : List BareRec). record { deficit = deficit_of t; queue = q }) (ring-snoc (head_of t) (count_of t)))

  pub train-raised : (t L : ℕ) → train_of at k (t + 128 * L) ≡ raised L (train_of at k t)
  unfolding train_of raised
  train-raised t L =
      let h : head_of (t + 128 * L) ≡ head_of t = omega arith in
      let d : deficit_of (t + 128 * L) ≡ deficit_of t + L = omega arith in
      rw (h, raised-count t L, d)

-- ---- the lane's trains

module _ (ts : ℕ → ℕ) where
  pub with-same : (k t : ℕ) → with ts k t k ≡ t
  unfolding with
  with-same k t = rw (eq-eqb k k refl)

  pub with-other : (k t i : ℕ) → (i ≡ k → ⊥) → with ts k t i ≡ ts i
  unfolding with
  with-other k t i n = rw (ne_eqb i k n)

  module _ (at : ℕ → BareRec) where
    pub trains-with : (k t : ℕ) → k < 8 → trains_of at (with ts k t) ≡ set (trains_of at ts) k (train_of at k t)
    unfolding trains_of
    trains-with k t h =
        tab-set 8 k (λ i. train_of at i (ts i)) (λ i. train_of at i (with ts k t i)) h (λ i p n. ap (train_of at i) (with-other k t i n))
        ∙ ap (λ (u : ℕ). set (tab 8 (λ i. train_of at i (ts i))) k (train_of at k u)) (with-same k t)

    pub train-is : (k : ℕ) → k < 8 → get_or (trains_of at ts) k no_train ≡ train_of at k (ts k)
    unfolding trains_of
    train-is k h = get_d-tab 8 k (λ i. train_of at i (ts i)) no_train h

    pub length-trains : length (trains_of at ts) ≡ 8
    unfolding trains_of
    length-trains = length-tab 8 _

    -- the turn of the round's first train begins
    pub begin-is : (L r k : ℕ) (ks : List ℕ) → round_of r ≡ k ∷ ks → turn_of r ≡ k → k < 8 → shared_of at (turn_begun L true ts r) r ≡ begin L (trains_of at ts) (round_of r)
    unfolding shared_of turn_begun begin
    begin-is L r k ks e q h =
        let raises : trains_of at (with ts (turn_of r) (ts (turn_of r) + 128 * L)) ≡ set (trains_of at ts) k (raised L (get_or (trains_of at ts) k no_train)) =
        rw q (trains-with k (ts k + 128 * L) h ∙ ap (set (trains_of at ts) k) (train-raised at k (ts k) L ∙ ap (raised L) (sym (train-is k h)))) in
        rw e (ap (λ (x : List Train). record { trains = x; round = k ∷ ks }) raises)

    pub not-begun : (L r : ℕ) → shared_of at (turn_begun L false ts r) r ≡ record { trains = trains_of at ts; round = round_of r }
    unfolding shared_of turn_begun
    not-begun L r = refl

-- only the numbers of the 8 trains and the records in their places count
pub shared_same : (at bt : ℕ → BareRec) (ts us : ℕ → ℕ) (r : ℕ) → ((p : ℕ) → p < 64 → at p ≡ bt p) → ((k : ℕ) → k < 8 → ts k ≡ us k) → shared_of at ts r ≡ shared_of bt us r
unfolding shared_of trains_of train_of train_ring
shared_same at bt ts us r f g =
    ap (λ (x : List Train). record { trains = x; round = round_of r })
    (tab-ext 8 _ _ (λ k h. rw (g k h) (ap (λ (q : List BareRec). record { deficit = deficit_of (us k); queue = q }) (tab-ext (count_of (us k)) _ _ (λ i p. f (place_in_train k (head_of (us k) + i)) (omega arith))))))

-- nor does the place behind a train's last record, where it has one
module _ (at bt : ℕ → BareRec) (ts : ℕ → ℕ) (r j : ℕ) (room : count_of (ts j) < 8) (f : (p : ℕ) → p < 64 → (p ≡ place_in_train j (head_of (ts j) + count_of (ts j)) → ⊥) → at p ≡ bt p) where
  apart : (k i : ℕ) → k < 8 → i < count_of (ts k) → place_in_train k (head_of (ts k) + i) ≡ place_in_train j (head_of (ts j) + count_of (ts j)) → ⊥
  apart k i h p e =
      let same : k ≡ j = omega arith in
      subst (λ (x : ℕ). i < count_of (ts x) → place_in_train x (head_of (ts x) + i) ≡ place_in_train j (head_of (ts j) + count_of (ts j)) → ⊥) (sym same) (λ a b. omega arith) p e

  pub shared-but : shared_of at ts r ≡ shared_of bt ts r
  unfolding shared_of trains_of train_of train_ring
  shared-but =
      ap (λ (x : List Train). record { trains = x; round = round_of r })
      (tab-ext 8 _ _ (λ k h. ap (λ (q : List BareRec). record { deficit = deficit_of (ts k); queue = q }) (tab-ext (count_of (ts k)) _ _ (λ i p. f (place_in_train k (head_of (ts k) + i)) (omega arith) (apart k i h p)))))

-- numbers of 0 are those of a lane in which nothing waits
pub shared-none : (at : ℕ → BareRec) → shared_of at (λ (k : ℕ). 0) 0 ≡ empty_shared
unfolding shared_of trains_of train_of train_ring round_of fours empty_shared tab tab_from
shared-none at = refl
