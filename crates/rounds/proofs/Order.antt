-- The chosen record is there whenever a train holds one, and no put changes it; a put brings its record behind those of its train, and a hand-out takes the
-- first of one train's: each train's records go out once and in order. Assumes nothing.
use Prim.Native.Nat.{ℕ, ◌-◌, ◌≤◌, ◌<◌}
use native.Mathlib.Omega.{arith}
use mathlib.Core.Path.{◌≡◌, refl, ap}
use mathlib.Core.Option.{some}
use mathlib.Core.List.{List, [], ◌∷◌, ◌++◌, append-nil}
use lib.Dec.{leb, eqb}
use lib.ListN.{length, get_or, set}
use borrow.Author.Tests.{eq-eqb, ne_eqb}
use Rattle.std.specs.Prelude.{if◌then◌else◌}
use Rattle.units.proofs.Bools.{if-ind}
use Rattle.units.proofs.Lists.{set_cases, set_keeps}
use Rattle.rounds.specs.Round.{BareRec, Train, Shared, no_train, train_at, train_holds, TrainItem, first_of_train, first_in_turn, shared_first, raised, begin, added, join, shared_put, hand_of, hand_in, shared_hand_out}
use Rattle.rounds.specs.Good.{Lengths, GoodShared}
use Rattle.rounds.specs.Runs.{item_of_train}
use Rattle.rounds.proofs.KeepHand.{held-inside, turn_holds}

-- ---- the chosen record

pub first_fits : (L : ℕ) (s : Shared) (x : TrainItem) → GoodShared L s → shared_first s ≡ some x → (0 < x.item.len) × (x.item.len ≤ L)
unfolding shared_first first_in_turn first_of_train
first_fits L s x g e = go s.trains s.round g e
  where
    fits : (k : ℕ) (q : List BareRec) → Lengths L q → first_of_train k q ≡ some x → (0 < x.item.len) × (x.item.len ≤ L)
    fits k [] l e = let z : ◌≡◌ {A = ℕ} 0 1 = cc in absurd (omega arith)
    fits k (r ∷ rs) l e = let h : r ≡ x.item = cc in (omega (arith, l.0, ap (λ (y : BareRec). y.len) h), omega (arith, l.1, ap (λ (y : BareRec). y.len) h))

    go : (ts : List Train) (ks : List ℕ) → GoodShared L (record { trains = ts; round = ks }) → first_in_turn ts ks ≡ some x → (0 < x.item.len) × (x.item.len ≤ L)
    go ts [] g e = let z : ◌≡◌ {A = ℕ} 0 1 = cc in absurd (omega arith)
    go ts (k ∷ ks) g e = fits k (get_or ts k no_train).queue (g.each k).lengths e

-- no put changes the chosen record
pub first-stays : (L : ℕ) (s : Shared) (k : ℕ) (r : BareRec) (x : TrainItem) → k < length s.trains → shared_first s ≡ some x → shared_first (shared_put L s k r) ≡ some x
unfolding shared_first first_in_turn first_of_train shared_put join added
first-stays L s k r x inside e =
    if-ind (λ (u : Shared). shared_first u ≡ some x) (train_holds s k) _ _ (λ h. go s.round e) (λ h. joins s.round e)
  where
    ts' : List Train
    ts' = set s.trains k (added (train_at s k) r)

    longer : (j : ℕ) (q : List BareRec) → first_of_train j q ≡ some x → first_of_train j (q ++ (r ∷ [])) ≡ some x
    longer j [] h = let z : ◌≡◌ {A = ℕ} 0 1 = cc in absurd (omega arith)
    longer j (y ∷ ys) h = h

    go : (ks : List ℕ) → first_in_turn s.trains ks ≡ some x → first_in_turn ts' ks ≡ some x
    go [] h = h
    go (j ∷ js) h =
        set_cases (λ (m : Train). first_of_train j m.queue ≡ some x) s.trains k j (added (train_at s k) r) no_train inside
        (λ q. longer j (train_at s k).queue (rw q h)) (λ n. h)

    joins : (ks : List ℕ) → first_in_turn s.trains ks ≡ some x → shared_first (join L ts' ks k) ≡ some x
    joins [] h = let z : ◌≡◌ {A = ℕ} 0 1 = cc in absurd (omega arith)
    joins (j ∷ js) h = go (j ∷ js) h

-- ---- what one operation does to one queue

pub begin-queue : (L : ℕ) (ts : List Train) (ks : List ℕ) (j : ℕ) → (train_at (begin L ts ks) j).queue ≡ (get_or ts j no_train).queue
unfolding begin raised
begin-queue L ts [] j = refl
begin-queue L ts (k ∷ ks) j = set_keeps (λ (t : Train). t.queue) ts k j (raised L (get_or ts k no_train)) no_train refl

-- the queues after a put
pub put-queue : (L : ℕ) (s : Shared) (k j : ℕ) (r : BareRec) → (train_at (shared_put L s k r) j).queue ≡ (get_or (set s.trains k (added (train_at s k) r)) j no_train).queue
unfolding shared_put join
put-queue L s k j r =
    if-ind (λ (u : Shared). (train_at u j).queue ≡ (get_or (set s.trains k (added (train_at s k) r)) j no_train).queue) (train_holds s k) _ _ (λ e. refl) (λ e. go s.round)
  where
    go : (ks : List ℕ) → (train_at (join L (set s.trains k (added (train_at s k) r)) ks k) j).queue ≡ (get_or (set s.trains k (added (train_at s k) r)) j no_train).queue
    go [] = begin-queue L (set s.trains k (added (train_at s k) r)) (k ∷ []) j
    go (i ∷ is) = refl

pub put-fifo : (L : ℕ) (s : Shared) (k j : ℕ) (r : BareRec) → k < length s.trains
    → (train_at s j).queue ++ item_of_train j (some (record { train = k; item = r })) ≡ (train_at (shared_put L s k r) j).queue
unfolding item_of_train added
put-fifo L s k j r inside =
    rw (put-queue L s k j r)
    (set_cases (λ (m : Train). (train_at s j).queue ++ (if eqb k j then r ∷ [] else []) ≡ m.queue) s.trains k j (added (train_at s k) r) no_train inside
    (λ e. rw (← e) (simp (eq-eqb k k refl)))
    (λ n. simp (ne_eqb k j n, append-nil)))

-- the queues after a hand-out: only the train in turn has lost its first record
pub hand-of-fifo : (L : ℕ) (ts : List Train) (k : ℕ) (ks : List ℕ) (d : ℕ) (q : List BareRec) → (get_or ts k no_train).queue ≡ q → k < length ts → (j : ℕ)
    → (get_or ts j no_train).queue ≡ item_of_train j (first_of_train k q) ++ (train_at (hand_of L ts k ks d q) j).queue
unfolding hand_of first_of_train item_of_train
hand-of-fifo L ts k ks d [] e inside j = refl
hand-of-fifo L ts k ks d (r ∷ []) e inside j =
    rw (begin-queue L (set ts k no_train) ks j)
    (set_cases (λ (m : Train). (get_or ts j no_train).queue ≡ (if eqb k j then r ∷ [] else []) ++ m.queue) ts k j no_train no_train inside
    (λ h. rw (← h, eq-eqb k k refl) e) (λ n. simp (ne_eqb k j n)))
hand-of-fifo L ts k ks d (r ∷ r' ∷ rs) e inside j =
    if-ind (λ (u : Shared). (get_or ts j no_train).queue ≡ (if eqb k j then r ∷ [] else []) ++ (train_at u j).queue) (leb r'.len (d - r.len)) _ _
    (λ c. shorter) (λ c. rw (begin-queue L (set ts k left) (ks ++ (k ∷ [])) j) shorter)
  where
    left : Train
    left = record { deficit = d - r.len; queue = r' ∷ rs }

    shorter : (get_or ts j no_train).queue ≡ (if eqb k j then r ∷ [] else []) ++ (get_or (set ts k left) j no_train).queue
    shorter =
        set_cases (λ (m : Train). (get_or ts j no_train).queue ≡ (if eqb k j then r ∷ [] else []) ++ m.queue) ts k j left no_train inside
        (λ h. rw (← h, eq-eqb k k refl) e) (λ n. simp (ne_eqb k j n))

pub hand-fifo : (L : ℕ) (s : Shared) → GoodShared L s → (j : ℕ) → (train_at s j).queue ≡ item_of_train j (shared_first s) ++ (train_at (shared_hand_out L s) j).queue
unfolding shared_first first_in_turn shared_hand_out hand_in item_of_train
hand-fifo L s g j = go s.trains s.round g
  where
    go : (ts : List Train) (ks : List ℕ) → GoodShared L (record { trains = ts; round = ks }) → (get_or ts j no_train).queue ≡ item_of_train j (first_in_turn ts ks) ++ (train_at (hand_in L ts ks) j).queue
    go ts [] g = refl
    go ts (k ∷ ks) g = hand-of-fifo L ts k ks (get_or ts k no_train).deficit (get_or ts k no_train).queue refl (held-inside ts k (turn_holds L ts k ks g)) j
