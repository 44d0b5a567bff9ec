-- How many records wait, and that none does where no record is chosen. Assumes nothing.
use Prim.Native.Nat.{ℕ, zero, suc, ◌-◌, ◌*◌, ◌≤◌, ◌<◌}
use native.Mathlib.Omega.{arith}
use mathlib.Core.Path.{◌≡◌, refl, sym, ap, subst, ◌∙◌}
use mathlib.Core.Bool.{Bool, true, false, false≢true}
use mathlib.Core.Option.{none, some}
use mathlib.Core.List.{List, [], ◌∷◌, ◌++◌}
use lib.Dec.{leb}
use lib.ListN.{length, get_or, set, replicate, length-append}
use lib.Seq.{get_or-set_same}
use borrow.Author.Tests.{eq-eqb}
use Rattle.std.specs.Prelude.{if◌then◌else◌}
use Rattle.units.specs.Plain.{sum, times}
use Rattle.units.proofs.Bools.{if-ind}
use Rattle.units.proofs.Lists.{sum-set, sum_bound, sum-zero}
use Rattle.rounds.specs.Round.{BareRec, Train, Shared, train_count, train_depth, no_train, queued?, train_at, train_holds, empty_shared, train_held, shared_held, TrainItem, first_of_train, first_in_turn, shared_first, raised, begin, added, join, shared_put, hand_of, hand_in, shared_hand_out}
use Rattle.rounds.specs.Good.{Deficit, GoodTrain, GoodShared}
use Rattle.rounds.proofs.KeepHand.{held-inside, turn_holds}
use Rattle.rounds.proofs.Order.{begin-queue}

-- ---- sums over the trains

sum_same : (f : Train → ℕ) (xs : List Train) (j : ℕ) (y : Train) → f y ≡ f (get_or xs j no_train) → sum f (set xs j y) ≡ sum f xs
sum_same f [] j y e = refl
sum_same f (x ∷ xs) zero y e = omega arith
sum_same f (x ∷ xs) (suc j) y e = omega (arith, sum_same f xs j y e)

-- ---- the laws

pub held-most : (L : ℕ) (s : Shared) → GoodShared L s → shared_held s ≤ train_count * train_depth
held-most L s g = omega (arith, sum_bound train_held train_depth s.trains no_train (λ k. (g.each k).room), g.size)

begin-held : (L : ℕ) (ts : List Train) (ks : List ℕ) → shared_held (begin L ts ks) ≡ sum train_held ts
unfolding begin raised
begin-held L ts [] = refl
begin-held L ts (k ∷ ks) = sum_same train_held ts k (raised L (get_or ts k no_train)) refl

pub put-held : (L : ℕ) (s : Shared) (k : ℕ) (r : BareRec) → k < length s.trains → shared_held (shared_put L s k r) ≡ suc (shared_held s)
unfolding shared_put join added
put-held L s k r inside =
    if-ind (λ (u : Shared). shared_held u ≡ suc (shared_held s)) (train_holds s k) _ _ (λ e. more) (λ e. go s.round)
  where
    ts' : List Train
    ts' = set s.trains k (added (train_at s k) r)

    more : sum train_held ts' ≡ suc (shared_held s)
    more = omega (arith, sum-set train_held s.trains k (added (train_at s k) r) no_train inside, length-append (train_at s k).queue (r ∷ []))

    go : (ks : List ℕ) → shared_held (join L ts' ks k) ≡ suc (shared_held s)
    go [] = begin-held L ts' (k ∷ []) ∙ more
    go (i ∷ is) = more

hand-of-held : (L : ℕ) (ts : List Train) (k : ℕ) (ks : List ℕ) (d : ℕ) (q : List BareRec) → (get_or ts k no_train).queue ≡ q → k < length ts → queued? q ≡ true
    → sum train_held ts ≡ suc (shared_held (hand_of L ts k ks d q))
unfolding hand_of
hand-of-held L ts k ks d [] e inside h = absurd (false≢true h)
hand-of-held L ts k ks d (r ∷ []) e inside h = omega (arith, begin-held L (set ts k no_train) ks, sum-set train_held ts k no_train no_train inside, ap length e)
hand-of-held L ts k ks d (r ∷ r' ∷ rs) e inside h =
    if-ind (λ (u : Shared). sum train_held ts ≡ suc (shared_held u)) (leb r'.len (d - r.len)) _ _
    (λ c. omega (arith, sum-set train_held ts k left no_train inside, ap length e))
    (λ c. omega (arith, begin-held L (set ts k left) (ks ++ (k ∷ [])), sum-set train_held ts k left no_train inside, ap length e))
  where
    left : Train
    left = record { deficit = d - r.len; queue = r' ∷ rs }

pub hand-held : (L : ℕ) (s : Shared) (x : TrainItem) → GoodShared L s → shared_first s ≡ some x → shared_held s ≡ suc (shared_held (shared_hand_out L s))
unfolding shared_hand_out hand_in shared_first first_in_turn
hand-held L s x g e = go s.trains s.round g e
  where
    go : (ts : List Train) (ks : List ℕ) → GoodShared L (record { trains = ts; round = ks }) → first_in_turn ts ks ≡ some x → sum train_held ts ≡ suc (shared_held (hand_in L ts ks))
    go ts [] g e = let z : ◌≡◌ {A = ℕ} 0 1 = cc in absurd (omega arith)
    go ts (k ∷ ks) g e = hand-of-held L ts k ks (get_or ts k no_train).deficit (get_or ts k no_train).queue refl (held-inside ts k (turn_holds L ts k ks g)) (turn_holds L ts k ks g)

-- no record is chosen: the round is empty, and so is every train
pub none-round : (L : ℕ) (s : Shared) → GoodShared L s → shared_first s ≡ none → s.round ≡ []
unfolding shared_first first_in_turn first_of_train
none-round L s g e = go s.trains s.round g e
  where
    clash : (k : ℕ) (q : List BareRec) → queued? q ≡ true → first_of_train k q ≡ none → ⊥
    clash k [] h e = false≢true h
    clash k (r ∷ rs) h e = let z : ◌≡◌ {A = ℕ} 0 1 = cc in omega arith

    go : (ts : List Train) (ks : List ℕ) → GoodShared L (record { trains = ts; round = ks }) → first_in_turn ts ks ≡ none → ks ≡ []
    go ts [] g e = refl
    go ts (k ∷ ks) g e = absurd (clash k (get_or ts k no_train).queue (turn_holds L ts k ks g) e)

pub none-queue : (L : ℕ) (s : Shared) → GoodShared L s → shared_first s ≡ none → (k : ℕ) → (train_at s k).queue ≡ []
none-queue L s g e k = go (train_at s k).queue ((g.each k).named_once ∙ refl)
  where
    go : (q : List BareRec) → times k s.round ≡ (if queued? q then 1 else 0) → q ≡ []
    go [] h = refl
    go (r ∷ rs) h = absurd (omega (arith, ap (times k) (none-round L s g e)))

pub none_held : (L : ℕ) (s : Shared) → GoodShared L s → shared_first s ≡ none → shared_held s ≡ 0
none_held L s g e = sum-zero train_held s.trains no_train (λ k. ap length (none-queue L s g e k))

-- the first record of all is chosen at once
pub first-put : (L : ℕ) (s : Shared) (k : ℕ) (r : BareRec) → GoodShared L s → k < length s.trains → shared_first s ≡ none → shared_first (shared_put L s k r) ≡ some (record { train = k; item = r })
unfolding shared_put join begin added shared_first first_in_turn first_of_train
first-put L s k r g inside e =
    ap shared_first put_is ∙ ap (first_of_train k) (begin-queue L ts' (k ∷ []) k ∙ ap (λ (t : Train). t.queue) (get_or-set_same s.trains k (added (train_at s k) r) no_train inside) ∙ ap (λ (q : List BareRec). q ++ (r ∷ [])) (none-queue L s g e k))
  where
    ts' : List Train
    ts' = set s.trains k (added (train_at s k) r)

    put_is : shared_put L s k r ≡ begin L ts' (k ∷ [])
    put_is =
        ap (λ (b : Bool). if b then record { trains = ts'; round = s.round } else join L ts' s.round k) (ap queued? (none-queue L s g e k))
        ∙ ap (λ (ks : List ℕ). join L ts' ks k) (none-round L s g e)

-- ---- a lane in which nothing waits

pub empty-train : (k : ℕ) → train_at empty_shared k ≡ no_train
unfolding empty_shared
empty-train k = get_d_replicate k train_count
  where
    get_d_replicate : (k n : ℕ) → get_or (replicate n no_train) k no_train ≡ no_train
    get_d_replicate k zero = refl
    get_d_replicate zero (suc n) = refl
    get_d_replicate (suc k) (suc n) = get_d_replicate k n

pub empty-good : (L : ℕ) → GoodShared L empty_shared
unfolding empty_shared
empty-good L = record { size = refl; each = λ k. subst (GoodTrain L false 0) (sym (empty-train k)) (record { room = omega arith; lengths = tt; deficit = refl; named_once = refl }) }

-- a good lane that holds no record is that one
module _ (L : ℕ) (s : Shared) (g : GoodShared L s) (none_held : shared_held s ≡ 0) where
  sum-none : (xs : List Train) → sum train_held xs ≡ 0 → (k : ℕ) → train_held (get_or xs k no_train) ≡ 0
  sum-none [] e k = refl
  sum-none (x ∷ xs) e zero = omega arith
  sum-none (x ∷ xs) e (suc k) = sum-none xs (omega arith) k

  no-records : (q : List BareRec) → length q ≡ 0 → q ≡ []
  no-records [] e = refl
  no-records (r ∷ rs) e = absurd (omega arith)

  bare-train : (turn : Bool) (n : ℕ) (t : Train) → GoodTrain L turn n t → t.queue ≡ [] → t ≡ no_train
  bare-train turn n t h e = ap (λ (d : ℕ). record { deficit = d; queue = t.queue }) (subst (Deficit L turn t.deficit) e h.deficit) ∙ ap (λ (q : List BareRec). record { deficit = 0; queue = q }) e

  no-train : (k : ℕ) → train_at s k ≡ no_train
  no-train k = bare-train _ _ (train_at s k) (g.each k) (no-records (train_at s k).queue (sum-none s.trains none_held k))

  all-bare : (n : ℕ) (ts : List Train) → length ts ≡ n → ((k : ℕ) → get_or ts k no_train ≡ no_train) → ts ≡ replicate n no_train
  all-bare zero [] e h = refl
  all-bare zero (t ∷ ts) e h = absurd (omega arith)
  all-bare (suc n) [] e h = absurd (omega arith)
  all-bare (suc n) (t ∷ ts) e h = ap (λ (x : Train). x ∷ ts) (h 0) ∙ ap (λ (xs : List Train). no_train ∷ xs) (all-bare n ts (omega arith) (λ k. h (suc k)))

  no-round : (js : List ℕ) → ((k : ℕ) → times k js ≡ 0) → js ≡ []
  no-round [] h = refl
  no-round (j ∷ js) h = absurd (omega (arith, simp (eq-eqb j j refl) at (h j)))

  pub none-empty : s ≡ empty_shared
  unfolding empty_shared
  none-empty =
      let rounds : s.round ≡ [] = no-round s.round (λ k. (g.each k).named_once ∙ ap (λ (t : Train). if queued? t.queue then 1 else 0) (no-train k)) in
      let trains : s.trains ≡ replicate train_count no_train = all-bare train_count s.trains g.size no-train in
      ap (λ (ts : List Train). record { trains = ts; round = s.round }) trains ∙ ap (λ (js : List ℕ). record { trains = replicate train_count no_train; round = js }) rounds

-- the chosen record is of one of the lane's trains
pub first-inside : (L : ℕ) (s : Shared) (x : TrainItem) → GoodShared L s → shared_first s ≡ some x → x.train < train_count
unfolding shared_first first_in_turn first_of_train
first-inside L s x g e = go s.trains s.round g e
  where
    one : (k : ℕ) (q : List BareRec) → k < train_count → first_of_train k q ≡ some x → x.train < train_count
    one k [] h e = let z : ◌≡◌ {A = ℕ} 0 1 = cc in absurd (omega arith)
    one k (r ∷ rs) h e = let y : record { train = k; item = r } ≡ x = cc in omega (arith, h, ap (λ (m : TrainItem). m.train) y)

    go : (ts : List Train) (ks : List ℕ) → GoodShared L (record { trains = ts; round = ks }) → first_in_turn ts ks ≡ some x → x.train < train_count
    go ts [] g e = let z : ◌≡◌ {A = ℕ} 0 1 = cc in absurd (omega arith)
    go ts (k ∷ ks) g e = one k (get_or ts k no_train).queue (omega (arith, held-inside ts k (turn_holds L ts k ks g), g.size)) e
