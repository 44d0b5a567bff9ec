-- A good shared lane, and the same as a test. proofs/Keep.antt: every operation keeps it. proofs/Test.antt: the two agree. Assumes nothing.
use Rattle.std.specs.Prelude.{ℕ, zero, suc, ◌*◌, ◌≤◌, ◌<◌, ◌≡◌, Bool, true, false, ◌&&◌, List, [], ◌∷◌, leb, ltb, eqb, length, if◌then◌else◌}
use Rattle.units.specs.Plain.{times}
use Rattle.rounds.specs.Round.{BareRec, Train, Shared, train_count, train_depth, queued?, train_at, in_turn}

-- R1.5: each length 1 to the lane's longest
abbrev pub Lengths : ℕ → List BareRec → Type 0
Lengths L [] = Unit {0}
Lengths L (r ∷ rs) = (1 ≤ r.len) × (r.len ≤ L) × Lengths L rs

-- R18.8: the deficit of a train that holds nothing is 0; that of the train in turn covers its first record, and is below twice the longest; that of any other
-- does not cover its first record.
abbrev pub Deficit : ℕ → Bool → ℕ → List BareRec → Type 0
Deficit L turn d [] = d ≡ 0
Deficit L true d (r ∷ rs) = (r.len ≤ d) × (d < 2 * L)
Deficit L false d (r ∷ rs) = d < r.len

-- R18.8: a train, in turn or not, named so often in the round.
pub record GoodTrain (L : ℕ) (turn : Bool) (named : ℕ) (t : Train) : Type 0 where
  pub room : length t.queue ≤ train_depth
  pub lengths : Lengths L t.queue
  pub deficit : Deficit L turn t.deficit t.queue
  pub named_once : named ≡ (if queued? t.queue then 1 else 0)

-- R18.8
pub record GoodShared (L : ℕ) (s : Shared) : Type 0 where
  pub size : length s.trains ≡ train_count
  pub each : (k : ℕ) → GoodTrain L (in_turn k s.round) (times k s.round) (train_at s k)

-- ---- the test

unfoldable pub every : {A : Type 0} → (A → Bool) → List A → Bool
every p [] = true
every p (x ∷ xs) = p x && every p xs

unfoldable pub every_below : (ℕ → Bool) → ℕ → Bool
every_below p zero = true
every_below p (suc n) = p n && every_below p n

unfoldable pub length_test : ℕ → BareRec → Bool
length_test L r = leb 1 r.len && leb r.len L

unfoldable pub deficit_test : ℕ → Bool → ℕ → List BareRec → Bool
deficit_test L turn d [] = eqb d 0
deficit_test L true d (r ∷ rs) = leb r.len d && ltb d (2 * L)
deficit_test L false d (r ∷ rs) = ltb d r.len

unfoldable pub train_test : ℕ → Bool → ℕ → Train → Bool
train_test L turn named t =
    leb (length t.queue) train_depth
    && (every (length_test L) t.queue && (deficit_test L turn t.deficit t.queue && eqb named (if queued? t.queue then 1 else 0)))

unfoldable pub good_test : ℕ → Shared → Bool
good_test L s =
    eqb (length s.trains) train_count
    && (every (λ (k : ℕ). ltb k train_count) s.round && every_below (λ (k : ℕ). train_test L (in_turn k s.round) (times k s.round) (train_at s k)) train_count)
