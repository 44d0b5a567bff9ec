-- All that the rules know of what waits in a lane, but for who shares it (Sharing.antt). Assumes nothing.
use Prim.Native.Nat.{ℕ, zero, suc, ◌≤◌, ◌<◌}
use native.Mathlib.Omega.{arith}
use mathlib.Core.Path.{◌≡◌, refl, sym, ap, ◌∙◌}
use mathlib.Core.Bool.{Bool, true, false}
use mathlib.Core.List.{[], ◌∷◌, ◌++◌}
use mathlib.Core.Option.{Option, none, some}
use lib.Dec.{leb, eqb}
use lib.ListN.{length, length-append}
use borrow.Author.Tests.{leb-true, leb-false, ltb-true, le-leb, eq-eqb, ne_eqb}
use Rattle.std.specs.Prelude.{if◌then◌else◌}
use Rattle.units.proofs.Bools.{and_parts}
use Rattle.units.proofs.Lists.{some_inj}
use Rattle.rounds.specs.Round as round
use Rattle.rounds.specs.Round.{TrainItem, Shared, train_at, train_count, train_depth}
use Rattle.rounds.specs.Good.{GoodShared, every, length_test}
use Rattle.rounds.specs.Runs.{item_of_train}
use Rattle.rounds.proofs.Keep as keep
use Rattle.rounds.proofs.Order as order
use Rattle.rounds.proofs.Held as held_laws
use Rattle.rounds.proofs.Test as test
use Rattle.waiting.specs.Waiting.{lane_depth, Rec, bare, Waiting, plain, shared, none_waiting, item_of, is_shared, tail, first, enter, hand_out, held, queue_of, full, known, GoodWaiting, waiting_test}

-- what an accepted record has
pub record Enters (L : ℕ) (w : Waiting) (r : Rec) : Type 0 where
  pub train : known w r.train ≡ true
  pub some_bytes : 1 ≤ r.len
  pub fits : r.len ≤ L
  pub room : full w r.train ≡ false

pub clash {ℓ} : {A : Type 0} {P : Type ℓ} (x : A) → none ≡ some x → P
clash x e = let z : ◌≡◌ {A = ℕ} 0 1 = cc in absurd (omega arith)

-- a shared lane's choice, taken apart
item-none : (o : Option TrainItem) → item_of o ≡ none → o ≡ none
item-none none e = refl
item-none (some x) e = clash _ (sym e)

abbrev pub moved : Rec → TrainItem
moved r = record { train = r.train; item = bare r }

pub item-some : (o : Option TrainItem) (r : Rec) → item_of o ≡ some r → o ≡ some (moved r)
item-some none r e = clash r e
item-some (some x) r e = ap (λ (z : Rec). some (moved z)) (some_inj _ r e)

-- ---- nothing waits

pub first-nothing : (b : Bool) → first (none_waiting b) ≡ none
unfolding round.shared_first round.first_in_turn round.empty_shared
first-nothing false = refl
first-nothing true = refl

pub held-nothing : (b : Bool) → held (none_waiting b) ≡ 0
unfolding held round.empty_shared
held-nothing false = refl
held-nothing true = refl

pub queue-nothing : (b : Bool) (k : ℕ) → queue_of (none_waiting b) k ≡ []
unfolding queue_of
queue-nothing false zero = refl
queue-nothing false (suc k) = refl
queue-nothing true k = ap (λ (t : round.Train). t.queue) (held_laws.empty-train k)

pub good-nothing : (L : ℕ) (b : Bool) → GoodWaiting L (none_waiting b)
unfolding GoodWaiting
good-nothing L false = (omega arith, tt)
good-nothing L true = held_laws.empty-good L

-- ---- the first record

inside : (L : ℕ) (s : Shared) (r : Rec) → GoodShared L s → Enters L (shared s) r → r.train < length s.trains
unfolding known
inside L s r g a = omega (arith, ltb-true r.train train_count a.train, g.size)

zero-train : (r : Rec) → leb r.train 0 ≡ true → r.train ≡ 0
zero-train r e = omega (arith, leb-true r.train 0 e)

-- the first record of all is the one that enters
pub first-enter : (L : ℕ) (w : Waiting) (r : Rec) → GoodWaiting L w → Enters L w r → first w ≡ none → first (enter L w r) ≡ some r
unfolding enter GoodWaiting known
first-enter L (plain []) r g a e = ap (λ (n : ℕ). some (record { train = n; mark = r.mark; len = r.len })) (sym (zero-train r a.train))
first-enter L (plain (x ∷ xs)) r g a e = clash _ (sym e)
first-enter L (shared s) r g a e = ap item_of (held_laws.first-put L s r.train (bare r) g (inside L s r g a) (item-none (round.shared_first s) e))

-- and no later one takes its place
pub first-stays : (L : ℕ) (w : Waiting) (r x : Rec) → GoodWaiting L w → Enters L w r → first w ≡ some x → first (enter L w r) ≡ some x
unfolding enter GoodWaiting
first-stays L (plain []) r x g a e = clash x e
first-stays L (plain (y ∷ ys)) r x g a e = e
first-stays L (shared s) r x g a e = ap item_of (order.first-stays L s r.train (bare r) (moved x) (inside L s r g a) (item-some (round.shared_first s) x e))

pub first_fits : (L : ℕ) (w : Waiting) (x : Rec) → GoodWaiting L w → first w ≡ some x → (0 < x.len) × (x.len ≤ L)
unfolding GoodWaiting
first_fits L (plain []) x g e = clash x e
first_fits L (plain (y ∷ ys)) x g e =
    let h = some_inj _ x e in (omega (arith, g.1.0, ap (λ (z : Rec). z.len) h), omega (arith, g.1.1, ap (λ (z : Rec). z.len) h))
first_fits L (shared s) x g e = order.first_fits L s (moved x) g (item-some (round.shared_first s) x e)

-- ---- how many wait

pub held-enter : (L : ℕ) (w : Waiting) (r : Rec) → GoodWaiting L w → Enters L w r → held (enter L w r) ≡ suc (held w)
unfolding held enter GoodWaiting
held-enter L (plain q) r g a = omega (arith, length-append q (bare r ∷ []))
held-enter L (shared s) r g a = held_laws.put-held L s r.train (bare r) (inside L s r g a)

pub held-hand : (L : ℕ) (w : Waiting) (x : Rec) → GoodWaiting L w → first w ≡ some x → held w ≡ suc (held (hand_out L w))
unfolding held hand_out tail GoodWaiting
held-hand L (plain []) x g e = clash x e
held-hand L (plain (y ∷ ys)) x g e = refl
held-hand L (shared s) x g e = held_laws.hand-held L s (moved x) g (item-some (round.shared_first s) x e)

pub held_none : (L : ℕ) (w : Waiting) → GoodWaiting L w → first w ≡ none → held w ≡ 0
unfolding held GoodWaiting
held_none L (plain []) g e = refl
held_none L (plain (y ∷ ys)) g e = clash _ (sym e)
held_none L (shared s) g e = held_laws.none_held L s g (item-none (round.shared_first s) e)

pub held-most : (L : ℕ) (w : Waiting) → GoodWaiting L w → held w ≤ lane_depth
unfolding held GoodWaiting
held-most L (plain q) g = g.0
held-most L (shared s) g = held_laws.held-most L s g

-- ---- the order of each train

pub queue-enter : (L : ℕ) (w : Waiting) (r : Rec) → GoodWaiting L w → Enters L w r → (t : ℕ) → queue_of w t ++ (if eqb r.train t then bare r ∷ [] else []) ≡ queue_of (enter L w r) t
unfolding queue_of enter known GoodWaiting item_of_train
queue-enter L (plain q) r g a zero = simp (eq-eqb r.train 0 (zero-train r a.train))
queue-enter L (plain q) r g a (suc t) = simp (ne_eqb r.train (suc t) (λ e. omega (arith, zero-train r a.train)))
queue-enter L (shared s) r g a t = order.put-fifo L s r.train t (bare r) (inside L s r g a)

pub queue-hand : (L : ℕ) (w : Waiting) (x : Rec) → GoodWaiting L w → first w ≡ some x → (t : ℕ) → queue_of w t ≡ (if eqb x.train t then bare x ∷ [] else []) ++ queue_of (hand_out L w) t
unfolding queue_of hand_out tail GoodWaiting item_of_train
queue-hand L (plain []) x g e t = clash x e
queue-hand L (plain (y ∷ ys)) x g e zero = let h = some_inj _ x e in rw (eq-eqb x.train 0 (sym (ap (λ (z : Rec). z.train) h))) (ap (λ (z : Rec). bare z ∷ ys) h)
queue-hand L (plain (y ∷ ys)) x g e (suc t) = simp (ne_eqb x.train (suc t) (λ q. omega (arith, ap (λ (z : Rec). z.train) (some_inj _ x e))))
queue-hand L (shared s) x g e t = order.hand-fifo L s g t ∙ ap (λ (o : Option TrainItem). item_of_train t o ++ (train_at (round.shared_hand_out L s) t).queue) (item-some (round.shared_first s) x e)

pub queue-none : (L : ℕ) (w : Waiting) → GoodWaiting L w → first w ≡ none → (t : ℕ) → queue_of w t ≡ []
unfolding queue_of GoodWaiting
queue-none L (plain []) g e zero = refl
queue-none L (plain []) g e (suc t) = refl
queue-none L (plain (y ∷ ys)) g e t = clash _ (sym e)
queue-none L (shared s) g e t = held_laws.none-queue L s g (item-none (round.shared_first s) e) t

-- a train that has room holds fewer than it may
pub queue-room : (w : Waiting) (k : ℕ) → known w k ≡ true → full w k ≡ false → length (queue_of w k) < (if is_shared w then train_depth else lane_depth)
unfolding queue_of known full is_shared
queue-room (plain q) zero t e = leb-false lane_depth (length q) e
queue-room (plain q) (suc k) t e = omega arith
queue-room (shared s) k t e = leb-false train_depth (length (train_at s k).queue) e

-- ---- good

pub good-enter : (L : ℕ) (w : Waiting) (r : Rec) → GoodWaiting L w → Enters L w r → GoodWaiting L (enter L w r)
unfolding GoodWaiting enter full known
good-enter L (plain q) r g a = (omega (arith, length-append q (bare r ∷ []), leb-false lane_depth (length q) a.room), keep.added-lengths L q (bare r) a.some_bytes a.fits g.1)
good-enter L (shared s) r g a =
    keep.put-good L s g r.train (bare r) (record { train = ltb-true r.train train_count a.train; some_bytes = a.some_bytes; fits = a.fits; room = leb-false train_depth (length (train_at s r.train).queue) a.room })

pub good-hand : (L : ℕ) (w : Waiting) → GoodWaiting L w → GoodWaiting L (hand_out L w)
unfolding GoodWaiting hand_out tail
good-hand L (plain []) g = g
good-hand L (plain (r ∷ rs)) g = (omega (arith, g.0), g.1.2)
good-hand L (shared s) g = keep.hand-out-good L s g

pub test_good : (L : ℕ) (w : Waiting) → waiting_test L w ≡ true → GoodWaiting L w
unfolding GoodWaiting waiting_test
test_good L (plain q) e =
    let a = and_parts (leb (length q) lane_depth) (every (length_test L) q) e in (leb-true (length q) lane_depth a.0, test.lengths-true L q a.1)
test_good L (shared s) e = test.test_good L s e

pub good-test : (L : ℕ) (w : Waiting) → GoodWaiting L w → waiting_test L w ≡ true
unfolding GoodWaiting waiting_test
good-test L (plain q) g = simp (le-leb (length q) lane_depth g.0, test.true-lengths L q g.1)
good-test L (shared s) g = test.good-test L s g
