-- What a lane's row says of the lane that the table means. Assumes nothing.
use Prim.Native.Nat.{ℕ, zero, suc, ◌^◌, ◌≤◌, ◌<◌}
use native.Mathlib.Omega.{arith}
use borrow.Author.Tests.{not-false}
use mathlib.Core.Path.{◌≡◌, refl, sym, ap, subst, ◌∙◌}
use mathlib.Core.Bool.{Bool, true, false, not, false≢true}
use mathlib.Core.List.{List}
use lib.Dec.{leb, ltb}
use lib.ListN.{length, get_or-eq_default}
use mathlib.Core.Option.{Option, none, some}
use Rattle.units.proofs.PerByte.{rate-le}
use Rattle.waiting.specs.Waiting.{Waiting, first, held, queue_of, full, known, is_shared, GoodWaiting}
use Rattle.waiting.proofs.Laws.{first-nothing, held_none, held-hand}
use Rattle.rules.specs.State.{Rec, Setting, Lane, no_lane, rate, some?, first_of, holds, lane_at}
use Rattle.rules.specs.Calls as rules
use Rattle.rules.proofs.Moves.{not-idle}
use Rattle.table.specs.Layout.{cells, row_at}
use Rattle.table.specs.Means.{present_at, waiting_of, given_of, timed_by_word, meant, RowAgrees, Sound}
use Rattle.table.specs.declared.LaneRow.{LaneRow}
use Rattle.table.proofs.Footprint.{lane-is, lanes-many}
use Rattle.table.proofs.Rows.{lane-present, lane-absent, waiting-kind, waiting_none, waiting-held}
use Rattle.table.proofs.Timed.{timed-given, timed-waiting, timed-start}
use Rattle.engine.specs.Does.{lane_trains, queue_depth, held_by}
use Rattle.engine.proofs.LaneTrains.{known_is, full_is, held-is}

-- a lane that the setup does not have
pub absent-lane : (t : List ℕ) (k : ℕ) → k < 64 → present_at (cells t) k ≡ false → lane_at (meant t) k ≡ no_lane
absent-lane t k h e = lane-is (cells t) _ k h ∙ lane-absent (cells t) k e

pub far-lane : (t : List ℕ) (k : ℕ) → 64 ≤ k → lane_at (meant t) k ≡ no_lane
far-lane t k h = get_or-eq_default (meant t).lanes no_lane {n = k} (omega (arith, lanes-many t))

pub record RowIs (l : Lane) (r : LaneRow) : Type 0 where
  pub given : l.given ≡ given_of r
  pub weight : 0 < r.weight
  pub framing : r.framing.0 ≤ 64
  pub rated : holds l ≡ true → r.rate.0 ≡ rate l.given
  pub kind : is_shared l.waiting ≡ r.shared
  pub held : held l.waiting ≡ r.count
  pub busy : holds l ≡ true → l.start ≡ r.time.0
  pub idle : holds l ≡ false → l.finish ≡ r.time.0

pub count-holds : (l : Lane) (n : ℕ) → GoodWaiting l.given.longest l.waiting → held l.waiting ≡ n → 0 < n → holds l ≡ true
count-holds l n g e h = not-idle l (λ q. omega (arith, e, h, held_none l.given.longest l.waiting g q))

pub count-idle : (l : Lane) → GoodWaiting l.given.longest l.waiting → held l.waiting ≡ 0 → holds l ≡ false
count-idle l g e = go (first_of l) refl
  where
    go : (o : Option Rec) → first_of l ≡ o → holds l ≡ false
    go none q = ap some? q
    go (some r) q = absurd (omega (arith, held-hand l.given.longest l.waiting r g q))

-- an idle lane's clock word is its F
timed-finish : (g : Setting) (x : ℕ) (w : Waiting) (o : Option Rec) → some? o ≡ false → (rules.timed g x w o).finish ≡ x
unfolding rules.timed
timed-finish g x w none e = refl
timed-finish g x w (some r) e = absurd (false≢true (sym e))

module _ (t : List ℕ) (sound : Sound t) (k : ℕ) (small : k < 64) (here : present_at (cells t) k ≡ true) where
  abbrev r : LaneRow
  r = row_at (cells t) k

  abbrev q : Waiting
  q = waiting_of (cells t) k r

  abbrev l : Lane
  l = lane_at (meant t) k

  is-timed : l ≡ timed_by_word (given_of r) r.time.0 q
  is-timed = lane-is (cells t) _ k small ∙ lane-present (cells t) k here

  agrees : RowAgrees r
  agrees = sound.beside.rows k small here

  same-given : l.given ≡ given_of r
  same-given = ap (λ (x : Lane). x.given) is-timed ∙ timed-given (given_of r) r.time.0 q

  same-waiting : l.waiting ≡ q
  same-waiting = ap (λ (x : Lane). x.waiting) is-timed ∙ timed-waiting (given_of r) r.time.0 q

  -- a lane without a record has none in its row
  some-held : holds l ≡ true → 0 < r.count
  some-held e = go r.count refl
    where
      go : (n : ℕ) → r.count ≡ n → 0 < r.count
      go zero z = absurd (false≢true (sym (ap (λ (x : Waiting). some? (first x)) (same-waiting ∙ waiting_none (cells t) k r z) ∙ ap some? (first-nothing r.shared)) ∙ e))
      go (suc n) z = omega arith

  pub row_is : RowIs l r
  unfolding timed_by_word
  row_is = record {
    given = same-given;
    weight = agrees.numbers.weight_low;
    framing = agrees.framing;
    rated = λ e. (sound.beside.housed k small here (some-held e)).paced.rated ∙ ap rate (sym same-given);
    kind = ap is_shared same-waiting ∙ waiting-kind (cells t) k r;
    held = ap held same-waiting ∙ waiting-held (cells t) k r (sound.beside.housed k small here);
    busy = λ e. ap (λ (x : Lane). x.start) is-timed ∙ timed-start (given_of r) r.time.0 q (sym (ap (λ (x : Waiting). some? (first x)) same-waiting) ∙ e);
    idle = λ e. ap (λ (x : Lane). x.finish) is-timed ∙ timed-finish (given_of r) r.time.0 q (first q) (sym (ap (λ (x : Waiting). some? (first x)) same-waiting) ∙ e);
  }

  -- how many records of a train the words tell of
  pub row-held : (j : ℕ) → j < lane_trains r.shared → held_by (cells t) k r j ≡ length (queue_of l.waiting j)
  row-held j h = held-is (cells t) k r j h ∙ ap (λ (x : Waiting). length (queue_of x j)) (sym same-waiting)

-- a lane with a row is in the setup
pub row-weighs : (l : Lane) (r : LaneRow) → RowIs l r → 0 < l.given.weight
row-weighs l r is = rw is.given is.weight

-- and while it holds records, its c is in its numbers
pub row-rate : (l : Lane) (r : LaneRow) → RowIs l r → holds l ≡ true → r.rate.0 ≤ 2 ^ 20
row-rate l r is busy = omega (arith, is.rated busy, rate-le l.given.weight)

-- which trains it knows, and when one of these is full
pub row_knows : (l : Lane) (r : LaneRow) → RowIs l r → (j : ℕ) → known l.waiting j ≡ ltb j (lane_trains r.shared)
row_knows l r is j = known_is l.waiting j ∙ ap (λ (b : Bool). ltb j (lane_trains b)) is.kind

pub row-full : (l : Lane) (r : LaneRow) → RowIs l r → (j : ℕ) → known l.waiting j ≡ true → full l.waiting j ≡ leb (queue_depth r.shared) (length (queue_of l.waiting j))
row-full l r is j h = full_is l.waiting j h ∙ ap (λ (b : Bool). leb (queue_depth b) (length (queue_of l.waiting j))) is.kind

-- the row that was read of a lane that was found present
pub read-row : (t : List ℕ) → Sound t → (k : ℕ) → k < 64 → {b : Bool} → b ≡ present_at (cells t) k → not b ≡ false → (r : LaneRow) → r ≡ row_at (cells t) k → RowIs (lane_at (meant t) k) r
read-row t sound k small {b} found here r is = rw is (row_is t sound k small (sym found ∙ not-false b here))

pub read_held : (t : List ℕ) → Sound t → (k : ℕ) → k < 64 → {b : Bool} → b ≡ present_at (cells t) k → not b ≡ false → (r : LaneRow) → r ≡ row_at (cells t) k
    → (j : ℕ) → j < lane_trains r.shared → held_by (cells t) k r j ≡ length (queue_of (lane_at (meant t) k).waiting j)
read_held t sound k small {b} found here r is j =
    subst (λ (x : LaneRow). j < lane_trains x.shared → held_by (cells t) k x j ≡ length (queue_of (lane_at (meant t) k).waiting j)) (sym is) (row-held t sound k small (sym found ∙ not-false b here) j)
