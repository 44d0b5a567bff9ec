-- From what is read of a table to what it shows. Assumes nothing.
use Prim.Native.Nat.{ℕ}
use mathlib.Core.Path.{◌≡◌, refl, sym, ap, ◌∙◌}
use mathlib.Core.Bool.{Bool, true, false}
use mathlib.Core.List.{List}
use mathlib.Core.Logic.{inl, inr}
use mathlib.Core.Option.{none, some}
use lib.Dec.{ltb, eqb}
use borrow.Author.Tests.{le-ltb, eqb-true}
use Rattle.std.specs.Prelude.{if◌then◌else◌, Result, Err}
use Rattle.rules.specs.State.{Lane, group, holds, lane_at, no_lane}
use Rattle.table.specs.Means.{given_of, meant, RowAgrees}
use Rattle.table.specs.declared.LaneRow.{LaneRow}
use Rattle.alike.specs.AlikeDevice.{AlikeDevice}
use Rattle.pages.specs.Device.{Device}
use Rattle.editions.specs.Part.{last_in, new_in, plan_of, waiting_in}
use Rattle.good.proofs.Encodes.{good-sound}
use Rattle.paged.specs.Paged.{part_of, device_of, GoodUnit}
use Rattle.scheduler.proofs.Steps.{encoded-alike}
use Rattle.engine.proofs.RowIs.{RowIs, row_is, row-weighs}
use Rattle.rules.specs.declared.Refusal.{Refusal}
use Rattle.rules.specs.declared.Refusal.TheVariants.{NotGood, NoLane}
use Rattle.show.specs.Views.{Ask, clock, lane, backlog, waits, edition, wait, clock_is, view_refused, backlog_is, setting_is, edition_is, waiting_edition, view}
use Rattle.show.specs.Shows.{view_reply, Shows, RowFound, FindIs}
use Rattle.show.specs.declared.Shown.{Shown}

-- what a unit shows is not of its tie order
view-alike : (a : Ask) (d e : Device) → AlikeDevice d e → view d a ≡ view e a
unfolding view
view-alike clock d e a = rw a.state.clock
view-alike (lane k) d e a = rw a.state.lanes
view-alike (backlog k) d e a = rw a.state.lanes
view-alike (waits k t i) d e a = rw a.state.lanes
view-alike edition d e a = rw (a.edition, a.waiting)
view-alike (wait k n) d e a = rw a.state.lanes

pub bad-shows : (a : Ask) (t : List ℕ) (x : Refusal) → (GoodUnit t → ⊥) × (x ≡ NotGood) → Shows a t (Err x)
bad-shows a t x (bad, e) = rw e (record { not_good = λ _. refl; shown = λ g. absurd (bad g) })

pub good-shows : (a : Ask) (t : List ℕ) (r : Result Shown Refusal) → GoodUnit t → view_reply r ≡ view (device_of t) a → Shows a t r
good-shows a t r g e = record { not_good = λ b. absurd (b g); shown = λ _ d n. e ∙ view-alike a (device_of t) d (encoded-alike t d n) }

pub shows-clock : (t : List ℕ) (v : ℕ) → v ≡ (meant t).clock → clock_is v ≡ view (device_of t) clock
unfolding view device_of
shows-clock t v e = ap clock_is e

-- the word of the waiting page's edition is 0 where none waits
waits-as : (p : List ℕ) → new_in p ≡ waiting_edition (waiting_in p)
unfolding waiting_in
waits-as p = go (eqb (new_in p) 0) refl
  where
    go : (b : Bool) → eqb (new_in p) 0 ≡ b → new_in p ≡ waiting_edition (if b then none else some (record { edition = new_in p; settings = (plan_of p).lanes }))
    go true e = eqb-true (new_in p) 0 e
    go false e = refl

pub shows-edition : (t : List ℕ) (n m : ℕ) → n ≡ last_in (part_of t) → m ≡ new_in (part_of t) → edition_is n m ≡ view (device_of t) edition
unfolding view device_of
shows-edition t n m e f = ap (λ (x : ℕ). edition_is x m) e ∙ ap (edition_is (last_in (part_of t))) (f ∙ waits-as (part_of t))

-- ---- a lane that is not in the setup

module _ (k : ℕ) (d : Device) (e : lane_at d.state k ≡ no_lane) where
  pub none-lane : view_refused 11 none ≡ view d (lane k)
  unfolding view
  none-lane = rw e

  pub none-backlog : view_refused 11 none ≡ view d (backlog k)
  unfolding view
  none-backlog = rw e

  pub none-waits : (j i : ℕ) → view_refused 11 none ≡ view d (waits k j i)
  unfolding view
  none-waits j i = rw e

  pub none-wait : (n : ℕ) → view_refused 11 none ≡ view d (wait k n)
  unfolding view
  none-wait n = rw e

-- the refusal of `find` is right for what is asked of lane k
pub find-refused : (a : Ask) (t : List ℕ) (k : ℕ) (x : Refusal) → FindIs t k (Err x) → ((d : Device) → lane_at d.state k ≡ no_lane → view_refused 11 none ≡ view d a)
    → Shows a t (Err x)
unfolding device_of
find-refused a t k x (inl bad) absent = bad-shows a t x bad
find-refused a t k x (inr ((good, none-there), e)) absent = rw e (good-shows a t (Err NoLane) good (absent (device_of t) none-there))

-- ---- a lane by its row

module _ (t : List ℕ) (k : ℕ) (l : LaneRow) (f : RowFound t k l) where
  abbrev pub lane-k : Lane
  lane-k = lane_at (meant t) k

  pub found : RowIs lane-k l
  found = rw f.3 (row_is t (good-sound t f.0.core) k f.1 f.2)

  pub weighs : ltb lane-k.given.weight 1 ≡ false
  weighs = le-ltb lane-k.given.weight 1 (row-weighs lane-k l found)

  pub row-numbers : RowAgrees l
  row-numbers = rw f.3 ((good-sound t f.0.core).beside.rows k f.1 f.2)

  pub shows-setting : (i : ℕ) → i ≡ group (given_of l) → setting_is (given_of l) i ≡ view (device_of t) (lane k)
  unfolding view device_of
  shows-setting i e = rw (weighs, e, found.given)

  time-is : (b : Bool) → holds lane-k ≡ b → l.time.0 ≡ (if b then lane-k.start else lane-k.finish)
  time-is true e = sym (found.busy e)
  time-is false e = sym (found.idle e)

  pub shows-backlog : backlog_is l.count l.time.0 ≡ view (device_of t) (backlog k)
  unfolding view device_of
  shows-backlog = rw (weighs, found.held, time-is (holds lane-k) refl)
