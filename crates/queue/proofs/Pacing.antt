-- `wake`: c and group are stored first, and an idle lane is what it was with any. Assumes nothing.
use mathlib.Core.Path.{◌≡◌, sym, ap, subst, ◌∙◌}
use mathlib.Core.Bool.{true, false}
use Prim.Native.Nat.{ℕ, ◌^◌, ◌≤◌, ◌<◌, max}
use mathlib.Core.List.{List}
use native.Mathlib.Omega.{arith}
use lib.ListN.{length}
use Rattle.waiting.specs.Waiting.{GoodWaiting}
use Rattle.waiting.proofs.Laws.{Enters}
use Rattle.rules.specs.State.{Rec, Lane, State, lane_at, holds, group}
use Rattle.rules.specs.Calls.{woken}
use Rattle.slot_lists.specs.Lists.{list_at}
use Rattle.filing.specs.Filing.{in_aRow}
use Rattle.table.specs.Layout.{Now, cells, row_at, put_pace}
use Rattle.table.specs.Means.{present_at, given_of, meant, RowAgrees, RowPaced, Paces, Sound, Leaves, with_lane}
use Rattle.table.specs.declared.LaneRow.{LaneRow}
use Rattle.table.specs.declared.Pace.{Pace}
use Rattle.table.proofs.Stores.{length-cells}
use Rattle.table.proofs.Footprint.{lane-is}
use Rattle.table.proofs.Leave.{leaves-then, sound-after}
use Rattle.table.proofs.Rows.{weight-present, given-row}
use Rattle.table.proofs.Paced.{row-paced, pace-leaves}
use Rattle.queue.proofs.Lane.{good-row, idle-row}

-- what `begin` asks of the state, apart from the lane's words
pub record Wakes (s : State) (k x : ℕ) (r : Rec) : Type 0 where
  pub good : GoodWaiting (lane_at s k).given.longest (lane_at s k).waiting
  pub enters : Enters (lane_at s k).given.longest (lane_at s k).waiting r
  pub weight : 0 < (lane_at s k).given.weight
  pub idle : holds (lane_at s k) ≡ false
  pub start : x ≡ max (lane_at s k).finish s.clock

module _ (t : List ℕ) (k x : ℕ) (e : Rec) (s : Sound t) (hk : k < 64) (wakes : Wakes (meant t) k x e) where
  abbrev w : List ℕ
  w = cells t

  present : present_at w k ≡ true
  present = weight-present w (in_aRow (list_at t)) k hk wakes.weight

  pub row-numbers : (l : LaneRow) → l ≡ row_at w k → RowAgrees l
  row-numbers l e = subst RowAgrees (sym e) (s.beside.rows k hk present)

  none_held : (row_at w k).count ≡ 0
  none_held = idle-row w (in_aRow (list_at t)) k hk present s.beside (good-row w (in_aRow (list_at t)) k hk present wakes.good) wakes.idle

-- c and group as `wake` stores them
pub record Paced (t : List ℕ) (k x : ℕ) (e : Rec) (t₀ : List ℕ) : Type 0 where
  pub sound : Sound t
  pub small : k < 64
  pub wakes : Wakes (meant t) k x e
  pub row : LaneRow
  pub row_is : row ≡ row_at (cells t) k
  pub pace : Pace
  pub paces : Paces (given_of row) pace
  pub rate : pace.rate.0 ≤ 2 ^ 20
  pub high : pace.group ≤ 31
  pub size : length t₀ ≡ length t
  pub now : Now t t₀ (put_pace (cells t) k pace.rate.0 pace.group)

module _ {t : List ℕ} {k x : ℕ} {e : Rec} {t₀ : List ℕ} (a : Paced t k x e t₀) where
  left : Leaves t t₀ (meant t)
  left = pace-leaves t t₀ k a.pace.rate.0 a.pace.group a.small (omega (arith, a.rate)) (omega (arith, a.high)) (none_held t k x e a.sound a.small a.wakes) a.now

  paces : Paces (given_of (row_at (cells t) k)) a.pace
  paces = subst (λ (l : LaneRow). Paces (given_of l) a.pace) a.row_is a.paces

  pub paced-here : RowPaced (row_at (cells t₀) k)
  paced-here = rw (a.now.words, row-paced (cells t) k a.pace.rate.0 a.pace.group (length-cells t) a.small (omega (arith, a.rate)) (omega (arith, a.high))) (record { rated = paces.rated; grouped = paces.grouped })

  pub sound-here : Sound t₀
  sound-here = sound-after a.sound left a.size

  pub wakes-here : Wakes (meant t₀) k x e
  wakes-here = subst (λ (y : State). Wakes y k x e) (sym left.state) a.wakes

  pub wake-whole : (t' : List ℕ) → Leaves t₀ t' (with_lane (meant t₀) k (woken (meant t₀).clock (lane_at (meant t₀) k) e)) → Leaves t t' (with_lane (meant t) k (woken (meant t).clock (lane_at (meant t) k) e))
  wake-whole t' b = leaves-then left (subst (λ (y : State). Leaves t₀ t' (with_lane y k (woken y.clock (lane_at y k) e))) left.state b)

  pub wake-group : a.pace.group ≡ group (lane_at (meant t) k).given
  wake-group = paces.grouped ∙ ap group (sym (ap (λ (y : Lane). y.given) (lane-is (cells t) (in_aRow (list_at t)) k a.small) ∙ given-row (cells t) k (present t k x e a.sound a.small a.wakes)))
