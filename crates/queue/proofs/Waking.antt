-- From the stores of `wake` and `begin` to the lane that they leave. Assumes nothing.
use mathlib.Core.Path.{◌≡◌, sym, ap, subst, ◌∙◌}
use mathlib.Core.Bool.{true, false}
use Prim.Native.Nat.{ℕ, ◌+◌, ◌<◌, max}
use mathlib.Core.List.{List}
use mathlib.Core.Option.{none}
use native.Mathlib.Omega.{arith}
use borrow.Author.Tests.{ltb-true}
use Rattle.rounds.specs.Round as round
use Rattle.rounds.specs.Round.{train_count}
use Rattle.waiting.specs.Waiting.{Waiting, shared, first, enter, held, known, GoodWaiting}
use Rattle.waiting.proofs.Laws.{Enters, first-nothing, held-nothing, first-enter}
use Rattle.rules.specs.State.{Lane, lane_at, lane_depth, holds}
use Rattle.rules.specs.Calls.{woken}
use Rattle.slot_lists.specs.Lists.{list_at}
use Rattle.filing.specs.Filing.{in_aRow}
use Rattle.table.specs.Layout.{Now, cells, row_at, put_row}
use Rattle.table.specs.Means.{shared_at, waiting_of, given_of, timed_by_word, meant, RowPaced, Housed, Sound, Leaves, with_lane}
use Rattle.table.specs.declared.LaneRow.{LaneRow}
use Rattle.table.proofs.Rows.{retimed, weight-present, waiting_none}
use Rattle.table.proofs.Timed.{timed-none, timed-woken}
use Rattle.queue.specs.Queue.{waiting, Entered, Cleared}
use Rattle.queue.specs.declared.Item.{Item}
use Rattle.queue.proofs.Moves.{moved_then, entered-waits, entered-housed}
use Rattle.queue.proofs.Lane.{rewritten, lane_row, idle-row}
use Rattle.queue.proofs.Held.{RowJoins, row-joins}

module _ (t t₀ t₁ t' : List ℕ) (k x : ℕ) (e : Item) (s : Sound t) (hk : k < 64) (g : GoodWaiting (lane_at (meant t) k).given.longest (lane_at (meant t) k).waiting)
    (a : Enters (lane_at (meant t) k).given.longest (lane_at (meant t) k).waiting (waiting e)) (weight : 0 < (lane_at (meant t) k).given.weight)
    (idle : holds (lane_at (meant t) k) ≡ false) (start : x ≡ max (lane_at (meant t) k).finish (meant t).clock) (paced : RowPaced (row_at (cells t) k)) where
  abbrev w : List ℕ
  w = cells t

  abbrev o : List ℕ
  o = in_aRow (list_at t)

  abbrev r : LaneRow
  r = row_at w k

  pub wake-joins : RowJoins t k e
  wake-joins = row-joins t k s hk g (weight-present w o k hk weight) e a

  pub wake-none : r.count ≡ 0
  wake-none = idle-row w o k hk wake-joins.here.present s.beside wake-joins.here.good idle

  pub wake-train : r.shared ≡ true → e.train < 8
  unfolding known
  wake-train q = ltb-true e.train train_count (rw (waiting_none w k r wake-none, q) at wake-joins.enters.train)

  first-none : first (waiting_of w k r) ≡ none
  first-none = ap first (waiting_none w k r wake-none) ∙ first-nothing r.shared

  pub wake-leaves : r.head < lane_depth → Cleared t t₀ k r → Entered t₀ t₁ k r e → Now t₁ t' (put_row (cells t₁) k (retimed r x r.head 1)) → Leaves t t' (with_lane (meant t) k (woken (meant t).clock (lane_at (meant t) k) (waiting e)))
  unfolding held
  wake-leaves top c en b =
      let one : r.count + 1 ≡ 1 = omega (arith, wake-none) in
      let is : r.shared ≡ true → waiting_of (cells t₀) k r ≡ shared (shared_at (cells t₀) k) = λ q. waiting_none (cells t₀) k r wake-none ∙ rw q (ap shared (sym (c.shared q))) in
      let counted : r.shared ≡ true → round.shared_held (shared_at (cells t₀) k) ≡ r.count = λ q. ap round.shared_held (c.shared q) ∙ held-nothing true ∙ sym wake-none in
      let before : waiting_of (cells t₀) k r ≡ waiting_of w k r = waiting_none (cells t₀) k r wake-none ∙ sym (waiting_none w k r wake-none) in
      let waits : waiting_of (cells t₁) k (retimed r x r.head 1) ≡ enter r.longest.0 (waiting_of w k r) (waiting e)
      = ap (λ (n : ℕ). waiting_of (cells t₁) k (retimed r x r.head n)) (sym one) ∙ entered-waits t₀ t₁ k r e en is counted x ∙ ap (λ (y : Waiting). enter r.longest.0 y (waiting e)) before in
      let lane = lane_row w o k hk wake-joins.here.present in
      let none-lane : (lane_at (meant t) k).finish ≡ r.time.0 = ap (λ (y : Lane). y.finish) (lane ∙ timed-none (given_of r) r.time.0 (waiting_of w k r) first-none) in
      let time : x ≡ max r.time.0 (meant t).clock = start ∙ ap (λ (y : ℕ). max y (meant t).clock) none-lane in
      let same : timed_by_word (given_of r) x (waiting_of (cells t₁) k (retimed r x r.head 1)) ≡ woken (meant t).clock (lane_at (meant t) k) (waiting e)
      = ap (timed_by_word (given_of r) x) waits
      ∙ ap (λ (y : ℕ). timed_by_word (given_of r) y (enter r.longest.0 (waiting_of w k r) (waiting e))) time
      ∙ sym (timed-woken (given_of r) (meant t).clock r.time.0 (waiting_of w k r) (waiting e) first-none (first-enter r.longest.0 (waiting_of w k r) (waiting e) wake-joins.here.good wake-joins.enters first-none))
      ∙ ap (λ (y : Lane). woken (meant t).clock y (waiting e)) (sym lane) in
      subst (λ (y : Lane). Leaves t t' (with_lane (meant t) k y)) same
      (rewritten t t₁ t' k x r.head 1 hk top wake-joins.here.present (moved_then c.moved en.moved)
      (λ beside n. subst (λ (m : ℕ). Housed (cells t₁) k (retimed r x r.head m)) one (entered-housed t₀ t₁ k r e en is counted x paced wake-train c.fits))
      b)
