-- From the stores of `append` to the lane that it leaves. Assumes nothing.
use mathlib.Core.Path.{◌≡◌, sym, ap, subst, ◌∙◌}
use mathlib.Core.Bool.{true}
use Prim.Native.Nat.{ℕ, ◌+◌, ◌<◌}
use mathlib.Core.List.{List}
use native.Mathlib.Omega.{arith}
use Rattle.rounds.specs.Round as round
use Rattle.waiting.specs.Waiting.{shared, first, enter, GoodWaiting}
use Rattle.waiting.proofs.Laws.{Enters, first-stays, held-enter, held-most, good-enter}
use Rattle.rules.specs.State.{Lane, lane_at, lane_depth, holds, some?}
use Rattle.rules.specs.Calls.{appended}
use Rattle.rules.proofs.Moves.{busy-first}
use Rattle.slot_lists.specs.Lists.{list_at}
use Rattle.filing.specs.Filing.{in_aRow}
use Rattle.table.specs.Layout.{Now, cells, row_at, put_ring}
use Rattle.table.specs.Means.{shared_at, waiting_of, given_of, timed_by_word, meant, Sound, Leaves, with_lane}
use Rattle.table.specs.declared.LaneRow.{LaneRow}
use Rattle.table.proofs.Rows.{retimed, waiting-shared, waiting-held}
use Rattle.table.proofs.Timed.{timed-appended}
use Rattle.queue.specs.Queue.{waiting, Ready, Entered}
use Rattle.queue.specs.declared.Item.{Item}
use Rattle.queue.proofs.Moves.{entered-waits, entered-housed}
use Rattle.queue.proofs.Lane.{rewritten, ring-now, lane_row, first-of, good-shared, ready_held}
use Rattle.queue.proofs.Held.{RowBusy, RowJoins, row-joins, row-busy}

module _ (t t₁ t' : List ℕ) (k : ℕ) (e : Item) (s : Sound t) (hk : k < 64) (g : GoodWaiting (lane_at (meant t) k).given.longest (lane_at (meant t) k).waiting)
    (a : Enters (lane_at (meant t) k).given.longest (lane_at (meant t) k).waiting (waiting e)) (busy : holds (lane_at (meant t) k) ≡ true) where
  abbrev w : List ℕ
  w = cells t

  abbrev o : List ℕ
  o = in_aRow (list_at t)

  abbrev r : LaneRow
  r = row_at w k

  held : RowBusy t k
  held = row-busy t k s hk g busy

  pub append-joins : RowJoins t k e
  append-joins = row-joins t k s hk g held.here.present e a

  pub append-room : r.count < lane_depth
  append-room =
      omega (
        arith,
        waiting-held w k r (λ n. held.housed),
        held-enter r.longest.0 (waiting_of w k r) (waiting e) held.here.good append-joins.enters,
        held-most r.longest.0 (enter r.longest.0 (waiting_of w k r) (waiting e)) (good-enter r.longest.0 (waiting_of w k r) (waiting e) held.here.good append-joins.enters),
      )

  pub append-ready : r.shared ≡ true → Ready w k e.train
  append-ready q = ready_held w k r q held.some (good-shared w k r q held.some held.here.good) (held.housed.trains q).ordered held.here.agrees.numbers.longest_high (waiting e) append-joins.enters

  first-kept : first (enter r.longest.0 (waiting_of w k r) (waiting e)) ≡ first (waiting_of w k r)
  first-kept =
      let x = busy-first (first (waiting_of w k r)) (sym (ap some? (first-of w o k hk held.here.present)) ∙ busy) in
      first-stays r.longest.0 (waiting_of w k r) (waiting e) x.0 held.here.good append-joins.enters x.1 ∙ sym x.1

  pub append-leaves : r.head < lane_depth → Entered t t₁ k r e → Now t₁ t' (put_ring (cells t₁) k r.head (r.count + 1)) → Leaves t t' (with_lane (meant t) k (appended (lane_at (meant t) k) (waiting e)))
  append-leaves top en b =
      let is : r.shared ≡ true → waiting_of w k r ≡ shared (shared_at w k) = λ q. waiting-shared w k r q held.some in
      let counted : r.shared ≡ true → round.shared_held (shared_at w k) ≡ r.count = λ q. (held.housed.trains q).counted in
      let same : timed_by_word (given_of r) r.time.0 (waiting_of (cells t₁) k (retimed r r.time.0 r.head (r.count + 1))) ≡ appended (lane_at (meant t) k) (waiting e)
      = ap (timed_by_word (given_of r) r.time.0) (entered-waits t t₁ k r e en is counted r.time.0)
      ∙ sym (timed-appended (given_of r) r.time.0 (waiting_of w k r) (waiting e) first-kept)
      ∙ ap (λ (x : Lane). appended x (waiting e)) (sym (lane_row w o k hk held.here.present)) in
      subst (λ (x : Lane). Leaves t t' (with_lane (meant t) k x)) same
      (rewritten t t₁ t' k r.time.0 r.head (r.count + 1) hk top held.here.present en.moved
      (λ beside n. entered-housed t t₁ k r e en is counted r.time.0 held.housed.paced (λ q. (append-ready q).train) held.housed.places)
      (ring-now t t₁ t' k r.head (r.count + 1) hk en.moved b))
