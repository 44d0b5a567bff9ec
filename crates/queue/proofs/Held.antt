-- A lane by its row: of the setup, with a record that may enter it, with records in it. What `append`, `wake` and `take_first` each begin from.
--
--   RowHere, row_here     the lane is in the setup
--   RowJoins, row-joins   and the record may enter it
--   RowBusy, row-busy     and holds records
--
-- Assumes nothing.
use Prim.Native.Nat.{ℕ, ◌<◌}
use mathlib.Core.Path.{◌≡◌}
use mathlib.Core.Bool.{true}
use mathlib.Core.List.{List}
use Rattle.waiting.specs.Waiting.{GoodWaiting}
use Rattle.waiting.proofs.Laws.{Enters}
use Rattle.rules.specs.State.{lane_at, holds}
use Rattle.slot_lists.specs.Lists.{list_at}
use Rattle.filing.specs.Filing.{in_aRow}
use Rattle.table.specs.Layout.{cells, row_at}
use Rattle.table.specs.Means.{present_at, waiting_of, meant, RowAgrees, Housed, Sound}
use Rattle.table.proofs.Rows.{holds-present}
use Rattle.queue.specs.Queue.{waiting}
use Rattle.queue.specs.declared.Item.{Item}
use Rattle.queue.proofs.Lane.{holds_row, good-row, enters-row}

pub record RowHere (t : List ℕ) (k : ℕ) : Type 0 where
  pub present : present_at (cells t) k ≡ true
  pub agrees : RowAgrees (row_at (cells t) k)
  pub good : GoodWaiting (row_at (cells t) k).longest.0 (waiting_of (cells t) k (row_at (cells t) k))

pub record RowJoins (t : List ℕ) (k : ℕ) (e : Item) : Type 0 where
  pub here : RowHere t k
  pub enters : Enters (row_at (cells t) k).longest.0 (waiting_of (cells t) k (row_at (cells t) k)) (waiting e)

pub record RowBusy (t : List ℕ) (k : ℕ) : Type 0 where
  pub here : RowHere t k
  pub some : 0 < (row_at (cells t) k).count
  pub housed : Housed (cells t) k (row_at (cells t) k)

module _ (t : List ℕ) (k : ℕ) (s : Sound t) (hk : k < 64) (g : GoodWaiting (lane_at (meant t) k).given.longest (lane_at (meant t) k).waiting) where
  pub row_here : present_at (cells t) k ≡ true → RowHere t k
  row_here p = record { present = p; agrees = s.beside.rows k hk p; good = good-row (cells t) (in_aRow (list_at t)) k hk p g }

  pub row-joins : present_at (cells t) k ≡ true → (e : Item) → Enters (lane_at (meant t) k).given.longest (lane_at (meant t) k).waiting (waiting e) → RowJoins t k e
  row-joins p e a = record { here = row_here p; enters = enters-row (cells t) (in_aRow (list_at t)) k hk p (waiting e) a }

  pub row-busy : holds (lane_at (meant t) k) ≡ true → RowBusy t k
  row-busy busy =
      let p = holds-present (cells t) (in_aRow (list_at t)) k hk busy in
      let n = holds_row (cells t) (in_aRow (list_at t)) k hk p busy in
      record { here = row_here p; some = n; housed = s.beside.housed k hk p n }
