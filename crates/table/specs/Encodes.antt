-- When a table's bytes encode a state (R6.12): they are long enough, mean a state that no call tells apart from it, and store beside it what agrees.
-- Assumes nothing.
use Rattle.std.specs.Prelude.{ℕ, List}
use Rattle.rules.specs.State.{State}
use Rattle.alike.specs.Alike.{Alike}
use Rattle.table.specs.Layout.{Room, cells}
use Rattle.table.specs.Means.{RowsFit, Listed, meant}

pub record Encodes (t : List ℕ) (s : State) : Type 0 where
  pub room : Room t
  pub alike : Alike (meant t) s
  pub beside : RowsFit (cells t)
  pub listed : Listed t
