-- A good table (R6.2), of bytes.
--
--   GoodTable   long enough, means a good state, and what is stored beside the state and of the slot lists agrees with it
--
-- Assumes nothing.
use Rattle.std.specs.Prelude.{ℕ, List}
use Rattle.rules.specs.Good.{Good}
use Rattle.table.specs.Layout.{Room, cells}
use Rattle.table.specs.Means.{RowsFit, Listed, meant}

-- R6.2: `good` has R6.3 to R6.9
pub record GoodTable (t : List ℕ) : Type 0 where
  pub room : Room t
  pub good : Good (meant t)
  -- R6.10
  pub beside : RowsFit (cells t)
  -- R6.11
  pub listed : Listed t
