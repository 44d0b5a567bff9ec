-- Good tables and the states that they encode (R6.12).
--
--   GoodEncodes   a good table encodes the state that its words mean, so no promise about a good table's states is empty
--   EncodesGood   bytes that encode a good state are a good table
--
-- Assumes nothing.
use Rattle.std.specs.Prelude.{ℕ, List}
use Rattle.rules.specs.State.{State}
use Rattle.rules.specs.Good.{Good}
use Rattle.table.specs.Means.{meant}
use Rattle.table.specs.Encodes.{Encodes}
use Rattle.good.specs.Table.{GoodTable}

unfoldable pub GoodEncodes : Type 0
GoodEncodes = (t : List ℕ) → GoodTable t → Encodes t (meant t)

unfoldable pub EncodesGood : Type 0
EncodesGood = (t : List ℕ) (s : State) → Encodes t s → Good s → GoodTable t
