use native.Mathlib.Omega.{arith}
use Rattle.table.proofs.Stores.{row_of-eq}
use Rattle.table.specs.Layout.{row_at}
use Rattle.table.proofs.row.Goals as goal

pub returns : goal.returns
unfolding row_at
returns c = (row_of-eq _ _ _ _ _ _ _ _ c.cell-framing.ensures c.cell-setting.ensures c.cell-time.ensures c.cell-ring.ensures, omega arith, omega arith)
