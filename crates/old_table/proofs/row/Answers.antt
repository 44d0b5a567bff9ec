use native.Mathlib.Omega.{arith}
use Rattle.old_table.proofs.Reading.{row_read}
use Rattle.old_table.proofs.row.Goals as goal

pub returns : goal.returns
returns c =
    let setting = c.cell-setting in
    let ring = c.cell-ring in
    (row_read _ _ setting.result ring.result c.row-l.result c.row-l.ensures.0 setting.ensures ring.ensures, omega arith, omega (arith, setting.type_inv))
