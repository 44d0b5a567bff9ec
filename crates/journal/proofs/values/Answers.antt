-- `values` meets its contract. Assumes nothing.
use native.Mathlib.Omega.{arith}
use Rattle.journal.proofs.Fields.{big-one}
use Rattle.journal.proofs.values.Goals as goal

pub returns : goal.returns
returns c =
    let s = c.args.s.now in
    record {
      is = rw (c.u32_at-train.ensures.0, c.u16_at-cell.ensures.0, big-one s 9, c.u32_at-sequence.ensures.0);
      carried = record { train = c.u32_at-train.ensures.1; cell = c.u16_at-cell.ensures.1; kind = omega (arith, c.type_inv.s 9); sequence = c.u32_at-sequence.ensures.1 };
    }
