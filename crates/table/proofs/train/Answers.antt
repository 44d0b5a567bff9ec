use native.Mathlib.Omega.{arith}
use Rattle.table.proofs.Places.{train-read}
use Rattle.table.proofs.train.Goals as goal

pub returns : goal.returns
returns c =
    let s = c in
    (train-read s.args.k s.args.j s.requires.1 s.requires.2 s.args.t.now _ _ c.half.ensures.0 (omega arith), c.half.ensures.1)
