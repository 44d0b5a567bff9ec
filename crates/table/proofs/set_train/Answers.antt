use native.Mathlib.Omega.{arith}
use Rattle.table.proofs.Places.{train-stored}
use Rattle.table.proofs.set_train.Goals as goal

pub returns : goal.returns
returns c =
    let s = c in
    train-stored s.args.k s.args.j s.requires.1 s.requires.2 s.args.t.now _ _ _ c.set_half.ensures (omega arith)
