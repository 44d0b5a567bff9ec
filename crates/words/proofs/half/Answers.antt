use native.Mathlib.Omega.{arith}
use Rattle.words.proofs.Laws.{half-sum}
use Rattle.words.proofs.half.Goals as goal

pub returns : goal.returns
returns c =
    let a = c.args in (
      rw (c.byte.ensures.0, c.byte-2.ensures.0, c.byte-3.ensures.0, c.byte-4.ensures.0) (half-sum a.t.now a.a),
      omega arith,
    )
