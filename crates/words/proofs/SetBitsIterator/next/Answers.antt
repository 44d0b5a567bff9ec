-- The lowest set bit is given, and what is left is the word without it. Assumes nothing.
use Rattle.words.proofs.Bits.{low-set, low_below}
use Rattle.words.proofs.Cleared.{cleared}
use native.Mathlib.Omega.{arith}
use Rattle.words.proofs.SetBitsIterator.next.Goals as goal

pub returns-clause-steps : goal.returns-clause-steps
returns-clause-steps c =
    let word = c.args.self.now.0 in
    let b = low-set 64 word (omega arith) (omega arith) in
    let r = cleared 64 word (omega arith) (omega arith) in
    record { small = low_below 64 word (omega arith) (omega arith); on = b.0; below = b.1; gone = r.gone; stays = r.stays }
