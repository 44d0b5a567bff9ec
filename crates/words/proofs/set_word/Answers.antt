use Prim.Native.Nat.{◌*◌}
use lib.ListN.{length-set}
use native.Mathlib.Omega.{arith}
use Rattle.words.specs.Words.{put_word}
use Rattle.words.proofs.Laws.{word-stores}
use Rattle.words.proofs.set_word.Goals as goal

pub bounds-t-a-2 : goal.bounds-t-a-2
bounds-t-a-2 c = simp length-set (omega arith)

pub bounds-t-a-3 : goal.bounds-t-a-3
bounds-t-a-3 c = simp length-set (omega arith)

pub bounds-t-a-4 : goal.bounds-t-a-4
bounds-t-a-4 c = simp length-set (omega arith)

pub bounds-t-a-5 : goal.bounds-t-a-5
bounds-t-a-5 c = simp length-set (omega arith)

pub bounds-t-a-6 : goal.bounds-t-a-6
bounds-t-a-6 c = simp length-set (omega arith)

pub bounds-t-a-7 : goal.bounds-t-a-7
bounds-t-a-7 c = simp length-set (omega arith)

pub bounds-t-a-8 : goal.bounds-t-a-8
bounds-t-a-8 c = simp length-set (omega arith)

pub shape_of-t : goal.shape_of-t
shape_of-t c = simp length-set

pub returns : goal.returns
unfolding put_word
returns c = word-stores c.args.t.now (c.args.i * 8) c.args.v
