use Rattle.words.proofs.Laws.{word_sum}
use Rattle.words.proofs.whole.Goals as goal

pub returns : goal.returns
returns c =
    let a = c.args in
    rw (c.half.ensures.0, c.half-2.ensures.0) (word_sum a.t.now a.a)
