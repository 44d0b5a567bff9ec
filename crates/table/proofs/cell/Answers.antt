use mathlib.Core.Path.{sym, ap, ◌∙◌}
use native.Mathlib.Omega.{arith}
use Rattle.words.specs.Words.{word_at}
use Rattle.table.proofs.Stores.{cell-is, word-before}
use Rattle.table.proofs.cell.Goals as goal

pub returns : goal.returns
returns c =
    let s = c in
    c.word.ensures ∙ ap (word_at s.args.t.now) (sym (word-before s.args.i s.requires.1)) ∙ sym (cell-is s.args.t.now s.args.i (omega (arith, s.requires.1)))
