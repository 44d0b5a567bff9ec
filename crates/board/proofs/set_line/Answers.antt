-- `set_line` meets its contract. Assumes nothing.
use Prim.Native.Nat.{◌+◌, ◌*◌}
use mathlib.Core.Path.{ap, ◌∙◌}
use Rattle.words.specs.Words.{put_word}
use Rattle.board.proofs.set_line.Goals as goal

pub returns : goal.returns
returns c = c.set_word-2.ensures ∙ ap (λ x. put_word x (c.args.k * 2 + 1) (c.args.l.cell + 65536 * c.args.l.kind)) c.set_word.ensures
