-- `speak` meets its contract. Assumes nothing.
use mathlib.Core.Path.{ap, ◌∙◌}
use mathlib.Core.List.{List}
use Prim.Native.Nat.{ℕ}
use Rattle.words.specs.Words.{put_word}
use Rattle.zenfrosta.specs.Crossing.{spoken, words_in}
use Rattle.zenfrosta.proofs.Spoken.{spoken-read}
use borrow.Author.Rules.{rules}
use Rattle.zenfrosta.proofs.speak.Goals as goal

pub returns : goal.returns
unfolding spoken
returns c =
    let w = c.args.w in
    let told = c.set_word-4.ensures
    ∙ ap (λ (o : List ℕ). put_word o 3 w.d) (c.set_word-3.ensures
    ∙ ap (λ (o : List ℕ). put_word o 2 w.c) (c.set_word-2.ensures
    ∙ ap (λ (o : List ℕ). put_word o 1 w.b) c.set_word.ensures)) in
    record {
      buffer = told;
      read = ap words_in told ∙ spoken-read c.args.out.now w c.requires (search rules) (search rules) (search rules) (search rules);
    }
