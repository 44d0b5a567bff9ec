-- The ranges of groups and of set words. Assumes nothing.
use Rattle.rules.specs.Ranges.{GroupRange, WordRule}
use Rattle.rules.proofs.Lane.{group-least, group-most}
use Rattle.rules.proofs.Word.{word_lt, word-bit}

pub group-range : GroupRange
unfolding GroupRange
group-range g h f = (group-least g h, group-most g h.longest_high f)

pub word-rule : WordRule
unfolding WordRule
word-rule p n = (word_lt p n, word-bit p n)
