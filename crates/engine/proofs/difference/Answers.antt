-- `difference` meets its contract. Assumes nothing.
use Rattle.engine.proofs.Signed.{diff-fits, diff-read}
use borrow.Author.Rules.{rules}
use Rattle.engine.proofs.difference.Goals as goal

pub overflow_sub-result : goal.overflow_sub-result
overflow_sub-result c =
    let s = c in diff-fits s.args.v.0 s.args.s.0 s.requires.0 s.requires.1

pub returns : goal.returns
returns c =
    let s = c in diff-read s.args.v.0 s.args.s.0 s.requires.0 s.requires.1
