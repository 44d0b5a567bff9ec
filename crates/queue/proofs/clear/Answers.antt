use mathlib.Core.Path.{◌≡◌}
use mathlib.Core.Bool.{false}
use Rattle.queue.proofs.Entering.{cleared-plain, cleared-trains}
use borrow.Author.Rules.{rules}
use Rattle.queue.proofs.clear.Goals as goal

pub returns-then-l : goal.returns-then-l
returns-then-l c =
    let s = c in
    cleared-trains s.args.t.now _ s.args.k s.args.l s.requires.1 s.requires.2 c.clear_lengths.ensures _ _ c.clear_trains.ensures c.set_round.ensures

pub returns-else-l : goal.returns-else-l
returns-else-l c =
    let s = c in
    let kind : s.args.l.shared ≡ false = search rules in
    cleared-plain s.args.t.now _ s.args.k s.args.l s.requires.1 s.requires.2 c.clear_lengths.ensures kind
