use mathlib.Core.Path.{◌≡◌}
use mathlib.Core.Bool.{true, false}
use native.Mathlib.Omega.{arith}
use Rattle.table.specs.Layout.{cells}
use Rattle.queue.proofs.Taking.{front-plain, front-train, turn_below}
use borrow.Author.Rules.{rules}
use Rattle.queue.proofs.front.Goals as goal

pub train-number-requires : goal.train-number-requires
train-number-requires c =
    let s = c in
    let kind : s.args.l.shared ≡ true = search rules in
    let x = s.requires.3 kind in
    (s.requires.0, s.requires.1, turn_below (cells s.args.t.now) s.args.k s.args.l.longest.0 _ x.0 x.1 x.2 c.round.ensures)

pub returns-then-l : goal.returns-then-l
returns-then-l c =
    let s = c in
    let kind : s.args.l.shared ≡ true = search rules in
    let x = s.requires.3 kind in
    record { first = front-train (cells s.args.t.now) s.args.k s.args.l kind s.requires.2 x.0 x.1 x.2 _ _ _ c.round.ensures c.train-number.ensures.0 (omega arith) }

pub returns : goal.returns
returns c =
    let s = c in
    let kind : s.args.l.shared ≡ false = search rules in
    record { first = front-plain (cells s.args.t.now) s.args.k s.args.l kind s.requires.2 }
