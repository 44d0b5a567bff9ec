-- `set_lists` meets its contract. Assumes nothing.
use mathlib.Core.Path.{sym, subst}
use mathlib.Core.List.{List}
use Prim.Native.Nat.{ℕ}
use Rattle.words.specs.Words.{word_at}
use Rattle.slot_lists.specs.Lists.{start_word}
use Rattle.slot_lists.specs.Changes.{GroupStored}
use Rattle.slot_lists.proofs.Store.{stored-lists}
use Rattle.slot_lists.proofs.set_lists.Goals as goal

pub returns : goal.returns
returns c =
    let s = c in
    subst (λ (u : List ℕ). GroupStored s.args.t.now u s.args.g s.args.map (word_at s.args.t.now (start_word s.args.g))) (sym c.set_word.ensures)
    (stored-lists s.args.t.now s.args.g s.requires.0 s.requires.1 s.requires.2 s.requires.3 s.args.map s.requires.4 s.ranges.map.fits)
