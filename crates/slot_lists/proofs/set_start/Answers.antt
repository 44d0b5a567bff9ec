-- `set_start` meets its contract. Assumes nothing.
use mathlib.Core.Path.{sym, subst}
use mathlib.Core.List.{List}
use Prim.Native.Nat.{ℕ}
use Rattle.slot_lists.specs.Lists.{map_of}
use Rattle.slot_lists.specs.Changes.{GroupStored}
use Rattle.slot_lists.proofs.Store.{stored-start}
use Rattle.slot_lists.proofs.set_start.Goals as goal

pub returns : goal.returns
returns c =
    let s = c in
    subst (λ (u : List ℕ). GroupStored s.args.t.now u s.args.g (map_of s.args.t.now s.args.g) s.args.start) (sym c.set_word.ensures)
    (stored-start s.args.t.now s.args.g s.requires.0 s.requires.1 s.requires.2 s.requires.3 s.args.start s.requires.4 s.ranges.start.fits)
