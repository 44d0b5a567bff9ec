-- `empty` meets its contract. Assumes nothing.
use mathlib.Core.Path.{sym, ap, subst, ◌∙◌}
use Prim.Native.Nat.{ℕ}
use mathlib.Core.List.{List}
use Rattle.words.specs.Words.{put_word}
use Rattle.slot_lists.specs.Lists.{back_word}
use Rattle.slot_lists.specs.Changes.{ListsEmptied}
use Rattle.slot_lists.proofs.Emptied.{emptied-as}
use Rattle.slot_lists.proofs.empty.Goals as goal

pub returns : goal.returns
returns c =
    let s = c in
    let t = s.args.t.now in
    let made = c.set_word-2.ensures ∙ ap (λ (u : List ℕ). put_word u back_word 0) c.set_word.ensures in
    subst (λ (u : List ℕ). ListsEmptied t u) (sym made) (emptied-as t s.requires)
