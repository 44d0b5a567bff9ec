-- `open_group` meets its contract. Assumes nothing.
use mathlib.Core.Path.{sym, ap, subst, ◌∙◌}
use mathlib.Core.Bool.{true}
use mathlib.Core.List.{List}
use Prim.Native.Nat.{ℕ, ◌+◌, ◌*◌, ◌%◌, ◌^◌}
use native.Mathlib.Omega.{arith}
use Rattle.words.specs.Words.{put_word}
use Rattle.words.proofs.Bits.{shift_one, add-below}
use Rattle.slot_lists.specs.Lists.{groups_word, start_word}
use Rattle.slot_lists.specs.Changes.{WithBit, GroupStored}
use Rattle.slot_lists.proofs.Bits.{bit-on}
use Rattle.slot_lists.proofs.Store.{stored-new}
use Rattle.slot_lists.proofs.open_group.Goals as goal

pub overflow_add-groups : goal.overflow_add-groups
overflow_add-groups c =
    let s = c in
    omega (arith, shift_one s.args.g (omega (arith, s.requires.2)), add-below 64 s.args.g s.args.groups (omega (arith, s.requires.2)) s.ranges.groups.fits s.requires.4)

pub returns : goal.returns
returns c =
    let s = c in
    let one = shift_one s.args.g (omega (arith, s.requires.2)) in
    let x : ℕ = s.args.groups + 1 * 2 ^ s.args.g % 2 ^ 64 in
    let w : WithBit s.args.groups s.args.g true x = subst (λ (x : ℕ). WithBit s.args.groups s.args.g true (s.args.groups + x)) (sym one) (bit-on s.args.groups s.args.g s.requires.4) in
    let fits = add-below 64 s.args.g s.args.groups (omega (arith, s.requires.2)) s.ranges.groups.fits s.requires.4 in
    subst (λ (u : List ℕ). GroupStored s.args.t.now u s.args.g s.args.map s.args.start) (sym (c.set_word-3.ensures ∙ ap (λ (u : List ℕ). put_word u groups_word x) (c.set_word-2.ensures ∙ ap (λ (u : List ℕ). put_word u (start_word s.args.g) s.args.start) c.set_word.ensures)))
    (stored-new s.args.t.now s.args.g s.args.map s.args.start s.requires.0 s.requires.1 s.requires.2 s.requires.5 s.ranges.map.fits s.ranges.start.fits x (omega (arith, one, fits)) (subst (λ (y : ℕ). WithBit y s.args.g true x) s.requires.3 w))
