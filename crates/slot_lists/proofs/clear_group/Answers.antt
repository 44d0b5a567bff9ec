-- `clear_group` meets its contract. Assumes nothing.
use mathlib.Core.Path.{sym, subst}
use mathlib.Core.Bool.{false}
use mathlib.Core.List.{List}
use Prim.Native.Nat.{ℕ, ◌-◌, ◌*◌, ◌%◌, ◌^◌}
use native.Mathlib.Omega.{arith}
use Rattle.words.proofs.Bits.{shift_one}
use Rattle.slot_lists.specs.Changes.{WithBit, GroupStored}
use Rattle.slot_lists.proofs.Bits.{bit-off}
use Rattle.slot_lists.proofs.Store.{stored-none}
use Rattle.slot_lists.proofs.clear_group.Goals as goal

pub returns : goal.returns
returns c =
    let s = c in
    let one = shift_one s.args.g (omega (arith, s.requires.2)) in
    let x : ℕ = s.args.groups - 1 * 2 ^ s.args.g % 2 ^ 64 in
    let w : WithBit s.args.groups s.args.g false x = subst (λ (x : ℕ). WithBit s.args.groups s.args.g false (s.args.groups - x)) (sym one) (bit-off s.args.groups s.args.g s.requires.4) in
    subst (λ (u : List ℕ). GroupStored s.args.t.now u s.args.g 0 0) (sym c.set_word.ensures)
    (stored-none s.args.t.now s.args.g x s.requires.0 s.requires.1 s.requires.2 (omega (arith, s.ranges.groups.fits)) (subst (λ (y : ℕ). WithBit y s.args.g false x) s.requires.3 w))
