use Rattle.words.specs.Bits.{bit}
use Rattle.fresh.proofs.Leaves.{off, lanes-kept, add-leaves, add-framing}
use Rattle.words.proofs.Bits.{add-below, shift_one}
use Prim.Native.Nat.{◌-◌}
use mathlib.Core.Path.{◌≡◌, ◌∙◌}
use native.Mathlib.Omega.{arith}
use borrow.Author.Rules.{rules}
use Rattle.fresh.proofs.add_lane.Goals as goal

pub overflow_add-k : goal.overflow_add-k
overflow_add-k c =
    let s = c in
    let word = c.setting_word in
    let lanes = c.cell-lanes.result in
    let e = c.cell-lanes.ensures ∙ lanes-kept s.args.t.now _ _ _ s.args.k word.result _ s.requires.0 s.requires.1 s.requires.3 (word.ensures s.args.h.0 s.requires.2 s.requires.4) s.requires.5 c.set_cell.ensures c.set_cell-2.ensures c.set_cell-3.ensures in
    let free : bit s.args.k lanes ≡ 0 = rw e (off s.args.t.now _ _ _ s.args.k word.result _ s.requires.0 s.requires.1 s.requires.3 (word.ensures s.args.h.0 s.requires.2 s.requires.4) s.requires.5 c.set_cell.ensures c.set_cell-2.ensures c.set_cell-3.ensures) in
    omega (arith, add-below 64 s.args.k lanes s.requires.1 (omega (arith, c.cell-lanes)) free, shift_one s.args.k s.requires.1)

pub returns : goal.returns
returns c =
    let s = c in
    let word = c.setting_word in
    (add-leaves s.args.t.now _ _ _ s.args.k word.result _ s.requires.0 s.requires.1 s.requires.3 (word.ensures s.args.h.0 s.requires.2 s.requires.4) s.requires.5 c.set_cell.ensures c.set_cell-2.ensures c.set_cell-3.ensures _ c.cell-lanes.result c.cell-lanes.ensures c.set_cell-4.ensures, add-framing s.args.t.now _ _ _ s.args.k word.result _ s.requires.0 s.requires.1 s.requires.3 (word.ensures s.args.h.0 s.requires.2 s.requires.4) s.requires.5 c.set_cell.ensures c.set_cell-2.ensures c.set_cell-3.ensures _ _ c.set_cell-4.ensures)
