-- `put_word` meets its contract: the bytes with the word in the place of a part are the bytes with the word stored there. Assumes nothing.
use mathlib.Core.Path.{◌≡◌, refl, sym, ◌∙◌}
use mathlib.Core.List.{append_assoc}
use Prim.Native.Nat.{◌+◌, ◌-◌, ◌≤◌}
use native.Mathlib.Omega.{arith}
use lib.ListN.{length}
use lib.Seq.{sets-eq, drop-drop}
use Rattle.text.proofs.put_word.Goals as goal

pub returns : goal.returns
returns c =
    let a = c.args.a.now in
    let at = c.args.at in
    let word = c.args.word.now in
    let fits : at + length word ≤ length a = omega arith in
    let k : at + length word - at ≡ length word = omega arith in
    (rw (c.copy_from_slice.ensures.after, k, drop-drop) (sym (sets-eq word a at fits ∙ rw append_assoc)), refl)
