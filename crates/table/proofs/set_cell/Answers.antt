use mathlib.Core.Path.{sym, subst}
use Prim.Native.Nat.{ℕ}
use mathlib.Core.List.{List}
use native.Mathlib.Omega.{arith}
use lib.ListN.{set}
use Rattle.words.specs.Words.{put_word}
use Rattle.digits.specs.Digits.{WordStored}
use Rattle.digits.proofs.Bytes.{word-stored}
use Rattle.table.specs.Layout.{Now, cells}
use Rattle.table.proofs.Stores.{now-stored, word-before}
use Rattle.table.proofs.set_cell.Goals as goal

pub returns : goal.returns
returns c =
    let s = c in
    let t = s.args.t.now in
    let i = s.args.i in
    let v = s.args.v in
    subst (λ (u : List ℕ). Now t u (set (cells t) i v)) (sym c.set_word.ensures)
    (now-stored t (put_word t i v) i v (omega (arith, s.requires.1))
    (subst (λ (j : ℕ). WordStored t (put_word t i v) j v) (sym (word-before i s.requires.1)) (word-stored t i v (omega (arith, s.requires.0, s.requires.1)) s.ranges.v.fits)))
