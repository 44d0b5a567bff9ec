use mathlib.Core.Path.{subst}
use Prim.Native.Nat.{ℕ}
use lib.ListN.{set}
use Rattle.table.specs.Layout.{Now, cells, lane_word, paced_word}
use Rattle.table.proofs.set_pace.Goals as goal

pub returns : goal.returns
returns c =
    let set-cell = c.set_cell in
    let cell = c.cell-setting in
    let s = c in
    let t = s.args.t.now in
    let p = s.args.p in
    subst (λ (x : ℕ). Now t set-cell.new.t (set (cells t) (lane_word s.args.k) (paced_word x p.rate.0 p.group))) cell.ensures set-cell.ensures
