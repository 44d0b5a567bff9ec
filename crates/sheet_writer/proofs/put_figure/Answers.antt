-- `put_figure` meets its contract. Assumes nothing.
use Prim.Native.Nat.{ℕ}
use mathlib.Core.Path.{ap, ◌∙◌}
use mathlib.Core.List.{List, [], ◌∷◌}
use native.Mathlib.Omega.{arith}
use lib.ListN.{set}
use lib.Seq.{sets}
use Rattle.text.specs.Decimal.{decimal}
use Rattle.text.proofs.Stores.{sets-append}
use Rattle.sheet_writer.proofs.put_figure.Goals as goal

pub returns : goal.returns
returns c =
    let p = c.put_number-p.ensures in (
      ap (λ (x : List ℕ). set x c.put_number-p.result c.args.stop) p.0
          ∙ ap (λ (i : ℕ). set (sets c.args.a.now c.args.at (decimal c.args.n)) i c.args.stop) p.1
          ∙ sets-append c.args.a.now c.args.at (decimal c.args.n) (c.args.stop ∷ []),
      omega (arith, p.1),
    )
