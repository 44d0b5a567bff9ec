-- `list_number` meets its contract. Assumes nothing.
use mathlib.Core.Path.{sym, ap}
use Prim.Native.Nat.{ℕ, ◌%◌}
use native.Mathlib.Omega.{arith}
use Rattle.units.proofs.Whole.{slot-part}
use Rattle.slot_lists.proofs.list_number.Goals as goal

pub returns : goal.returns
returns c =
    let s = c in (ap (λ (x : ℕ). x % 32) (sym (slot-part s.args.back s.args.g s.args.time s.requires.2 s.requires.3)), omega arith)
