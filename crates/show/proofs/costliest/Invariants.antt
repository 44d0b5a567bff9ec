-- `costliest` meets its contract. Assumes nothing.
use Prim.Native.Nat.{◌-◌, ◌≤◌, max}
use native.Mathlib.Omega.{arith}
use mathlib.Core.Path.{◌≡◌}
use lib.ListN.{drop}
use borrow.Author.Rules.{rules}
use Rattle.rules.specs.State.{setup_of}
use Rattle.rules.specs.Setup.{longest_charge}
use Rattle.table.specs.Means.{meant}
use Rattle.show.proofs.WorstWaits.{most-more, most-all}
use Rattle.show.proofs.costliest.Given as goal

abbrev pub invariant-loop-k : goal.invariant-loop-k
invariant-loop-k l = max l.most (longest_charge (drop l.k (setup_of (meant l.t)))) ≡ longest_charge (setup_of (meant l.t))
