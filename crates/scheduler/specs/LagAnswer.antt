-- R15.17: what lag answers on any good table, of the call's own answer: the lag of the rules, within the ends of its range. Assumes nothing.
use Rattle.std.specs.Prelude.{ℕ, ◌≡◌, List, ℤ}
use Rattle.rules.specs.State.{lane_at}
use Rattle.rules.specs.Calls.{lag, lagged, lag_of}
use Rattle.rules.specs.Reads.{reads}
use Rattle.rules.specs.declared.Answer.{Answer}
use Rattle.std.specs.Prelude.{Result}
use Rattle.rules.specs.declared.Refusal.{Refusal}
use Rattle.table.specs.Means.{meant}
use Rattle.paged.specs.Paged.{GoodUnit}
use Rattle.engine.specs.LagRange.{LagRange}
use Rattle.scheduler.specs.Step.{Step}

unfoldable pub LagCall : Type 0
LagCall =
    (t u : List ℕ) (a : Result Answer Refusal) (j : ℕ) (z : ℤ) → GoodUnit t → Step (lag j) t a u → reads a ≡ lagged z
    → (z ≡ lag_of (meant t).clock (lane_at (meant t) j)) × LagRange (meant t) j
