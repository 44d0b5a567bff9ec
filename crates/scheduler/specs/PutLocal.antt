-- R14.44, of the put's own answer: its lane's setting and what waits there decide whether a train and a length get 12, 13, 70 or 71, whatever the clock, S, F,
-- the other lanes and the mark are.
-- Assumes nothing.
use Rattle.std.specs.Prelude.{ℕ, ◌≡◌, ◌⊎◌, List}
use Rattle.std.proofs.Math.Option.{none}
use Rattle.rules.specs.State.{lane_at}
use Rattle.rules.specs.Calls.{put, refused}
use Rattle.rules.specs.Reads.{reads}
use Rattle.rules.specs.declared.Answer.{Answer}
use Rattle.std.specs.Prelude.{Result}
use Rattle.rules.specs.declared.Refusal.{Refusal}
use Rattle.table.specs.Means.{meant}
use Rattle.paged.specs.Paged.{GoodUnit}
use Rattle.scheduler.specs.Step.{Step}

unfoldable pub PutLocal : Type 0
PutLocal =
    (t t' u u' : List ℕ) (a a' : Result Answer Refusal) (j k m m' n r : ℕ) → GoodUnit t → GoodUnit t'
    → (lane_at (meant t) j).given ≡ (lane_at (meant t') j).given → (lane_at (meant t) j).waiting ≡ (lane_at (meant t') j).waiting
    → Step (put j k m n) t a u → Step (put j k m' n) t' a' u'
    → (r ≡ 12) ⊎ ((r ≡ 13) ⊎ ((r ≡ 70) ⊎ (r ≡ 71))) → reads a ≡ refused r none → reads a' ≡ refused r none
