-- What one call does with settings pages, of the call's own answer on any good table.
--
--   OnlyTakes     no call but take and offers changes the last edition or the page that waits: so a restart keeps the edition
--   LastTake      a take after which nothing is held brings the page that waits into force; it has answered by the setup before
--   AsWithout     an accepted page with skipped fields does what the same page does without them
--   OfferKeeps    a refused page changes nothing
--
-- Assumes nothing.
use Rattle.std.specs.Prelude.{ℕ, ◌<◌, ◌≡◌, false, ◌⊎◌, List, [], length}
use Rattle.std.proofs.Math.Option.{Option, some}
use Rattle.rules.specs.State.{Setting, any_holds}
use Rattle.rules.specs.Calls.{Call, take, refused, step}
use Rattle.rules.specs.Reads.{reads}
use Rattle.rules.specs.declared.Answer.{Answer}
use Rattle.std.specs.Prelude.{Result}
use Rattle.rules.specs.declared.Refusal.{Refusal}
use Rattle.pages.specs.Device.{Page, answered, in_force_of}
use Rattle.page.specs.Read.{page_read, read_page}
use Rattle.page.specs.Form.{Extra, AllSkippable, page_bytes}
use Rattle.editions.specs.Part.{last_in, waiting_in}
use Rattle.table.specs.Means.{meant}
use Rattle.paged.specs.Paged.{part_of, EncodesDevice, GoodUnit}
use Rattle.scheduler.specs.Step.{Step, offering, OfferStep}
use Rattle.scheduler.specs.One.{SameTable}
use Rattle.scheduler.specs.declared.Offered.{Offered}
use Rattle.scheduler.specs.declared.NotTaken.{NotTaken}

-- R19.9, R19.10
unfoldable pub OnlyTakes : Type 0
OnlyTakes =
    (t u : List ℕ) (a : Result Answer Refusal) (c : Call) → (c ≡ take → ⊥) → GoodUnit t → Step c t a u
    → (last_in (part_of u) ≡ last_in (part_of t)) × (waiting_in (part_of u) ≡ waiting_in (part_of t))

-- R19.9
unfoldable pub LastTake : Type 0
LastTake =
    (t u : List ℕ) (a : Result Answer Refusal) (p : Page) → GoodUnit t → Step take t a u → waiting_in (part_of t) ≡ some p → any_holds (step (meant t) take).state.lanes ≡ false
    → (reads a ≡ (step (meant t) take).reply) × EncodesDevice u (in_force_of p)

-- R19.2
unfoldable pub AsWithout : Type 0
AsWithout =
    (edition : ℕ) (xs : List Extra) (setup : List ℕ) (ys : List Extra) → edition < 65536 → AllSkippable xs → length setup < 65536 → AllSkippable ys
    → (e format n : ℕ) (gs : List Setting) → read_page (page_bytes edition xs setup ys) ≡ page_read e format gs n
    → (t u u' : List ℕ) (o o' : Result Offered NotTaken) → GoodUnit t ⊎ (GoodUnit t → ⊥)
    → OfferStep (page_bytes edition xs setup ys) t o u → OfferStep (page_bytes edition [] setup []) t o' u'
    → (offering o ≡ offering o') × SameTable u u'

-- R19.7
unfoldable pub OfferKeeps : Type 0
OfferKeeps = (bytes t u : List ℕ) (o : Result Offered NotTaken) (n : ℕ) (p : Option ℕ) → OfferStep bytes t o u → offering o ≡ answered (refused n p) → u ≡ t
