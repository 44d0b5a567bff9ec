-- Two busy lanes compared, and demand 3 by the setup's own greatest charge, of the public calls' own answers. Assumes nothing.
use Prim.Native.Nat.{ℕ}
use mathlib.Core.Path.{◌∙◌}
use mathlib.Core.List.{List}
use Rattle.rules.specs.State.{Setting}
use Rattle.pages.specs.Offers.{DeviceEvent}
use Rattle.pages.specs.Claims.{FairPages, FairTightPages, ComparedPages, TwoLanesPages, ComparedTightPages}
use Rattle.pages.proofs.Fair.{tight-pages, two-lanes-pages, compared-tight-pages}
use Rattle.scheduler.specs.Chain.{calls_of, Led}
use Rattle.scheduler.specs.Compared.{ComparedBy, ComparedCalls, ComparedTightCalls, FairTightCalls}

module _ (gs : List Setting) (es : List DeviceEvent) (u : List ℕ) (l : Led gs es u) where
  pub compared-calls : ComparedCalls gs es
  unfolding ComparedBy TwoLanesPages ComparedPages
  compared-calls past stretch rest e a b = two-lanes-pages gs l.setup (calls_of es) l.read past stretch rest (l.answers ∙ e) a b

  pub compared-tight-calls : ComparedTightCalls gs es
  unfolding ComparedBy ComparedTightPages ComparedPages
  compared-tight-calls past stretch rest e a b = compared-tight-pages gs l.setup (calls_of es) l.read past stretch rest (l.answers ∙ e) a b

  pub fair-tight-calls : FairTightCalls gs es
  unfolding FairTightCalls FairTightPages FairPages
  fair-tight-calls past stretch rest e k = tight-pages gs l.setup (calls_of es) l.read past stretch rest (l.answers ∙ e) k
