-- The trains of one lane, of the public calls' own answers. Assumes nothing.
use Prim.Native.Nat.{ℕ}
use native.Mathlib.Omega.{arith}
use mathlib.Core.Path.{ap, ◌∙◌}
use mathlib.Core.List.{List}
use Rattle.units.proofs.Lists.{same_or}
use Rattle.rules.specs.State.{Setting}
use Rattle.rules.specs.Even.{train_bytes}
use Rattle.pages.specs.Offers.{DeviceEvent, of_rules}
use Rattle.pages.specs.Claims.{OthersPages, EvenTrainsPages}
use Rattle.pages.proofs.Fair.{others-pages, even-trains-pages}
use Rattle.scheduler.specs.Chain.{calls_of, Led}
use Rattle.scheduler.specs.Even.{EvenCalls, EvenTightCalls, OthersTightCalls}

module _ (gs : List Setting) (es : List DeviceEvent) (u : List ℕ) (l : Led gs es u) where
  pub even-tight-calls : EvenTightCalls gs es
  unfolding EvenTightCalls EvenTrainsPages
  even-tight-calls past stretch rest e k a b = even-trains-pages gs l.setup (calls_of es) l.read past stretch rest (l.answers ∙ e) k a b

  pub others-tight-calls : OthersTightCalls gs es
  unfolding OthersTightCalls OthersPages
  others-tight-calls past stretch rest e k a b = others-pages gs l.setup (calls_of es) l.read past stretch rest (l.answers ∙ e) k a b

  -- a train is even with itself
  pub even-calls : EvenCalls gs es
  unfolding EvenCalls EvenTightCalls
  even-calls past stretch rest e k a b h h' =
      same_or a b (λ q. omega (arith, ap (λ (x : ℕ). train_bytes k x (of_rules stretch)) q)) (λ n. omega (arith, even-tight-calls past stretch rest e k a b n h h'))
