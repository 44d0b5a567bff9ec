-- The endless clock, of the public calls' own answers. Assumes nothing.
use Prim.Native.Nat.{ℕ}
use native.Mathlib.Omega.{arith}
use mathlib.Core.Path.{sym, ap, subst, ◌∙◌}
use mathlib.Core.List.{List}
use Rattle.rules.specs.State.{Setting, State}
use Rattle.rules.specs.Setup.{Setup}
use Rattle.rules.specs.Endless.{ClockStays}
use Rattle.rules.proofs.AlwaysGood.{reached-good, clock-stays}
use Rattle.pages.specs.Device.{fresh_device}
use Rattle.pages.specs.Offers.{DeviceEvent, device_after, of_rules}
use Rattle.pages.specs.Other.{EndlessPages}
use Rattle.pages.proofs.Parts.{part-setup}
use Rattle.pages.proofs.Other.{endless-pages}
use Rattle.scheduler.specs.Chain.{calls_of, Led}
use Rattle.scheduler.specs.Endless.{EndlessCalls, ClockEarly}
use Rattle.scheduler.proofs.Chains.{led-run}

module _ (gs : List Setting) (es : List DeviceEvent) (u : List ℕ) (l : Led gs es u) where
  pub endless-calls : EndlessCalls gs es u
  unfolding EndlessPages
  endless-calls =
      let x = endless-pages gs l.setup (calls_of es) l.read in
      record { answers = sym x.0 ∙ l.answers; device = device_after (fresh_device gs) (calls_of es); table = l.table; beside = x.1 }

  -- what one table encodes has one clock, and the unit's is that of a run from the fresh state of the setup in force
  pub clock_early : ClockEarly u
  unfolding ClockEarly ClockStays
  clock_early d e =
      let s = (device_after (fresh_device gs) (calls_of es)).state in
      let r = led-run gs es u l in
      let p = r.part in
      let setup : Setup p.given = subst Setup (part-setup (of_rules es) s p) (reached-good s r.reached).setup in
      omega (arith, clock-stays p.given setup p.now, ap (λ (x : State). x.clock) p.state, l.table.core.alike.clock, e.core.alike.clock)
