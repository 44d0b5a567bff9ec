-- How long a record waits, of the public calls' own answers. Assumes nothing.
use Prim.Native.Nat.{ℕ}
use mathlib.Core.Path.{◌∙◌}
use mathlib.Core.List.{List}
use Rattle.rules.specs.State.{Setting, setting_at}
use Rattle.rules.specs.Setup.{Setup}
use Rattle.rules.specs.Fair.{bytes_sent}
use Rattle.rules.proofs.Bounds.{SetupOk}
use Rattle.rules.proofs.Fair.{tight-ok, setup-ok}
use Rattle.rules.proofs.Waits.{worst-is}
use Rattle.pages.specs.Offers.{DeviceEvent, of_rules, in_force}
use Rattle.pages.specs.Claims.{FairPages, Demand3Pages, FairTightPages}
use Rattle.pages.specs.Waits.{InTurnPages, WaitsPages, WaitsByPages, OutByPages, WaitsSharedPages, OutBySharedPages, WaitsFromPages, WaitsFromByPages, OutByTakesPages}
use Rattle.pages.proofs.Fair.{demand3-pages, tight-pages}
use Rattle.pages.proofs.OneRecord.{out-more-of}
use Rattle.pages.proofs.Waits.{in-turn-pages, waits-pages, waits-by-pages, out-by-pages}
use Rattle.pages.proofs.MoreWaits.{waits-shared-pages, out-by-shared-pages, waits-from-pages, waits-from-by-pages, out-by-takes-pages}
use Rattle.scheduler.specs.Chain.{calls_of, Led}
use Rattle.scheduler.specs.Waits.{as_asked, by_costliest, InTurnCalls, NthCalls, WaitsCalls, WaitsByCalls, OutByCalls, OutByTakesCalls, WaitsSharedCalls, OutBySharedCalls, WaitsFromCalls, WaitsFromByCalls, Bounded, WaitingCalls}

module _ (gs : List Setting) (es : List DeviceEvent) (u : List ℕ) (l : Led gs es u) where
  in_turn : InTurnCalls es
  unfolding InTurnCalls InTurnPages
  in_turn past since rest k r n e = in-turn-pages gs l.setup (calls_of es) l.read past since rest k r n (l.answers ∙ e)

  nth : NthCalls es
  unfolding NthCalls
  nth past since rest k r n e many = out-more-of gs l.setup (calls_of es) l.read past since rest k r n (l.answers ∙ e) many

  -- with any figure of demand 3 that no record's charge of the line exceeds
  module _ (M : List Setting → ℕ) (fair : FairPages M) (ok : (g : List Setting) → Setup g → SetupOk (M g) g) where
    waits : WaitsCalls M gs es
    unfolding WaitsCalls WaitsPages
    waits past since rest k r n e few = waits-pages M fair gs l.setup (calls_of es) l.read past since rest k r n (l.answers ∙ e) few

    waits_by : WaitsByCalls M gs es
    unfolding WaitsByCalls WaitsByPages
    waits_by past since rest k r n e alone few =
        let g = in_force gs past in
        (worst-is (M g) (setting_at g k) n (bytes_sent g (of_rules since))).1
        (waits-by-pages M fair gs l.setup (calls_of es) l.read past since rest k r n (l.answers ∙ e) alone few)

    out_by : OutByCalls M gs es
    unfolding OutByCalls OutByPages
    out_by past since rest k r n e alone much = out-by-pages M fair gs l.setup (calls_of es) l.read past since rest k r n (l.answers ∙ e) alone much

    waits_shared : WaitsSharedCalls M gs es
    unfolding WaitsSharedCalls WaitsSharedPages
    waits_shared past since rest k r n e few = waits-shared-pages M fair gs l.setup (calls_of es) l.read past since rest k r n (l.answers ∙ e) few

    out_by_shared : OutBySharedCalls M gs es
    unfolding OutBySharedCalls OutBySharedPages
    out_by_shared past since rest k r n e much = out-by-shared-pages M fair gs l.setup (calls_of es) l.read past since rest k r n (l.answers ∙ e) much

    waits_from : WaitsFromCalls M gs es
    unfolding WaitsFromCalls WaitsFromPages
    waits_from past since rest k a b r n e few = waits-from-pages M ok gs l.setup (calls_of es) l.read past since rest k a b r n (l.answers ∙ e) few

    waits_from_by : WaitsFromByCalls M gs es
    unfolding WaitsFromByCalls WaitsFromByPages
    waits_from_by past since rest k a b r n e alone few = waits-from-by-pages M ok gs l.setup (calls_of es) l.read past since rest k a b r n (l.answers ∙ e) alone few

    bounded : Bounded M gs es
    bounded = record {
      waits = waits;
      waits_by = waits_by;
      out_by = out_by;
      waits_shared = waits_shared;
      out_by_shared = out_by_shared;
      waits_from = waits_from;
      waits_from_by = waits_from_by;
    }

  by_takes : OutByTakesCalls gs es
  unfolding OutByTakesCalls OutByTakesPages
  by_takes past since rest k r n e alone much = out-by-takes-pages gs l.setup (calls_of es) l.read past since rest k r n (l.answers ∙ e) alone much

  pub waiting-calls : WaitingCalls gs es
  unfolding Demand3Pages FairTightPages
  waiting-calls = record {
    in_turn = in_turn;
    nth = nth;
    asked = bounded as_asked demand3-pages setup-ok;
    tight = bounded by_costliest tight-pages tight-ok;
    by_takes = by_takes;
  }
