-- How long one record waits, over lists with offers of pages: the claims. Assumes nothing.
use Prim.Native.Nat.{ℕ}
use mathlib.Core.List.{List}
use Rattle.rules.specs.State.{Setting}
use Rattle.pages.specs.Claims.{FairPages}
use Rattle.pages.specs.Waits.{InTurnPages, WaitsPages, WaitsByPages, OutByPages}
use Rattle.pages.proofs.OneRecord.{waits-of, turn-of, by-of, out_of}

pub in-turn-pages : InTurnPages
unfolding InTurnPages
in-turn-pages = turn-of

pub waits-pages : (M : List Setting → ℕ) → FairPages M → WaitsPages M
unfolding WaitsPages
waits-pages M fair gs s cs a past since rest k r n e few = waits-of gs s cs a past since rest k r n e M fair few

pub waits-by-pages : (M : List Setting → ℕ) → FairPages M → WaitsByPages M
unfolding WaitsByPages
waits-by-pages M fair gs s cs a past since rest k r n e alone few = by-of gs s cs a past since rest k r n e alone M fair few

pub out-by-pages : (M : List Setting → ℕ) → FairPages M → OutByPages M
unfolding OutByPages
out-by-pages M fair gs s cs a past since rest k r n e alone much = out_of gs s cs a past since rest k r n e alone M fair much
