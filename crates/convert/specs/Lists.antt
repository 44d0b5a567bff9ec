-- R7.7: a list of calls that began before the update goes on after it.
--
--   Early       a put of that time that found the clock below 2^61, and any other call
--   OldList     the unit of that time made a table of the setup gs, and its calls led to these bytes; cs are the calls that it did, without those it refused
--   ListsGoOn   the claim: converted, the bytes are a table that today's rules lead to by the same calls
--
-- A call that the unit refused left every byte; one that it did left bytes that encode what the rules without a taking back of the clock give. `Led` is the
-- premise of every promise about lists (scheduler/specs/Demands.antt), so all of them hold of the old calls and the new ones together: 10 is never given, and
-- R15.8 counts stretches that span the update. A put of that time that found the clock at 2^61 or more is none of the calls that today's rules make: a table
-- that had it is taken over all the same, its next put takes the clock back, and what is promised of it is what is promised of any good table.
-- Assumes nothing.
use Rattle.std.specs.Prelude.{ℕ, ◌<◌, List, [], ◌∷◌, ◌++◌, map}
use Rattle.rules.specs.State.{Setting, State, clock_far}
use Rattle.rules.specs.Setup.{Setup}
use Rattle.rules.specs.Calls.{Call, put, take, look, sets, lag, restart, fresh}
use Rattle.pages.specs.Device.{fresh_device, ruled}
use Rattle.pages.specs.Offers.{device_trace}
use Rattle.rules.specs.Endless.{endless}
use Rattle.scheduler.specs.Chain.{Led}
use Rattle.old_table.specs.Old.{old_meant, OldEncodes}
use Rattle.convert.specs.Converts.{TakenOver}

abbrev pub Early : Call → State → Type 0
Early (put j k m n) s = s.clock < clock_far
Early take s = Unit {0}
Early look s = Unit {0}
Early sets s = Unit {0}
Early (lag j) s = Unit {0}
Early restart s = Unit {0}

pub data OldList (gs : List Setting) : List Call → List ℕ → Type 0 where
  makes : {t : List ℕ} → Setup gs → OldEncodes t (fresh gs) → OldList gs [] t
  does : {cs : List Call} {t u : List ℕ} (c : Call) → OldList gs cs t → Early c (old_meant t) → OldEncodes u (endless (old_meant t) c).state → OldList gs (cs ++ c ∷ []) u

unfoldable pub ListsGoOn : Type 0
ListsGoOn = (gs : List Setting) (cs : List Call) (old before after : List ℕ) → OldList gs cs old → TakenOver old before after → Led gs (device_trace (fresh_device gs) (map ruled cs)) after
