-- States that no call tells apart (R2.8). Only ties within a group and a rounded start are ever looked at, so two tie orders count as one when they name the
-- same lanes and agree there. A table encodes a state up to this.
--
--   Ties          two lanes that tie
--   Alike         two such states
--   Respects      two outcomes with the same reply that leave such states
--   NoCallTells   what `Alike` means: every call respects it
--   NoListTells   so every list of calls gets the same replies from both
--
-- The theorems are `step-alike` and `lists-alike` in proofs/Alike.antt. Assumes nothing.
use Rattle.std.specs.Prelude.{ℕ, ◌≡◌, true, List, ltb}
use Rattle.units.specs.Plain.{place, times}
use Rattle.rules.specs.State.{State, Setting, Lane, group, start_r, holds, lane_at}
use Rattle.rules.specs.Setup.{Setup}
use Rattle.rules.specs.Calls.{Call, Outcome, fresh, step}
use Rattle.rules.specs.Runs.{after, trace}
use Rattle.rules.specs.Good.{Good}

-- two lanes that hold records and have the same group and the same R
pub record Ties (a b : Lane) : Type 0 where
  pub first : holds a ≡ true
  pub second : holds b ≡ true
  pub group : group a.given ≡ group b.given
  pub start : start_r a ≡ start_r b

pub record Alike (s t : State) : Type 0 where
  pub clock : s.clock ≡ t.clock
  pub lanes : s.lanes ≡ t.lanes
  -- the tie orders name the same lanes
  pub names : (k : ℕ) → times k s.order ≡ times k t.order
  -- and of two lanes that tie, both have the same one first
  pub turns : (j k : ℕ) → Ties (lane_at s j) (lane_at s k) → ltb (place j s.order) (place k s.order) ≡ ltb (place j t.order) (place k t.order)

-- ---- what it means

pub record Respects (x y : Outcome) : Type 0 where
  pub reply : x.reply ≡ y.reply
  pub state : Alike x.state y.state

-- R2.8: it is enough that one of the two states is good: the other one is good then, too
abbrev pub NoCallTells : Type 0
NoCallTells = (s t : State) → Good s → Alike s t → (c : Call) → Respects (step s c) (step t c)

-- R2.8: from a state that calls made, so that all states on the way are good
abbrev pub NoListTells : Type 0
NoListTells =
    (gs : List Setting) → Setup gs → (before calls : List Call) (t : State) → Alike (after (fresh gs) before) t
    → trace (after (fresh gs) before) calls ≡ trace t calls
