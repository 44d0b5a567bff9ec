-- The fair share (R15.8) and two busy lanes compared (R15.10).
--
--   bytes_sent, bytes_sent_of   T and O of a stretch
--   Holding                  a lane holds a record after these events
--   Fair M gs                the claim for every list of calls from a fresh table of the setup gs, with M for what a record may cost the line
--   Demand3                  the claim as asked
--   Compared M gs            two busy lanes compared, with M for what a record may cost the line
--   TwoLanes, ComparedTight  the claim as asked; with the setup's own greatest charge
--
-- Assumes nothing.
use Rattle.std.specs.Prelude.{ℕ, ◌+◌, ◌*◌, ◌<◌, ◌≡◌, List, ◌++◌, length, eqb, if◌then◌else◌}
use Rattle.std.proofs.Math.Option.{Option, none, some}
use Rattle.units.specs.Numbers.{line_rate}
use Rattle.units.specs.Plain.{sum}
use Rattle.rules.specs.State.{Setting, setting_at, charge, rate, slot}
use Rattle.rules.specs.Setup.{Setup, framing_of, longest_charge, margin}
use Rattle.rules.specs.Calls.{Call, fresh}
use Rattle.rules.specs.Runs.{Event, trace, Moving, sent_in, accepted_of, sent_of}

-- what a record that was sent is charged for, by the setting of its lane
unfoldable pub charged : List Setting → Option Moving → ℕ
charged gs none = 0
charged gs (some x) = charge (setting_at gs x.lane) x.item.len

unfoldable pub charged_to : List Setting → ℕ → Option Moving → ℕ
charged_to gs k none = 0
charged_to gs k (some x) = if eqb x.lane k then charge (setting_at gs k) x.item.len else 0

-- R15.7: T adds up what all that a stretch handed out is charged for, O what came from lane k alone.
abbrev pub bytes_sent : List Setting → List Event → ℕ
bytes_sent gs es = sum (λ (e : Event). charged gs (sent_in e.reply)) es

-- R15.7
abbrev pub bytes_sent_of : List Setting → ℕ → List Event → ℕ
bytes_sent_of gs k es = sum (λ (e : Event). charged_to gs k (sent_in e.reply)) es

-- R15.6: told from the answers alone, the lane took in more records than it gave out.
abbrev pub Holding : ℕ → List Event → Type 0
Holding k es = length (sent_of k es) < length (accepted_of k es)

-- R15.6, R15.8: any list of calls from a fresh table of the setup gs, any stretch of it (what comes before, the stretch, what follows) and any lane k that
-- holds a record before the stretch and after each call in it: 1,024 T < c O + 4 slots + M.
unfoldable pub Fair : ℕ → List Setting → Type 0
Fair M gs =
    (calls : List Call) (past stretch rest : List Event) → trace (fresh gs) calls ≡ past ++ stretch ++ rest
    → (k : ℕ) → ((p q : List Event) → p ++ q ≡ stretch → Holding k (past ++ p))
    → line_rate * bytes_sent gs stretch < rate (setting_at gs k) * bytes_sent_of gs k stretch + 4 * slot (setting_at gs k) + M

-- R15.8: 1,024 T < c O + 4 slots + 1,024 (1,500 + h), from a fresh table of any setup
unfoldable pub Demand3 : Type 0
Demand3 = (gs : List Setting) → Setup gs → Fair (margin (framing_of gs)) gs

-- ---- two busy lanes compared

-- R15.10: the same lists and stretches, and lanes a and b that are both busy in the stretch: c(a) A < c(b) B + 4 s(a) + 4 s(b) + 2 M. Bytes are those charged,
-- as in `Fair`.
unfoldable pub Compared : ℕ → List Setting → Type 0
Compared M gs =
    (calls : List Call) (past stretch rest : List Event) → trace (fresh gs) calls ≡ past ++ stretch ++ rest
    → (a b : ℕ) → ((p q : List Event) → p ++ q ≡ stretch → Holding a (past ++ p)) → ((p q : List Event) → p ++ q ≡ stretch → Holding b (past ++ p))
    → rate (setting_at gs a) * bytes_sent_of gs a stretch
    < rate (setting_at gs b) * bytes_sent_of gs b stretch + 4 * slot (setting_at gs a) + 4 * slot (setting_at gs b) + 2 * M

-- R15.10: from a fresh table of any setup, M being what a record of 1,500 bytes costs the line
unfoldable pub TwoLanes : Type 0
TwoLanes = (gs : List Setting) → Setup gs → Compared (margin (framing_of gs)) gs

-- R15.10, R15.9: and with the setup's own greatest charge
unfoldable pub ComparedTight : Type 0
ComparedTight = (gs : List Setting) → Setup gs → Compared (line_rate * longest_charge gs) gs
