-- How long one record waits (docs/RULES.md, R15.19 to R15.23): the fair share and the order of a train, read for one record that was put and reported n ahead.
--
--   accepts            the event of that put
--   queued             the records of a train that were accepted and not yet handed out, first one first
--   InTurn             n is how many are queued before it; from there on they are handed out, then the record, then those put later
--   NotYet, Out        it is not handed out yet; it was, right after those queued before it
--   Waits M            while it is not: 1,024 T < c O + 4 slots + M, T being the bytes sent since by all lanes and O those of its own lane
--   wait_span M g n     n records of the lane's longest in place of O; worst_wait: the same in bytes of the line, rounded up
--   WaitsBy M          in a lane that is not shared, while it is not out, fewer bytes than that are sent
--   OutBy M            once so many bytes are sent it is out; RecordsOut: from any setup, as asked and tight
--   worst_shared, WaitsShared, OutByShared   the same of any lane, shared ones too
--   worst_of            the one figure or the other, by the lane's kind
--   FairFrom, WaitsFrom, WaitsFromBy   demand 3 and the wait from a point at which lag was asked
--   OutByTakes         as many takes as the worst wait has bytes are enough: no record waits for ever
--
-- All of it is counted from the list's arguments and answers alone; c, the slot and the longest come from the setup. Assumes nothing.
use Rattle.std.specs.Prelude.{ℕ, ◌+◌, ◌*◌, ◌/◌, ◌≤◌, ◌<◌, ◌≡◌, false, List, ◌∷◌, ◌++◌, length, drop, if◌then◌else◌}
use Rattle.std.proofs.Math.IntN.{sub_ℕ}
use Rattle.units.specs.Numbers.{line_rate}
use Rattle.units.specs.Plain.{sum}
use Rattle.rounds.specs.Round as round
use Rattle.waiting.specs.Waiting.{bare}
use Rattle.rules.specs.State.{Rec, Setting, setting_at, charge, rate, slot}
use Rattle.rules.specs.Setup.{Setup, longest_charge, framing_of, margin}
use Rattle.rules.specs.Calls.{Call, put, take, look, sets, lag, restart, accepted, lagged, fresh}
use Rattle.rules.specs.Runs.{Event, trace, accepted_of, sent_of, of_train}
use Rattle.rules.specs.Fair.{bytes_sent, bytes_sent_of, Holding}

-- a put of the record r to lane k that is accepted, and reports n ahead
abbrev pub accepts : ℕ → Rec → ℕ → Event
accepts k r n = record { call = put k r.train r.mark r.len; reply = accepted n }

abbrev pub queued : ℕ → ℕ → List Event → List round.BareRec
queued k t es = drop (length (of_train t (sent_of k es))) (of_train t (accepted_of k es))

-- Any list of calls from a fresh table of the setup gs, any put in it that is accepted, and any point after it.
unfoldable pub InTurn : List Setting → Type 0
InTurn gs =
    (calls : List Call) (past since rest : List Event) (k : ℕ) (r : Rec) (n : ℕ) → trace (fresh gs) calls ≡ past ++ accepts k r n ∷ since ++ rest
    → (length (queued k r.train past) ≡ n)
    × (of_train r.train (sent_of k since) ++ queued k r.train (past ++ accepts k r n ∷ since) ≡ queued k r.train past ++ bare r ∷ of_train r.train (accepted_of k since))

-- since the put no more records of its train were handed out than were before it
abbrev pub NotYet : ℕ → Rec → ℕ → List Event → Type 0
NotYet k r n since = length (of_train r.train (sent_of k since)) ≤ n

-- they were, then the record, then perhaps others
abbrev pub Out : ℕ → Rec → List Event → List Event → Type 0
Out k r past since = (later : List round.BareRec) × (of_train r.train (sent_of k since) ≡ queued k r.train past ++ bare r ∷ later)

-- any lane, shared or not
unfoldable pub Waits : ℕ → List Setting → Type 0
Waits M gs =
    (calls : List Call) (past since rest : List Event) (k : ℕ) (r : Rec) (n : ℕ) → trace (fresh gs) calls ≡ past ++ accepts k r n ∷ since ++ rest
    → NotYet k r n since
    → line_rate * bytes_sent gs since < rate (setting_at gs k) * bytes_sent_of gs k since + 4 * slot (setting_at gs k) + M

-- ---- a lane that is not shared: the setup and n alone give the bound

abbrev pub wait_span : ℕ → Setting → ℕ → ℕ
wait_span M g n = n * (rate g * charge g g.longest) + 4 * slot g + M

-- 1,024 T is below the one exactly if T is below the other
unfoldable pub worst_wait : ℕ → Setting → ℕ → ℕ
worst_wait M g n = (wait_span M g n + 1023) / line_rate

unfoldable pub WaitsBy : ℕ → List Setting → Type 0
WaitsBy M gs =
    (calls : List Call) (past since rest : List Event) (k : ℕ) (r : Rec) (n : ℕ) → trace (fresh gs) calls ≡ past ++ accepts k r n ∷ since ++ rest
    → (setting_at gs k).shared ≡ false → NotYet k r n since → bytes_sent gs since < worst_wait M (setting_at gs k) n

unfoldable pub OutBy : ℕ → List Setting → Type 0
OutBy M gs =
    (calls : List Call) (past since rest : List Event) (k : ℕ) (r : Rec) (n : ℕ) → trace (fresh gs) calls ≡ past ++ accepts k r n ∷ since ++ rest
    → (setting_at gs k).shared ≡ false → worst_wait M (setting_at gs k) n ≤ bytes_sent gs since → Out k r past since

-- M as demand 3 has it, and by the setup's own costliest record
unfoldable pub RecordsOut : Type 0
RecordsOut = (gs : List Setting) → Setup gs → OutBy (margin (framing_of gs)) gs × OutBy (line_rate * longest_charge gs) gs

-- ---- a shared lane: the setup and n, of its own train, give a bound too

-- Each other train of the lane is sent at most what the record's own train is, and three times the longest (specs/Even.antt): 7 of them, and n records of its
-- own, make less than 8 n + 21 times the longest in bare bytes. A record of one byte is charged 1 + h times its length.
abbrev pub shared_span : ℕ → Setting → ℕ → ℕ
shared_span M g n = rate g * ((1 + g.framing) * ((8 * n + 21) * g.longest)) + 4 * slot g + M

unfoldable pub worst_shared : ℕ → Setting → ℕ → ℕ
worst_shared M g n = (shared_span M g n + 1023) / line_rate

abbrev pub worst_of : ℕ → Setting → ℕ → ℕ
worst_of M g n = if g.shared then worst_shared M g n else worst_wait M g n

unfoldable pub WaitsShared : ℕ → List Setting → Type 0
WaitsShared M gs =
    (calls : List Call) (past since rest : List Event) (k : ℕ) (r : Rec) (n : ℕ) → trace (fresh gs) calls ≡ past ++ accepts k r n ∷ since ++ rest
    → NotYet k r n since → bytes_sent gs since < worst_shared M (setting_at gs k) n

unfoldable pub OutByShared : ℕ → List Setting → Type 0
OutByShared M gs =
    (calls : List Call) (past since rest : List Event) (k : ℕ) (r : Rec) (n : ℕ) → trace (fresh gs) calls ≡ past ++ accepts k r n ∷ since ++ rest
    → worst_shared M (setting_at gs k) n ≤ bytes_sent gs since → Out k r past since

-- ---- what lag adds

-- lag of lane k, answered by a - b
abbrev pub lags : ℕ → ℕ → ℕ → Event
lags k a b = record { call = lag k; reply = lagged (sub_ℕ a b) }

-- Demand 3 from a point at which lag was asked, and answered a - b: 1,024 T + a - b < c O + 2 slots + M. So the other two slots of demand 3 are those by which
-- a lane may have been served ahead of the clock, and lag tells by how much it was.
unfoldable pub FairFrom : ℕ → List Setting → Type 0
FairFrom M gs =
    (calls : List Call) (past stretch rest : List Event) (k a b : ℕ) → trace (fresh gs) calls ≡ past ++ lags k a b ∷ stretch ++ rest
    → ((p q : List Event) → p ++ q ≡ stretch → Holding k (past ++ lags k a b ∷ p))
    → line_rate * bytes_sent gs stretch + a < rate (setting_at gs k) * bytes_sent_of gs k stretch + 2 * slot (setting_at gs k) + M + b

-- The wait of a record where lag was asked right after its put: in any lane; and by n in a lane that is not shared.
unfoldable pub WaitsFrom : ℕ → List Setting → Type 0
WaitsFrom M gs =
    (calls : List Call) (past since rest : List Event) (k a b : ℕ) (r : Rec) (n : ℕ) → trace (fresh gs) calls ≡ past ++ accepts k r n ∷ lags k a b ∷ since ++ rest
    → NotYet k r n since
    → line_rate * bytes_sent gs since + a < rate (setting_at gs k) * bytes_sent_of gs k since + 2 * slot (setting_at gs k) + M + b

unfoldable pub WaitsFromBy : ℕ → List Setting → Type 0
WaitsFromBy M gs =
    (calls : List Call) (past since rest : List Event) (k a b : ℕ) (r : Rec) (n : ℕ) → trace (fresh gs) calls ≡ past ++ accepts k r n ∷ lags k a b ∷ since ++ rest
    → (setting_at gs k).shared ≡ false → NotYet k r n since
    → line_rate * bytes_sent gs since + a < n * (rate (setting_at gs k) * charge (setting_at gs k) (setting_at gs k).longest) + 2 * slot (setting_at gs k) + M + b

-- ---- counted in takes

unfoldable pub is_take : Call → ℕ
is_take (put j t m n) = 0
is_take take = 1
is_take look = 0
is_take sets = 0
is_take (lag j) = 0
is_take restart = 0

abbrev pub takes_in : List Event → ℕ
takes_in es = sum (λ (e : Event). is_take e.call) es

unfoldable pub OutByTakes : Type 0
OutByTakes =
    (gs : List Setting) → Setup gs
    → (calls : List Call) (past since rest : List Event) (k : ℕ) (r : Rec) (n : ℕ) → trace (fresh gs) calls ≡ past ++ accepts k r n ∷ since ++ rest
    → (setting_at gs k).shared ≡ false → worst_wait (margin (framing_of gs)) (setting_at gs k) n ≤ takes_in since → Out k r past since
