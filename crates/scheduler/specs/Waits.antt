-- How long a record waits (docs/RULES.md, R15.19 to R15.23), of a list from the fresh table of the setup gs: an accepted put in the list that reported n ahead,
-- and any point after it; T is the bytes charged of all lanes since. Counted from the list's own calls and answers, by the setup in force where the record was
-- put; the words are those of rules/specs/Waits.antt.
--
--   InTurnCalls                              n is how many of its train were queued before it; they are handed out, then the record, then those put later
--   NthCalls                                 so its train's (n + 1)th record that is handed out from there on is the record; in a lane that is not shared, the lane's
--   WaitsCalls M                             while it is not out: 1,024 T < c O + 4 slots + M, O being the bytes of its own lane
--   WaitsByCalls M                           .. in a lane that is not shared: 1,024 T < n c (longest + h) + 4 slots + M
--   OutByCalls M                             so once that many bytes are out, rounded up, the record is out, right after those that were ahead of it
--   OutByTakesCalls                          as many takes as that are enough, whatever is called between
--   WaitsSharedCalls M, OutBySharedCalls M   a bound by n in any lane, shared ones too: n is of its own train
--   WaitsFromCalls M, WaitsFromByCalls M     where lag was asked right after the put, two of the four slots give way to its answer
--   WaitingCalls                             all of them: with M as demand 3 has it, 1,024 (1,500 + h), and by the costliest record of the setup in force
--
-- Assumes nothing.
use Rattle.std.specs.Prelude.{ℕ, ◌+◌, ◌*◌, ◌≤◌, ◌<◌, ◌≡◌, false, List, ◌∷◌, ◌++◌, length}
use Rattle.units.specs.Numbers.{line_rate}
use Rattle.waiting.specs.Waiting.{bare}
use Rattle.rules.specs.State.{Rec, Setting, setting_at, charge, rate, slot}
use Rattle.rules.specs.Setup.{framing_of, longest_charge, margin}
use Rattle.rules.specs.Runs.{accepted_of, sent_of, of_train}
use Rattle.rules.specs.Fair.{bytes_sent, bytes_sent_of}
use Rattle.rules.specs.Waits.{queued, NotYet, Out, wait_span, worst_wait, worst_shared, takes_in}
use Rattle.pages.specs.Offers.{DeviceEvent, of_rules, in_force}
use Rattle.pages.specs.Waits.{accepts_now, lags_now}

-- R15.8's figure, and R15.9's
abbrev pub as_asked : List Setting → ℕ
as_asked gs = margin (framing_of gs)

abbrev pub by_costliest : List Setting → ℕ
by_costliest gs = line_rate * longest_charge gs

unfoldable pub InTurnCalls : List DeviceEvent → Type 0
InTurnCalls es =
    (past since rest : List DeviceEvent) (k : ℕ) (r : Rec) (n : ℕ) → es ≡ past ++ accepts_now k r n ∷ since ++ rest
    → (length (queued k r.train (of_rules past)) ≡ n)
    × (of_train r.train (sent_of k (of_rules since)) ++ queued k r.train (of_rules (past ++ accepts_now k r n ∷ since))
    ≡ queued k r.train (of_rules past) ++ bare r ∷ of_train r.train (accepted_of k (of_rules since)))

unfoldable pub NthCalls : List DeviceEvent → Type 0
NthCalls es =
    (past since rest : List DeviceEvent) (k : ℕ) (r : Rec) (n : ℕ) → es ≡ past ++ accepts_now k r n ∷ since ++ rest
    → n < length (of_train r.train (sent_of k (of_rules since))) → Out k r (of_rules past) (of_rules since)

unfoldable pub WaitsCalls : (List Setting → ℕ) → List Setting → List DeviceEvent → Type 0
WaitsCalls M gs es =
    (past since rest : List DeviceEvent) (k : ℕ) (r : Rec) (n : ℕ) → es ≡ past ++ accepts_now k r n ∷ since ++ rest
    → NotYet k r n (of_rules since)
    → (let g = in_force gs past in
    line_rate * bytes_sent g (of_rules since) < rate (setting_at g k) * bytes_sent_of g k (of_rules since) + 4 * slot (setting_at g k) + M g)

-- ---- a lane that is not shared

unfoldable pub WaitsByCalls : (List Setting → ℕ) → List Setting → List DeviceEvent → Type 0
WaitsByCalls M gs es =
    (past since rest : List DeviceEvent) (k : ℕ) (r : Rec) (n : ℕ) → es ≡ past ++ accepts_now k r n ∷ since ++ rest
    → (setting_at (in_force gs past) k).shared ≡ false → NotYet k r n (of_rules since)
    → line_rate * bytes_sent (in_force gs past) (of_rules since) < wait_span (M (in_force gs past)) (setting_at (in_force gs past) k) n

unfoldable pub OutByCalls : (List Setting → ℕ) → List Setting → List DeviceEvent → Type 0
OutByCalls M gs es =
    (past since rest : List DeviceEvent) (k : ℕ) (r : Rec) (n : ℕ) → es ≡ past ++ accepts_now k r n ∷ since ++ rest
    → (setting_at (in_force gs past) k).shared ≡ false
    → worst_wait (M (in_force gs past)) (setting_at (in_force gs past) k) n ≤ bytes_sent (in_force gs past) (of_rules since)
    → Out k r (of_rules past) (of_rules since)

unfoldable pub OutByTakesCalls : List Setting → List DeviceEvent → Type 0
OutByTakesCalls gs es =
    (past since rest : List DeviceEvent) (k : ℕ) (r : Rec) (n : ℕ) → es ≡ past ++ accepts_now k r n ∷ since ++ rest
    → (setting_at (in_force gs past) k).shared ≡ false
    → worst_wait (as_asked (in_force gs past)) (setting_at (in_force gs past) k) n ≤ takes_in (of_rules since)
    → Out k r (of_rules past) (of_rules since)

-- ---- any lane

unfoldable pub WaitsSharedCalls : (List Setting → ℕ) → List Setting → List DeviceEvent → Type 0
WaitsSharedCalls M gs es =
    (past since rest : List DeviceEvent) (k : ℕ) (r : Rec) (n : ℕ) → es ≡ past ++ accepts_now k r n ∷ since ++ rest
    → NotYet k r n (of_rules since)
    → bytes_sent (in_force gs past) (of_rules since) < worst_shared (M (in_force gs past)) (setting_at (in_force gs past) k) n

unfoldable pub OutBySharedCalls : (List Setting → ℕ) → List Setting → List DeviceEvent → Type 0
OutBySharedCalls M gs es =
    (past since rest : List DeviceEvent) (k : ℕ) (r : Rec) (n : ℕ) → es ≡ past ++ accepts_now k r n ∷ since ++ rest
    → worst_shared (M (in_force gs past)) (setting_at (in_force gs past) k) n ≤ bytes_sent (in_force gs past) (of_rules since)
    → Out k r (of_rules past) (of_rules since)

-- ---- lag was asked right after the put, and answered a - b

unfoldable pub WaitsFromCalls : (List Setting → ℕ) → List Setting → List DeviceEvent → Type 0
WaitsFromCalls M gs es =
    (past since rest : List DeviceEvent) (k a b : ℕ) (r : Rec) (n : ℕ) → es ≡ past ++ accepts_now k r n ∷ lags_now k a b ∷ since ++ rest
    → NotYet k r n (of_rules since)
    → (let g = in_force gs past in
    line_rate * bytes_sent g (of_rules since) + a < rate (setting_at g k) * bytes_sent_of g k (of_rules since) + 2 * slot (setting_at g k) + M g + b)

unfoldable pub WaitsFromByCalls : (List Setting → ℕ) → List Setting → List DeviceEvent → Type 0
WaitsFromByCalls M gs es =
    (past since rest : List DeviceEvent) (k a b : ℕ) (r : Rec) (n : ℕ) → es ≡ past ++ accepts_now k r n ∷ lags_now k a b ∷ since ++ rest
    → (setting_at (in_force gs past) k).shared ≡ false → NotYet k r n (of_rules since)
    → (let g = in_force gs past in
    line_rate * bytes_sent g (of_rules since) + a < n * (rate (setting_at g k) * charge (setting_at g k) (setting_at g k).longest) + 2 * slot (setting_at g k) + M g + b)

pub record Bounded (M : List Setting → ℕ) (gs : List Setting) (es : List DeviceEvent) : Type 0 where
  pub waits : WaitsCalls M gs es
  pub waits_by : WaitsByCalls M gs es
  pub out_by : OutByCalls M gs es
  pub waits_shared : WaitsSharedCalls M gs es
  pub out_by_shared : OutBySharedCalls M gs es
  pub waits_from : WaitsFromCalls M gs es
  pub waits_from_by : WaitsFromByCalls M gs es

pub record WaitingCalls (gs : List Setting) (es : List DeviceEvent) : Type 0 where
  pub in_turn : InTurnCalls es
  pub nth : NthCalls es
  pub asked : Bounded as_asked gs es
  pub tight : Bounded by_costliest gs es
  pub by_takes : OutByTakesCalls gs es
