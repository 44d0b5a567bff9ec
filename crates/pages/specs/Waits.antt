-- How long one record waits (docs/RULES.md, R15.19 to R15.23), of lists with offers of pages; the words are those of rules/specs/Waits.antt. A record that waits
-- keeps the setup in force, so that the bound is by the setup in force where it was put.
--
--   accepts_now         the event of a put that is accepted and reports n ahead
--   InTurnPages        n is how many are queued before it; from there on they are handed out, then the record, then those put later
--   WaitsPages M       while it is not handed out: 1,024 T < c O + 4 slots + M
--   WaitsByPages M     in a lane that is not shared, fewer bytes are sent than the worst wait
--   OutByPages M       once so many are sent it is out
--   WaitsSharedPages M, OutBySharedPages M     the same of any lane, shared ones too
--   lags_now            the event of a lag; WaitsFromPages M, WaitsFromByPages M: the wait where lag was asked right after the put
--   OutByTakesPages    as many takes as the worst wait has bytes are enough
--
-- Assumes nothing.
use Rattle.std.specs.Prelude.{ℕ, ◌+◌, ◌*◌, ◌≤◌, ◌<◌, ◌≡◌, false, List, ◌∷◌, ◌++◌, length}
use Rattle.std.proofs.Math.IntN.{sub_ℕ}
use Rattle.units.specs.Numbers.{line_rate}
use Rattle.waiting.specs.Waiting.{bare}
use Rattle.rules.specs.State.{Rec, Setting, setting_at, charge, rate, slot}
use Rattle.rules.specs.Setup.{Setup, framing_of, margin}
use Rattle.rules.specs.Calls.{put, lag, accepted, lagged}
use Rattle.rules.specs.Runs.{accepted_of, sent_of, of_train}
use Rattle.rules.specs.Fair.{bytes_sent, bytes_sent_of}
use Rattle.rules.specs.Waits.{queued, NotYet, Out, worst_wait, worst_shared, takes_in}
use Rattle.pages.specs.Device.{fresh_device, DeviceCall, ruled, answered}
use Rattle.pages.specs.Offers.{DeviceEvent, device_trace, AllRead, of_rules, in_force}

abbrev pub accepts_now : ℕ → Rec → ℕ → DeviceEvent
accepts_now k r n = record { call = ruled (put k r.train r.mark r.len); reply = answered (accepted n) }

unfoldable pub InTurnPages : Type 0
InTurnPages =
    (gs : List Setting) → Setup gs → (calls : List DeviceCall) → AllRead calls
    → (past since rest : List DeviceEvent) (k : ℕ) (r : Rec) (n : ℕ) → device_trace (fresh_device gs) calls ≡ past ++ accepts_now k r n ∷ since ++ rest
    → (length (queued k r.train (of_rules past)) ≡ n)
    × (of_train r.train (sent_of k (of_rules since)) ++ queued k r.train (of_rules (past ++ accepts_now k r n ∷ since))
    ≡ queued k r.train (of_rules past) ++ bare r ∷ of_train r.train (accepted_of k (of_rules since)))

unfoldable pub WaitsPages : (List Setting → ℕ) → Type 0
WaitsPages M =
    (gs : List Setting) → Setup gs → (calls : List DeviceCall) → AllRead calls
    → (past since rest : List DeviceEvent) (k : ℕ) (r : Rec) (n : ℕ) → device_trace (fresh_device gs) calls ≡ past ++ accepts_now k r n ∷ since ++ rest
    → NotYet k r n (of_rules since)
    → (let g = in_force gs past in
    line_rate * bytes_sent g (of_rules since) < rate (setting_at g k) * bytes_sent_of g k (of_rules since) + 4 * slot (setting_at g k) + M g)

unfoldable pub WaitsByPages : (List Setting → ℕ) → Type 0
WaitsByPages M =
    (gs : List Setting) → Setup gs → (calls : List DeviceCall) → AllRead calls
    → (past since rest : List DeviceEvent) (k : ℕ) (r : Rec) (n : ℕ) → device_trace (fresh_device gs) calls ≡ past ++ accepts_now k r n ∷ since ++ rest
    → (setting_at (in_force gs past) k).shared ≡ false → NotYet k r n (of_rules since)
    → bytes_sent (in_force gs past) (of_rules since) < worst_wait (M (in_force gs past)) (setting_at (in_force gs past) k) n

unfoldable pub OutByPages : (List Setting → ℕ) → Type 0
OutByPages M =
    (gs : List Setting) → Setup gs → (calls : List DeviceCall) → AllRead calls
    → (past since rest : List DeviceEvent) (k : ℕ) (r : Rec) (n : ℕ) → device_trace (fresh_device gs) calls ≡ past ++ accepts_now k r n ∷ since ++ rest
    → (setting_at (in_force gs past) k).shared ≡ false
    → worst_wait (M (in_force gs past)) (setting_at (in_force gs past) k) n ≤ bytes_sent (in_force gs past) (of_rules since)
    → Out k r (of_rules past) (of_rules since)

-- ---- a shared lane

unfoldable pub WaitsSharedPages : (List Setting → ℕ) → Type 0
WaitsSharedPages M =
    (gs : List Setting) → Setup gs → (calls : List DeviceCall) → AllRead calls
    → (past since rest : List DeviceEvent) (k : ℕ) (r : Rec) (n : ℕ) → device_trace (fresh_device gs) calls ≡ past ++ accepts_now k r n ∷ since ++ rest
    → NotYet k r n (of_rules since)
    → bytes_sent (in_force gs past) (of_rules since) < worst_shared (M (in_force gs past)) (setting_at (in_force gs past) k) n

unfoldable pub OutBySharedPages : (List Setting → ℕ) → Type 0
OutBySharedPages M =
    (gs : List Setting) → Setup gs → (calls : List DeviceCall) → AllRead calls
    → (past since rest : List DeviceEvent) (k : ℕ) (r : Rec) (n : ℕ) → device_trace (fresh_device gs) calls ≡ past ++ accepts_now k r n ∷ since ++ rest
    → worst_shared (M (in_force gs past)) (setting_at (in_force gs past) k) n ≤ bytes_sent (in_force gs past) (of_rules since)
    → Out k r (of_rules past) (of_rules since)

-- ---- what lag adds

-- answered by a - b
abbrev pub lags_now : ℕ → ℕ → ℕ → DeviceEvent
lags_now k a b = record { call = ruled (lag k); reply = answered (lagged (sub_ℕ a b)) }

unfoldable pub WaitsFromPages : (List Setting → ℕ) → Type 0
WaitsFromPages M =
    (gs : List Setting) → Setup gs → (calls : List DeviceCall) → AllRead calls
    → (past since rest : List DeviceEvent) (k a b : ℕ) (r : Rec) (n : ℕ) → device_trace (fresh_device gs) calls ≡ past ++ accepts_now k r n ∷ lags_now k a b ∷ since ++ rest
    → NotYet k r n (of_rules since)
    → (let g = in_force gs past in
    line_rate * bytes_sent g (of_rules since) + a < rate (setting_at g k) * bytes_sent_of g k (of_rules since) + 2 * slot (setting_at g k) + M g + b)

unfoldable pub WaitsFromByPages : (List Setting → ℕ) → Type 0
WaitsFromByPages M =
    (gs : List Setting) → Setup gs → (calls : List DeviceCall) → AllRead calls
    → (past since rest : List DeviceEvent) (k a b : ℕ) (r : Rec) (n : ℕ) → device_trace (fresh_device gs) calls ≡ past ++ accepts_now k r n ∷ lags_now k a b ∷ since ++ rest
    → (setting_at (in_force gs past) k).shared ≡ false → NotYet k r n (of_rules since)
    → (let g = in_force gs past in
    line_rate * bytes_sent g (of_rules since) + a < n * (rate (setting_at g k) * charge (setting_at g k) (setting_at g k).longest) + 2 * slot (setting_at g k) + M g + b)

-- ---- counted in takes

unfoldable pub OutByTakesPages : Type 0
OutByTakesPages =
    (gs : List Setting) → Setup gs → (calls : List DeviceCall) → AllRead calls
    → (past since rest : List DeviceEvent) (k : ℕ) (r : Rec) (n : ℕ) → device_trace (fresh_device gs) calls ≡ past ++ accepts_now k r n ∷ since ++ rest
    → (setting_at (in_force gs past) k).shared ≡ false
    → worst_wait (margin (framing_of (in_force gs past))) (setting_at (in_force gs past) k) n ≤ takes_in (of_rules since)
    → Out k r (of_rules past) (of_rules since)
