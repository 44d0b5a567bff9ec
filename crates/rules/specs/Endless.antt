-- The rules with an endless clock (R5.4): V has no upper edge, and no put takes it back.
--
--   Rules, after_by, trace_by      rules for the six calls; the state after a list of calls by them, and the calls with their answers
--   endless                      the endless rules: put is accept on the state as it stands; every other call is the same
--   endless_after, endless_trace   lists of calls by these
--   LaneBeside, Beside           a state by the rules beside one by the endless rules
--   EndlessClock                 every answer is the endless clock's, and the states stand beside each other
--   ClockStays                   while the clock of the rules stays below 2^61 + 2^44
--
-- Assumes nothing.
use Rattle.std.specs.Prelude.{ℕ, ◌+◌, ◌*◌, ◌^◌, ◌<◌, max, ◌≡◌, true, false, List, [], ◌∷◌, length}
use Rattle.std.proofs.Math.Option.{Option, none, some}
use Rattle.rules.specs.State.{Rec, Setting, Lane, State, clock_far, clock_step, holds, lane_at}
use Rattle.rules.specs.Setup.{Setup}
use Rattle.rules.specs.Calls.{Call, put, take, look, sets, lag, restart, Outcome, accepted, no, put_refusal, ahead, accept, do_take, do_look, do_sets, do_lag, do_restart, fresh}
use Rattle.rules.specs.Runs.{Event, after, trace}

abbrev pub Rules : Type 0
Rules = State → Call → Outcome

unfoldable pub after_by : Rules → State → List Call → State
after_by go s [] = s
after_by go s (c ∷ cs) = after_by go (go s c).state cs

unfoldable pub trace_by : Rules → State → List Call → List Event
trace_by go s [] = []
trace_by go s (c ∷ cs) = record { call = c; reply = (go s c).reply } ∷ trace_by go (go s c).state cs

-- ---- the endless rules

unfoldable pub endless_put_of : State → ℕ → Rec → Option ℕ → Outcome
endless_put_of s j r (some n) = no n s
endless_put_of s j r none = record { reply = accepted (ahead s j r.train); state = accept s j r }

unfoldable pub endless_put : State → ℕ → Rec → Outcome
endless_put s j r = endless_put_of s j r (put_refusal s j r)

unfoldable pub endless : State → Call → Outcome
endless s (put j k m n) = endless_put s j (record { train = k; mark = m; len = n })
endless s take = do_take s
endless s look = do_look s
endless s sets = do_sets s
endless s (lag j) = do_lag s j
endless s restart = do_restart s

abbrev pub endless_after : State → List Call → State
endless_after = after_by endless

abbrev pub endless_trace : State → List Call → List Event
endless_trace = trace_by endless

-- ---- the two clocks side by side

-- Lane l of a state with the clock v, and lane m of one whose clock is d further on. An idle lane is compared by the greater of F and V, which is all that its
-- F is ever asked for.
pub record LaneBeside (d v : ℕ) (l m : Lane) : Type 0 where
  pub given : m.given ≡ l.given
  pub waiting : m.waiting ≡ l.waiting
  pub start : holds l ≡ true → m.start ≡ l.start + d
  pub finish : holds l ≡ true → m.finish ≡ l.finish + d
  pub idle : holds l ≡ false → max m.finish (v + d) ≡ max l.finish v + d

-- t is s with n times 2^31 added to V, to S and F of each holding lane, and to the greater of F and V of each idle one
pub record Beside (n : ℕ) (s t : State) : Type 0 where
  pub clock : t.clock ≡ s.clock + n * clock_step
  pub order : t.order ≡ s.order
  pub size : length t.lanes ≡ length s.lanes
  pub lane : (k : ℕ) → LaneBeside (n * clock_step) s.clock (lane_at s k) (lane_at t k)

-- For any list of calls from a fresh table of any setup: every answer, those of sets and lag too, is the one that the endless clock gives, and the states after
-- the list stand beside each other. Rules that never take the clock back would meet this alone; so it is claimed together with `ClockStays`.
unfoldable pub EndlessClock : Type 0
EndlessClock =
    (gs : List Setting) → Setup gs → (calls : List Call)
    → (trace (fresh gs) calls ≡ endless_trace (fresh gs) calls)
    × ((n : ℕ) × Beside n (after (fresh gs) calls) (endless_after (fresh gs) calls))

-- R5.5: 2^44 is what the records held may still move the clock by: 2^32 for each of 64 lanes of 64.
unfoldable pub ClockStays : Type 0
ClockStays = (gs : List Setting) → Setup gs → (calls : List Call) → (after (fresh gs) calls).clock < clock_far + 2 ^ 44
