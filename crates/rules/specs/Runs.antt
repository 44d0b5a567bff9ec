-- Lists of calls, each on the state that the last one left, and what can be counted from their arguments and answers alone.
--
--   after, trace         the state after a list of calls; the calls with their answers
--   sent_in, accepted_in   the record that an answer hands out by take; the one that an accepted put brings
--   sent_of, accepted_of   those of one lane, in the order of the list
--   InOrder              each train's records go out once, in order
--   SaysAhead            the number that an accepted put answers
--
-- Assumes nothing.
use Rattle.std.specs.Prelude.{ℕ, ◌+◌, ◌<◌, ◌≡◌, Bool, true, false, List, [], ◌∷◌, ◌++◌, eqb, length, if◌then◌else◌}
use Rattle.std.proofs.Math.Option.{Option, none, some}
use Rattle.waiting.specs.Waiting.{queue_of, bare}
use Rattle.rules.specs.State.{Rec, Setting, setting_at, State, lane_depth, lane_at}
use Rattle.rounds.specs.Round as round
use Rattle.rounds.specs.Round.{train_depth}
use Rattle.rules.specs.Calls.{Call, put, take, look, sets, lag, restart, Reply, accepted, taken, seen, words, lagged, restarted, refused, fresh, step}

unfoldable pub after : State → List Call → State
after s [] = s
after s (c ∷ cs) = after (step s c).state cs

-- R15.5
pub record Event : Type 0 where
  pub call : Call
  pub reply : Reply

unfoldable pub trace : State → List Call → List Event
trace s [] = []
trace s (c ∷ cs) = record { call = c; reply = (step s c).reply } ∷ trace (step s c).state cs

-- a record that a call put or an answer handed out, with its lane
pub record Moving : Type 0 where
  pub lane : ℕ
  pub item : Rec

-- R15.7: sent is what a take hands out; nothing else is.
unfoldable pub sent_in : Reply → Option Moving
sent_in (accepted n) = none
sent_in (taken j k m n) = some (record { lane = j; item = record { train = k; mark = m; len = n } })
sent_in (seen j k m n) = none
sent_in (words a b c d) = none
sent_in (lagged z) = none
sent_in restarted = none
sent_in (refused n p) = none

-- the record that a call offers
unfoldable pub offered_in : Call → Option Moving
offered_in (put j k m n) = some (record { lane = j; item = record { train = k; mark = m; len = n } })
offered_in take = none
offered_in look = none
offered_in sets = none
offered_in (lag j) = none
offered_in restart = none

unfoldable pub is_accepted : Reply → Bool
is_accepted (accepted n) = true
is_accepted (taken j k m n) = false
is_accepted (seen j k m n) = false
is_accepted (words a b c d) = false
is_accepted (lagged z) = false
is_accepted restarted = false
is_accepted (refused n p) = false

-- the record that a call with its answer puts into a queue
abbrev pub accepted_in : Event → Option Moving
accepted_in e = if is_accepted e.reply then offered_in e.call else none

-- lane k's records of it
unfoldable pub of_lane : ℕ → Option Moving → List Rec
of_lane k none = []
of_lane k (some x) = if eqb x.lane k then x.item ∷ [] else []

-- R15.5: the records of lane k that a list of events accepted, and those that it handed out, in order
unfoldable pub accepted_of : ℕ → List Event → List Rec
accepted_of k [] = []
accepted_of k (e ∷ es) = of_lane k (accepted_in e) ++ accepted_of k es

-- R15.5
unfoldable pub sent_of : ℕ → List Event → List Rec
sent_of k [] = []
sent_of k (e ∷ es) = of_lane k (sent_in e.reply) ++ sent_of k es

-- those of one train of lane k, in order
unfoldable pub of_train : ℕ → List Rec → List round.BareRec
of_train t [] = []
of_train t (r ∷ rs) = (if eqb r.train t then bare r ∷ [] else []) ++ of_train t rs

-- R15.12: no accepted record is lost, doubled or overtaken in its train. For any list of calls from a fresh table of the setup gs, any lane k and any train t:
-- the records accepted are those handed out, and then those still queued. A lane that is not shared has the train 0 alone.
unfoldable pub InOrder : List Setting → Type 0
InOrder gs = (calls : List Call) (k t : ℕ)
    → of_train t (accepted_of k (trace (fresh gs) calls)) ≡ of_train t (sent_of k (trace (fresh gs) calls)) ++ queue_of (lane_at (after (fresh gs) calls) k).waiting t

-- R15.13: the number that an accepted put answers, counted from the events alone: of the records of its train that its lane accepted before, those not yet
-- handed out; the room of a lane, or of a train's queue in a shared one, is above it.
unfoldable pub SaysAhead : List Setting → Type 0
SaysAhead gs =
    (calls : List Call) (past rest : List Event) (j t m l n : ℕ) → trace (fresh gs) calls ≡ past ++ record { call = put j t m l; reply = accepted n } ∷ rest
    → (length (of_train t (accepted_of j past)) ≡ length (of_train t (sent_of j past)) + n) × (n < (if (setting_at gs j).shared then train_depth else lane_depth))
