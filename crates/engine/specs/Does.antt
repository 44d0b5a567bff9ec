-- What an inner call promises, on a table known to be good: it does what the rules do with the state that the table means.
--
--   SaysReply   the answer reads as the rules' reply
--   Does        and the bytes after it encode the rules' state; a refusal leaves every byte
--   held_by      how many records of a train a lane's words tell of
--   Finds       what an allowed put finds
--   Serves      a record is handed out
--
-- Assumes nothing.
use Rattle.std.specs.Prelude.{ℕ, ◌≡◌, List, Bool, false, eqb, drop, if◌then◌else◌, Result, Ok, Err}
use Rattle.std.proofs.Math.Option.{Option, none, some}
use Rattle.rounds.specs.Round.{train_count, train_depth}
use Rattle.turns.specs.Turns.{count_of}
use Rattle.rules.specs.State.{State, lane_depth, holds, lane_at}
use Rattle.rules.specs.Calls.{Call, Reply, accepted, taken, seen, words, lagged, restarted, refused, ahead, Pick, picked, serve, step}
use Rattle.rules.specs.Reads.{reads, number, place_of}
use Rattle.rules.specs.declared.Answer.{Answer}
use Rattle.rules.specs.declared.Record.{Record}
use Rattle.rules.specs.declared.Refusal.{Refusal}
use Rattle.table.specs.Layout.{SIZE, train_number}
use Rattle.table.specs.declared.LaneRow.{LaneRow}
use Rattle.table.specs.Means.{meant}
use Rattle.table.specs.Encodes.{Encodes}
use Rattle.engine.specs.Turns.{Turns}

abbrev pub SaysReply : Call → List ℕ → Result Answer Refusal → Type 0
SaysReply c t a = reads a ≡ (step (meant t) c).reply

-- R3.3: a refused call leaves every byte
abbrev pub Unchanged : Reply → List ℕ → List ℕ → Type 0
Unchanged (accepted n) before after = Unit {0}
Unchanged (taken j k m n) before after = Unit {0}
Unchanged (seen j k m n) before after = Unit {0}
Unchanged (words a b c d) before after = Unit {0}
Unchanged (lagged z) before after = Unit {0}
Unchanged restarted before after = Unit {0}
Unchanged (refused n p) before after = after ≡ before

pub record Does (c : Call) (before : List ℕ) (a : Result Answer Refusal) (after : List ℕ) : Type 0 where
  pub says : SaysReply c before a
  pub encodes : Encodes after (step (meant before) c).state
  pub unchanged : Unchanged (reads a) before after
  pub rest : drop SIZE after ≡ drop SIZE before

-- ---- put

-- how many trains a lane knows, by whether it is shared
abbrev pub lane_trains : Bool → ℕ
lane_trains b = if b then train_count else 1

-- and how many records of one train it has room for
abbrev pub queue_depth : Bool → ℕ
queue_depth b = if b then train_depth else lane_depth

-- an idle lane has nothing of any train, whatever its trains' words hold
unfoldable pub held_by : List ℕ → ℕ → LaneRow → ℕ → ℕ
held_by w k l j = if l.shared then (if eqb l.count 0 then 0 else count_of (train_number w k j)) else l.count

-- a put's refusal, by its number
abbrev pub verdict_is : Result ℕ Refusal → Option ℕ
verdict_is (Ok n) = none
verdict_is (Err x) = some (number x)

-- 11 to 13, 70 and 71 have no place
abbrev pub Placeless : Result ℕ Refusal → Type 0
Placeless (Ok n) = Unit {0}
Placeless (Err x) = place_of x ≡ none

-- an allowed one finds so many records of its train before it
abbrev pub Finds : State → ℕ → ℕ → Result ℕ Refusal → Type 0
Finds s j t (Ok n) = n ≡ ahead s j t
Finds s j t (Err x) = Unit {0}

-- ---- take

-- r is the record that the rules pick, and the table turns into the state in which it is served
pub record Serves (before : List ℕ) (r : Record) (after : List ℕ) : Type 0 where
  pub pick : Pick
  pub picks : picked (meant before) ≡ some pick
  pub lane : r.lane ≡ pick.lane
  pub train : r.train ≡ pick.first.train
  pub mark : r.mark ≡ pick.first.mark
  pub size : r.length.0 ≡ pick.first.len
  pub turns : Turns before after (serve (meant before) pick.lane pick.first)

-- lane k holds no record
abbrev pub Idle : State → ℕ → Type 0
Idle s k = holds (lane_at s k) ≡ false
