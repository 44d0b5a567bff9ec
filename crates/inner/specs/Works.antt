-- The calls of a list of bytes, and what they leave.
--
--   CALL         the bytes of a call
--   put_by        the put of a lane and a number
--   call_at       the call of the bytes from a place on
--   calls_in      how many calls the bytes are
--   worked       the state after the first calls
--   LeadsTable   a table after them
--   Works        the promise of the exported call
--
-- Assumes nothing.
use Rattle.std.specs.Prelude.{ℕ, zero, suc, ◌+◌, ◌*◌, ◌/◌, ◌%◌, ◌≡◌, true, false, List, ltb, length, drop, if◌then◌else◌}
use Rattle.fields.specs.Bytes.{byte_at, big}
use Rattle.rules.specs.State.{State, setup_of, any_holds}
use Rattle.rules.specs.Calls.{Call, put, take, fresh, step}
use Rattle.table.specs.Layout.{SIZE}
use Rattle.table.specs.Means.{meant}
use Rattle.table.specs.Encodes.{Encodes}
use Rattle.good.specs.Table.{GoodTable}

abbrev pub CALL : ℕ
CALL = 3

-- a put by a lane and a number of 16 bits
abbrev pub put_by : ℕ → ℕ → Call
put_by lane n = put lane (n / 4096) 7 (n % 4096)

-- A lane and a number, high byte first: a record is put into the lane, of the length that the number's lowest 12 bits say and of the train that the others say.
-- From lane 64 on a record is taken, whatever the number says.
unfoldable pub call_at : List ℕ → ℕ → Call
call_at calls at = if ltb (byte_at calls at) 64 then put_by (byte_at calls at) (big calls (at + 1) 2) else take

-- Bytes behind the last whole call mean nothing.
unfoldable pub calls_in : List ℕ → ℕ
calls_in calls = length calls / CALL

-- the state after the first n calls
unfoldable pub worked : List ℕ → State → ℕ → State
worked calls s zero = s
worked calls s (suc n) = (step (worked calls s n) (call_at calls (n * CALL))).state

-- The table encodes the state, and the bytes past it are as they were.
pub record LeadsTable (before after : List ℕ) (s : State) : Type 0 where
  pub table : Encodes after s
  pub rest : drop SIZE after ≡ drop SIZE before

pub record Works (calls before : List ℕ) (r : ℕ) (after : List ℕ) : Type 0 where
  pub not_good : (GoodTable before → ⊥) → (r ≡ 10) × (after ≡ before)
  pub held : GoodTable before → any_holds (meant before).lanes ≡ true → (r ≡ 15) × (after ≡ before)
  pub done : GoodTable before → any_holds (meant before).lanes ≡ false → (r ≡ 0) × LeadsTable before after (worked calls (fresh (setup_of (meant before))) (calls_in calls))
  pub size : length after ≡ length before
