-- The promise of the converter, whole: for every old table and all new bytes.
--
--   ConvertReply   what converting answers: it is done, or a refusal's number and its place
--   convert_reply   the code's answer as a `ConvertReply`
--   unpaged        a unit that has taken no page, and with none that waits
--   Converts       the promise
--
-- The old table is lent to be read alone, so it stays. Assumes nothing.
use Rattle.std.specs.Prelude.{ℕ, ◌≤◌, ◌<◌, ◌≡◌, List, length, drop}
use Rattle.std.proofs.Math.Option.{Option, none, some}
use Rattle.rules.specs.Reads.{number, place_of}
use Rattle.rules.specs.State.{State}
use Rattle.pages.specs.Device.{Device}
use Rattle.table.specs.Layout.{table_size}
use Rattle.paged.specs.Paged.{EncodesDevice, GoodUnit}
use Rattle.old_table.specs.Old.{old_meant, OldTable}
use Rattle.std.specs.Prelude.{Result}
use Rattle.rules.specs.declared.Refusal.{Refusal}
use Rattle.std.specs.Prelude.{Ok}
use Rattle.std.specs.Prelude.{Err}

pub data ConvertReply : Type 0 where
  converted : ConvertReply
  not_converted : ℕ → Option ℕ → ConvertReply

abbrev pub convert_reply : Result (Unit {0}) Refusal → ConvertReply
convert_reply (Ok u) = converted
convert_reply (Err x) = not_converted (number x) (place_of x)

-- the unit of a state that has taken no page
abbrev pub unpaged : State → Device
unpaged s = record { state = s; edition = 0; waiting = none }

-- R7.5: the bytes `after` are a table with the old one's queues, V, S, F and tie order; those past it are as they were
pub record TakenOver (old before after : List ℕ) : Type 0 where
  pub encodes : EncodesDevice after (unpaged (old_meant old))
  pub good : GoodUnit after
  pub rest : drop table_size after ≡ drop table_size before

-- R7.1, R14.39
pub record Converts (old before : List ℕ) (a : Result (Unit {0}) Refusal) (after : List ℕ) : Type 0 where
  -- R7.4, R14.13: 7 for too little room, at place 0; it goes before 10
  pub short : length before < table_size → (convert_reply a ≡ not_converted 7 (some 0)) × (after ≡ before)
  -- R7.4, R14.22: 10 for an old table that is not good by the rule of its time
  pub not_good : table_size ≤ length before → (OldTable old → ⊥) → (convert_reply a ≡ not_converted 10 none) × (after ≡ before)
  -- R7.5
  pub converts : table_size ≤ length before → OldTable old → (convert_reply a ≡ converted) × TakenOver old before after
  -- and so an answer that it is done says that the old table was good
  pub was_good : convert_reply a ≡ converted → OldTable old
  pub size : length after ≡ length before
