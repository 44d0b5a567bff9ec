-- The promise of making a table, whole: for every setup and every lent table.
--
--   MakeReply   what making answers: the number of lanes, or a refusal's number and its place
--   make_reply   the code's answer as a `MakeReply`
--   MakeStep    the promise
--
-- Assumes nothing.
use Rattle.std.specs.Prelude.{ℕ, ◌≤◌, ◌<◌, ◌≡◌, List, length, drop, Result, Ok, Err}
use Rattle.std.proofs.Math.Option.{Option, some}
use Rattle.rules.specs.Reads.{number, place_of}
use Rattle.plan.specs.Read.{setup_read, setup_refused, read_setup, SetupReply}
use Rattle.pages.specs.Device.{fresh_device}
use Rattle.table.specs.Layout.{table_size}
use Rattle.paged.specs.Paged.{EncodesDevice}
use Rattle.rules.specs.declared.Refusal.{Refusal}

pub data MakeReply : Type 0 where
  made : ℕ → MakeReply
  not_made : ℕ → Option ℕ → MakeReply

abbrev pub make_reply : Result ℕ Refusal → MakeReply
make_reply (Ok n) = made n
make_reply (Err x) = not_made (number x) (place_of x)

-- R3.20, R3.21: where there is room the setup decides: its fresh table is made, of edition 0 and with no page that waits, or nothing is written. R8.16: the
-- format plays no part.
abbrev pub TableBySetup : SetupReply → List ℕ → Result ℕ Refusal → List ℕ → Type 0
TableBySetup (setup_refused n p) before a after = (make_reply a ≡ not_made n p) × (after ≡ before)
TableBySetup (setup_read v gs n at) before a after = (make_reply a ≡ made n) × EncodesDevice after (fresh_device gs) × (drop table_size after ≡ drop table_size before)

-- R14.37, R15.1: 7 comes before what is wrong with the setup
pub record MakeStep (setup before : List ℕ) (a : Result ℕ Refusal) (after : List ℕ) : Type 0 where
  -- R3.20, R14.13: 7 at place 0 where there is no room
  pub short : length before < table_size → (make_reply a ≡ not_made 7 (some 0)) × (after ≡ before)
  -- R3.21
  pub follows : table_size ≤ length before → TableBySetup (read_setup setup) before a after
  -- R3.21
  pub size : length after ≡ length before
