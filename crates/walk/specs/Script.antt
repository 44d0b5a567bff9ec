-- The script of a session (docs/RULES.md, R10): what a run writes, counts and leaves, and why it stops.
--
--   Why           why a run stops: at the end field, at the limit, or at a refusal with its number and place
--   Walked        what the requests come to: their lines, how many were answered, why the walk stopped, the state
--   session_walk   the requests, from a place on
--   Script        what the whole run comes to: its text, the count, why it stopped, and the state, if a table was made
--   script        a run whose limit, answer area and table are right
--   run_of         any run
--
-- Assumes nothing.
use Rattle.std.specs.Prelude.{ℕ, zero, suc, ◌+◌, ◌*◌, ◌||◌, List, [], ◌++◌, ltb, length, if◌then◌else◌}
use Rattle.std.proofs.Math.Option.{Option, none, some}
use Rattle.rules.specs.State.{State, setup_of}
use Rattle.rules.specs.Calls.{fresh, step}
use Rattle.plan.specs.Read.{SetupReply, setup_refused, setup_read, read_plan}
use Rattle.table.specs.Layout.{table_size}
use Rattle.lines.specs.Line.{no_line, lanes_line, end_line}
use Rattle.requests.specs.Request.{request, last, bad_request, request_item_at}
use Rattle.answers.specs.Lines.{line_by}

-- R10.11: the reasons for a stop; a refusal has its number, and its place if there is one
pub data Why : Type 0 where
  at_end at_limit : Why
  refusal : ℕ → Option ℕ → Why

-- ---- the requests

pub record Walked : Type 0 where
  pub lines : List ℕ
  pub count : ℕ
  pub why : Why
  pub state : State

-- R10.9, R14.6: a byte behind the end field is refused by 4, at that byte
abbrev pub session_closed : List ℕ → ℕ → Why
session_closed s at = if ltb at (length s) then refusal 4 (some at) else at_end

-- R10.7 to R10.9: n requests are answered, by these lines, and so many more are allowed. The limit goes before each field, the end field too. The walk stops at
-- a refused field and at the end field, and counts neither. It counts each request and goes on behind it, also where the call refused it, as by 16, 70 or 71,
-- and its line is a `no` line.
unfoldable pub session_walk : ℕ → List ℕ → ℕ → ℕ → List ℕ → State → Walked
session_walk zero s at n lines σ = record { lines = lines; count = n; why = at_limit; state = σ }
session_walk (suc left) s at n lines σ = elim (request_item_at s at) [
  | bad_request r p ↦ record { lines = lines; count = n; why = refusal r p; state = σ }
  | last next ↦ record { lines = lines; count = n; why = session_closed s next; state = σ }
  | request c next ↦ session_walk left s next (n + 1) (lines ++ line_by (setup_of σ) (step σ c).reply) (step σ c).state
]

-- ---- the run

-- no state: no table was made, and the lent table stays as it was
pub record Script : Type 0 where
  pub text : List ℕ
  pub count : ℕ
  pub why : Why
  pub state : Option State

-- R10.10: the last line is `end N`; a refusal has its own line before it
abbrev pub closing : Why → ℕ → List ℕ
closing at_end n = end_line n
closing at_limit n = end_line n
closing (refusal r p) n = no_line r p ++ end_line n

-- R10.6: the first line is `lanes N`
abbrev pub finished : ℕ → Walked → Script
finished lanes w = record {
  text = lanes_line lanes ++ (w.lines ++ closing w.why w.count);
  count = w.count;
  why = w.why;
  state = some w.state;
}

-- R10.5, R10.6: of a refused setup its `no` line alone; else `lanes N`, and the requests on the fresh table of the setup
abbrev pub session_begun : List ℕ → ℕ → SetupReply → Script
session_begun s limit (setup_refused r p) = record { text = no_line r p; count = 0; why = refusal r p; state = none }
session_begun s limit (setup_read v gs lanes at) = finished lanes (session_walk limit s at 0 [] (fresh gs))

-- R10.1: a setup comes first
unfoldable pub script : List ℕ → ℕ → Script
script s limit = session_begun s limit (read_plan s 0)

-- R10.4: after 17 and 7 there is no text, and no table was made
abbrev pub nothing_done : ℕ → Option ℕ → Script
nothing_done r p = record { text = []; count = 0; why = refusal r p; state = none }

-- R10.4, R14.38: 17 by the limit and the answer area (R14.14), 7 by the table (R14.13), and then the setup, whose table is a new one (R3.22); of a session's
-- bytes and a limit, with a table and an answer area of so many bytes
unfoldable pub run_of : List ℕ → ℕ → ℕ → ℕ → Script
run_of s limit table area =
    if ltb 1000 limit || ltb area (64 * (limit + 2)) then nothing_done 17 none
    else (if ltb table table_size then nothing_done 7 (some 0) else script s limit)
