-- The requests of a run as a list of calls (R10.16). A run that makes a table answers its requests as the rules do, from the fresh table of its setup; so
-- what holds of every list of the rules' calls holds of a run's answers, R15.8 included.
--
--   requests_of      the requests that stand from a place on, up to the limit
--   lines_of         the lines of their answers, by the setup
--   ListsRequests   what a script comes to, said by these
--   RunLists        every run that makes a table comes to this
--
-- Assumes nothing.
use Rattle.std.specs.Prelude.{ℕ, zero, suc, ◌≤◌, ◌≡◌, List, [], ◌∷◌, ◌++◌, length}
use Rattle.std.proofs.Math.Option.{some}
use Rattle.rules.specs.State.{Setting, State}
use Rattle.rules.specs.Setup.{Setup, framing_of, margin}
use Rattle.rules.specs.Calls.{Call, fresh}
use Rattle.rules.specs.Runs.{Event, after, trace}
use Rattle.rules.specs.Fair.{Fair, Compared}
use Rattle.plan.specs.Read.{read_plan, setup_read}
use Rattle.lines.specs.Line.{lanes_line}
use Rattle.requests.specs.Request.{request, last, bad_request, request_item_at}
use Rattle.answers.specs.Lines.{line_by}
use Rattle.walk.specs.Script.{Script, closing, run_of}

-- none at the end field or a refused field; else the request, and those behind it
unfoldable pub requests_of : ℕ → List ℕ → ℕ → List Call
requests_of zero s at = []
requests_of (suc left) s at = elim (request_item_at s at) [
  | bad_request n p ↦ []
  | last next ↦ []
  | request c next ↦ c ∷ requests_of left s next
]

unfoldable pub lines_of : List Setting → List Event → List ℕ
lines_of gs [] = []
lines_of gs (e ∷ es) = line_by gs e.reply ++ lines_of gs es

pub record ListsRequests (s : List ℕ) (limit : ℕ) (x : Script) : Type 0 where
  pub settings : List Setting
  pub format : ℕ
  pub lanes : ℕ
  pub at : ℕ
  -- the setup at the front of the session, and the place behind it
  pub reads_it : read_plan s 0 ≡ setup_read format settings lanes at
  pub setup : Setup settings
  -- all requests that stand there are answered, up to the limit
  pub count : x.count ≡ length (requests_of limit s at)
  pub within : x.count ≤ limit
  -- a line for each, and each line that of the rules' answer
  pub text : x.text ≡ lanes_line lanes ++ (lines_of settings (trace (fresh settings) (requests_of limit s at)) ++ closing x.why x.count)
  pub state : x.state ≡ some (after (fresh settings) (requests_of limit s at))
  -- R15.8, of this list as of every one
  pub fair : Fair (margin (framing_of settings)) settings
  -- and any two of its busy lanes compared
  pub compared : Compared (margin (framing_of settings)) settings

unfoldable pub RunLists : Type 0
RunLists = (s : List ℕ) (limit table area : ℕ) (σ : State) → (run_of s limit table area).state ≡ some σ → ListsRequests s limit (run_of s limit table area)
