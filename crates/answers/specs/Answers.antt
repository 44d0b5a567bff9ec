-- A request answered: what is left of the table and of the answer area.
--
--   Made      a table that calls made from a fresh one: what the session run rests on, in place of a test for each request
--   Answers   the call is done, its line is written, and the request is counted
--
-- Assumes nothing.
use Rattle.std.specs.Prelude.{ℕ, ◌+◌, ◌≡◌, List, drop}
use Rattle.rules.specs.State.{setup_of}
use Rattle.rules.specs.Calls.{Call, step}
use Rattle.rules.proofs.AlwaysGood.{Reached}
use Rattle.table.specs.Layout.{SIZE, Room, cells}
use Rattle.table.specs.Means.{meant, RowsFit, Listed}
use Rattle.table.specs.Encodes.{Encodes}
use Rattle.lines.specs.Line.{Line}
use Rattle.answers.specs.Lines.{line_by}
use Rattle.answers.specs.declared.Tally.{Tally}

-- R6.14. `Reached` is what a fresh state has and every call keeps, and it gives `Good`.
pub record Made (t : List ℕ) : Type 0 where
  pub room : Room t
  pub beside : RowsFit (cells t)
  pub listed : Listed t
  pub reached : Reached (meant t)

-- R10.8
pub record Answers (c : Call) (t t' a a' : List ℕ) (so_far r : Tally) : Type 0 where
  pub made : Made t'
  pub state : Encodes t' (step (meant t) c).state
  pub rest : drop SIZE t' ≡ drop SIZE t
  pub line : Line a a' so_far.next (line_by (setup_of (meant t)) (step (meant t) c).reply) r.next
  -- R10.8: a request is counted whatever the reply is, a refusal too
  pub count : r.answered ≡ so_far.answered + 1
