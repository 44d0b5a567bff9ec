-- What the inner functions of a run promise.
--
--   line_count   how many lines close a run
--   Walks       the requests are answered as the script's walk answers them
--   Closes      the last lines are written
--
-- Assumes nothing.
use Rattle.std.specs.Prelude.{ℕ, ◌+◌, ◌*◌, ◌≤◌, ◌≡◌, List, length, drop}
use Rattle.table.specs.Layout.{SIZE}
use Rattle.table.specs.Encodes.{Encodes}
use Rattle.lines.specs.Line.{Wrote}
use Rattle.walk.specs.Script as Script
use Rattle.walk.specs.Follows.{why_of}
use Rattle.walk.specs.declared.Stop as Stop
use Rattle.walk.specs.declared.Walked as Walked

-- a refusal adds its own line
abbrev pub line_count : Stop.Stop → ℕ
line_count Stop.TheVariants.End = 1
line_count Stop.TheVariants.Limit = 1
line_count (Stop.TheVariants.Refused x) = 2

-- R10.14, of the walk w: 64 bytes are enough for `lanes N`, each answered request and the closing lines, from which 17's figure follows
pub record Walks (limit : ℕ) (t t' a a' : List ℕ) (start : ℕ) (r : Walked.Walked) (w : Script.Walked) : Type 0 where
  pub count : r.answered ≡ w.count
  pub why : why_of r.why ≡ w.why
  pub wrote : Wrote a a' start w.lines r.next
  pub encodes : Encodes t' w.state
  pub rest : drop SIZE t' ≡ drop SIZE t
  pub fits : r.next + 64 * line_count r.why ≤ 64 * (limit + 2)

pub record Closes (a a' : List ℕ) (at : ℕ) (why : Stop.Stop) (n next : ℕ) : Type 0 where
  pub wrote : Wrote a a' at (Script.closing (why_of why) n) next
  pub most : length (Script.closing (why_of why) n) ≤ 64 * line_count why
