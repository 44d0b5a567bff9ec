-- A run that follows a script: its result, the answer area and the table.
--
--   why_of       the code's reason as the script gives it
--   TableLeft   what a run leaves of the lent table: untouched, or a unit with the script's state that has taken no page; CoreLeft: of the table's core alone
--   Follows     the result, the answer area and the table are those of a script; FollowsBy: with what is said of the table; FollowsCore: with its core alone
--
-- Assumes nothing.
use Rattle.std.specs.Prelude.{ℕ, ◌≡◌, List, ◌++◌, length, drop}
use Rattle.std.proofs.Math.Option.{Option, none, some}
use Rattle.rules.specs.State.{State}
use Rattle.rules.specs.Reads.{number, place_of}
use Rattle.table.specs.Layout.{SIZE, table_size}
use Rattle.table.specs.Encodes.{Encodes}
use Rattle.paged.specs.Paged.{EncodesDevice}
use Rattle.walk.specs.Script.{Why, at_end, at_limit, refusal, Script}
use Rattle.walk.specs.declared.Stop as Stop
use Rattle.walk.specs.declared.RunResult.{RunResult}

-- R10.11
abbrev pub why_of : Stop.Stop → Why
why_of Stop.TheVariants.End = at_end
why_of Stop.TheVariants.Limit = at_limit
why_of (Stop.TheVariants.Refused x) = refusal (number x) (place_of x)

-- R10.11: the table is as the answered requests left it, and what is lent past its fixed size stays
pub record Tabled (t t' : List ℕ) (σ : State) : Type 0 where
  pub encodes : EncodesDevice t' (record { state = σ; edition = 0; waiting = none })
  pub rest : drop table_size t' ≡ drop table_size t

-- the requests know the core, and leave all behind it
pub record Worked (t t' : List ℕ) (σ : State) : Type 0 where
  pub encodes : Encodes t' σ
  pub rest : drop SIZE t' ≡ drop SIZE t

-- R10.4, R10.5, R14.43: every byte stays after 17, 7 or a refused setup; a later refusal keeps what the answered requests made
abbrev pub TableLeft : List ℕ → List ℕ → Option State → Type 0
TableLeft t t' none = t' ≡ t
TableLeft t t' (some σ) = Tabled t t' σ

abbrev pub CoreLeft : List ℕ → List ℕ → Option State → Type 0
CoreLeft t t' none = t' ≡ t
CoreLeft t t' (some σ) = Worked t t' σ

-- R10.11: a run on a table t and an answer area a, which leaves t' and a' and answers r.
pub record FollowsBy (Left : List ℕ → List ℕ → Option State → Type 0) (t t' a a' : List ℕ) (r : RunResult) (x : Script) : Type 0 where
  -- the requests answered are those that the script counts
  pub count : r.answered ≡ x.count
  -- the bytes are those of its text
  pub written : r.written ≡ length x.text
  pub why : why_of r.why ≡ x.why
  -- the text stands at the front, and what stood behind the last line stays
  pub answers : a' ≡ x.text ++ drop (length x.text) a
  pub table : Left t t' x.state

-- R10.11
abbrev pub Follows : List ℕ → List ℕ → List ℕ → List ℕ → RunResult → Script → Type 0
Follows = FollowsBy TableLeft

abbrev pub FollowsCore : List ℕ → List ℕ → List ℕ → List ℕ → RunResult → Script → Type 0
FollowsCore = FollowsBy CoreLeft
