-- R15.3: what the promise of a run leaves open: nothing of its result and of the answer area, and of the table only what no call tells apart.
--
--   SameRun   two outcomes of a run are one, so far
--   OneRun    any two that `Ran` allows for the same input are
--
-- Assumes nothing.
use Rattle.std.specs.Prelude.{ℕ, ◌≡◌, List, drop}
use Rattle.alike.specs.AlikeDevice.{AlikeDevice}
use Rattle.table.specs.Layout.{table_size}
use Rattle.paged.specs.Paged.{device_of}
use Rattle.walk.specs.Follows.{why_of}
use Rattle.session.specs.Ran.{Ran}
use Rattle.walk.specs.declared.RunResult.{RunResult}

-- the results r and r', the answer areas a and a', the tables t and t'
pub record SameRun (r r' : RunResult) (a a' t t' : List ℕ) : Type 0 where
  pub count : r.answered ≡ r'.answered
  pub written : r.written ≡ r'.written
  pub why : why_of r.why ≡ why_of r'.why
  pub answers : a ≡ a'
  pub table : AlikeDevice (device_of t) (device_of t')
  pub rest : drop table_size t ≡ drop table_size t'

unfoldable pub OneRun : Type 0
OneRun =
    (s : List ℕ) (limit : ℕ) (t a : List ℕ) (r r' : RunResult) (t₁ t₂ a₁ a₂ : List ℕ)
    → Ran s limit t t₁ a a₁ r → Ran s limit t t₂ a a₂ r' → SameRun r r' a₁ a₂ t₁ t₂
