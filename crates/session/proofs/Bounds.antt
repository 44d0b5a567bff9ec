-- What a run is, by its limit, answer area and table.
--
--   nothing_is               nothing is written
--   run-limit .. run-right   17, then 7, else the script
--
-- Assumes nothing.
use Prim.Native.Nat.{ℕ, ◌+◌, ◌*◌, ◌≤◌, ◌<◌}
use mathlib.Core.Path.{◌≡◌, refl}
use mathlib.Core.List.{List}
use mathlib.Core.Option.{none, some}
use borrow.Author.Tests.{lt-ltb, le-ltb}
use Rattle.rules.specs.Reads.{number, place_of}
use Rattle.rules.specs.declared.Refusal.{Refusal}
use Rattle.table.specs.Layout.{table_size}
use Rattle.walk.specs.Script.{script, nothing_done, run_of}
use Rattle.walk.specs.Follows.{Follows}
use Rattle.walk.specs.declared.Stop.TheVariants.{Refused}

pub nothing_is : (x : Refusal) (t a : List ℕ) → Follows t t a a (record { answered = 0; written = 0; why = Refused x }) (nothing_done (number x) (place_of x))
nothing_is x t a = record { count = refl; written = refl; why = refl; answers = refl; table = refl }

-- ---- 17, then 7

module _ (s : List ℕ) (limit table area : ℕ) where
  pub run-limit : 1000 < limit → run_of s limit table area ≡ nothing_done 17 none
  unfolding run_of
  run-limit h = rw (lt-ltb 1000 limit h)

  pub run-area : limit ≤ 1000 → area < 64 * (limit + 2) → run_of s limit table area ≡ nothing_done 17 none
  unfolding run_of
  run-area l h = rw (le-ltb 1000 limit l, lt-ltb area (64 * (limit + 2)) h)

  pub run-table : limit ≤ 1000 → 64 * (limit + 2) ≤ area → table < table_size → run_of s limit table area ≡ nothing_done 7 (some 0)
  unfolding run_of
  run-table l h t = rw (le-ltb 1000 limit l, le-ltb area (64 * (limit + 2)) h, lt-ltb table table_size t)

  pub run-right : limit ≤ 1000 → 64 * (limit + 2) ≤ area → table_size ≤ table → run_of s limit table area ≡ script s limit
  unfolding run_of
  run-right l h t = rw (le-ltb 1000 limit l, le-ltb area (64 * (limit + 2)) h, le-ltb table table_size t)
