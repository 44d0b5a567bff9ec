-- The promise of a session's run, for every input (R10.11, R15.1). Assumes nothing.
use Rattle.std.specs.Prelude.{ℕ, List, length}
use Rattle.walk.specs.Script.{run_of}
use Rattle.walk.specs.Follows.{Follows}
use Rattle.walk.specs.declared.RunResult.{RunResult}

-- A run of session bytes s with a limit: no input is left out.
abbrev pub Ran : List ℕ → ℕ → List ℕ → List ℕ → List ℕ → List ℕ → RunResult → Type 0
Ran s limit t t' a a' r = Follows t t' a a' r (run_of s limit (length t) (length a))
