-- How the answers of the halt's calls cross to a host, as in Crossing (R20.6).
--
--   CrossesHalt         the promise of zf_halt_put, zf_halt_take, zf_halt_look, zf_halt_sets, zf_halt_lag and zf_halt_restart
--   CrossesHaltMaking   the promise of zf_halt_make
--   HaltCrosses         on the halt's tables its exported calls are the others, so what holds of lists of those (Heard) holds of them
--
-- Assumes nothing.
use Rattle.std.specs.Prelude.{ℕ, ◌≡◌, List}
use Rattle.rules.specs.Calls.{Call}
use Rattle.rules.specs.Reads as answer
use Rattle.halt.specs.Halt.{HaltTable, HaltStep, HaltMake, halt_reply}
use Rattle.zenfrosta.specs.Crossing.{code, values, make_code, make_values, Crosses, CrossesCall}

-- R13.4, R20.6
abbrev pub CrossesHalt : (c : Call) (table table' out : List ℕ) (r : ℕ) (out' : List ℕ) → Type 0
CrossesHalt c table table' out r out' =
    Crosses (λ a. code (answer.reads a)) (λ a. values (answer.reads a)) (λ a. HaltStep c table a table') (table' ≡ table) out r out'

-- R13.4, R20.6
abbrev pub CrossesHaltMaking : (setup table table' out : List ℕ) (r : ℕ) (out' : List ℕ) → Type 0
CrossesHaltMaking setup table table' out r out' =
    Crosses (λ a. make_code (halt_reply a)) (λ a. make_values (halt_reply a)) (λ a. HaltMake setup table a table') (table' ≡ table) out r out'

-- R20.4, R20.6
unfoldable pub HaltCrosses : Type 0
HaltCrosses = (c : Call) (t u out : List ℕ) (r : ℕ) (out' : List ℕ) → HaltTable t → CrossesHalt c t u out r out' → CrossesCall c t u out r out'
