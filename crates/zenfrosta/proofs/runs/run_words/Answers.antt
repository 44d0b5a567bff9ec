-- `run_words` meets its contract. Assumes nothing.
use Prim.Native.Nat.{ℕ}
use mathlib.Core.Path.{◌≡◌, sym, ap, ◌∙◌}
use mathlib.Core.Option.{Option}
use Rattle.rules.specs.Reads.{number, place_of}
use Rattle.rules.specs.declared.Refusal.{Refusal}
use Rattle.lines.specs.Line.{place_is}
use Rattle.walk.specs.Script.{refusal}
use Rattle.walk.specs.declared.Stop.TheVariants.{Refused}
use Rattle.walk.specs.declared.RunResult.{RunResult}
use Rattle.zenfrosta.specs.Crossing.{four, stop_kind, stop_place, run_values}
use borrow.Author.Rules.{rules}
use Rattle.zenfrosta.proofs.runs.run_words.Goals as goal

-- a run that a refusal ended, by the refusal's place
at-refusal : (x : RunResult) (f : Refusal) (o : Option ℕ) → x.why ≡ Refused f → o ≡ place_of f
    → four x.answered x.written (stop_kind (refusal (number f) o)) (stop_place (refusal (number f) o)) ≡ run_values x
at-refusal x f o why is = rw (why, is)

pub returns-in-End : goal.returns-in-End
returns-in-End c = rw c.in-End.is

pub returns-in-Limit : goal.returns-in-Limit
returns-in-Limit c = rw c.in-Limit.is

pub returns-in-Some : goal.returns-in-Some
returns-in-Some c = at-refusal _ _ _ c.in-Refused.is (sym (ap place_is c.in-Some.is) ∙ c.place_of.ensures)

pub returns-in-None : goal.returns-in-None
returns-in-None c = at-refusal _ _ _ c.in-Refused.is (sym (ap place_is c.in-None.is) ∙ c.place_of.ensures)
