-- `run` meets its contract. Assumes nothing.
use Rattle.rules.specs.declared.Refusal.TheVariants.{RunBounds, TableShort}
use Rattle.session.proofs.Bounds.{nothing_is, run-limit, run-area, run-table, run-right}
use borrow.Author.Rules.{rules}
use Rattle.session.proofs.run.Goals as goal

pub returns-then-limit-gt-MOST_REQUESTS : goal.returns-then-limit-gt-MOST_REQUESTS
returns-then-limit-gt-MOST_REQUESTS c = rw (run-limit _ _ _ _ c.if-limit-gt-MOST_REQUESTS.true, c.nothing.ensures) (nothing_is RunBounds _ _)

pub returns-then-answers-limit : goal.returns-then-answers-limit
returns-then-answers-limit c = rw (run-area _ _ _ _ c.if-limit-gt-MOST_REQUESTS.false c.if-answers-limit.true, c.nothing-then-answers-limit.ensures) (nothing_is RunBounds _ _)

pub returns-then-table-lt-TABLE_SIZE : goal.returns-then-table-lt-TABLE_SIZE
returns-then-table-lt-TABLE_SIZE c = rw (run-table _ _ _ _ c.if-limit-gt-MOST_REQUESTS.false c.if-answers-limit.false c.if-table-lt-TABLE_SIZE.true, c.nothing-then-table-lt-TABLE_SIZE.ensures) (nothing_is TableShort _ _)

pub returns : goal.returns
returns c = rw (run-right _ _ _ _ c.if-limit-gt-MOST_REQUESTS.false c.if-answers-limit.false c.if-table-lt-TABLE_SIZE.false) c.begun.ensures
