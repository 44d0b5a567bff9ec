use Rattle.round_test.proofs.Walk.{Met}
use Rattle.round_test.proofs.seen.Given as goal

abbrev pub invariant-loop : goal.invariant-loop
invariant-loop l = Met l.order l.rest l.seen l.counter
