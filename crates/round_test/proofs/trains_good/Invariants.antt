use Rattle.round_test.specs.Shared.{numbers_at, lengths_at}
use Rattle.round_test.proofs.Tally.{Tallying}
use Rattle.round_test.proofs.trains_good.Given as goal

abbrev pub invariant-loop-k : goal.invariant-loop-k
invariant-loop-k l = Tallying l.longest (numbers_at l.t l.trains) (lengths_at l.lens l.lengths) l.tally l.k
