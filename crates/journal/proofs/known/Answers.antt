-- `known` meets its contract. Assumes nothing.
use Rattle.journal.proofs.Fields.{known_joined, known-left}
use Rattle.journal.proofs.known.Goals as goal

pub returns-then-kind-eq-JOINED : goal.returns-then-kind-eq-JOINED
returns-then-kind-eq-JOINED c = known_joined c.args.kind c.if-kind-eq-JOINED.true

pub returns : goal.returns
returns c = known-left c.args.kind c.if-kind-eq-JOINED.false
