-- `call` meets its contract: each request is the rules' call. Assumes nothing.
use Rattle.rules.specs.Calls.{look, sets, lag}
use Rattle.engine.proofs.Still.{look-still, sets-still, lag-still, looks-does}
use borrow.Author.Rules.{rules}
use Rattle.answers.proofs.call.Goals as goal

pub returns-in-Put : goal.returns-in-Put
returns-in-Put c = rw c.in-Put.is c.put.ensures

pub returns-in-Take : goal.returns-in-Take
returns-in-Take c = rw c.in-Take.is c.take.ensures

pub returns-in-Look : goal.returns-in-Look
returns-in-Look c = rw c.in-Look.is (looks-does look c.args.t.now c.look.result c.requires (look-still _) c.look.ensures)

pub returns-in-Sets : goal.returns-in-Sets
returns-in-Sets c = rw c.in-Sets.is (looks-does sets c.args.t.now c.sets.result c.requires (sets-still _) c.sets.ensures)

pub returns-in-Lag : goal.returns-in-Lag
returns-in-Lag c = rw c.in-Lag.is (looks-does (lag c.in-Lag.lane) c.args.t.now c.lag.result c.requires (lag-still _ c.in-Lag.lane) c.lag.ensures)

pub returns-in-Restart : goal.returns-in-Restart
returns-in-Restart c = rw c.in-Restart.is c.restart.ensures
