use Rattle.lane_test.proofs.Setting.{says-yes, says-no}
use borrow.Author.Rules.{rules}
use mathlib.Core.Path.{ap}
use mathlib.Core.Bool.{not}
use Rattle.good.proofs.found_good.Goals as goal

pub returns-then-not-live : goal.returns-then-not-live
returns-then-not-live c = λ q. says-no c.live_good-live.result c.live_good-live.ensures (ap not c.if-not-live.true) q.2

pub returns-then-not-listed : goal.returns-then-not-listed
returns-then-not-listed c = λ q. says-no c.lists_good-listed.result c.lists_good-listed.ensures (ap not c.if-not-listed.true) q.3

pub returns : goal.returns
returns c = (c.if-f-lt1.false, c.if-f-gt1024.false, says-yes c.live_good-live.result c.live_good-live.ensures (ap not c.if-not-live.false), says-yes c.lists_good-listed.result c.lists_good-listed.ensures (ap not c.if-not-listed.false))
