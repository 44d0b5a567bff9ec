-- `put_closing` meets its contract. Assumes nothing.
use mathlib.Core.Path.{ap}
use native.Mathlib.Omega.{arith}
use Rattle.walk.specs.Walks.{line_count}
use Rattle.walk.proofs.Texts.{closes-end, closes-limit, closes-no}
use borrow.Author.Rules.{rules}
use Rattle.walk.proofs.put_closing.Goals as goal

pub put_no-p-requires : goal.put_no-p-requires
put_no-p-requires c = omega (arith, c.requires, ap line_count c.in-Refused.is)

pub put_end-requires : goal.put_end-requires
put_end-requires c = omega (arith, c.requires, ap line_count c.in-Refused.is, c.put_no-p.ensures.wrote.past, c.put_no-p.ensures.most, c.put_no-p.auto.a)

pub put_end-requires-in-End : goal.put_end-requires-in-End
put_end-requires-in-End c = omega (arith, c.requires, ap line_count c.in-End.is)

pub put_end-requires-in-Limit : goal.put_end-requires-in-Limit
put_end-requires-in-Limit c = omega (arith, c.requires, ap line_count c.in-Limit.is)

pub returns-in-Refused : goal.returns-in-Refused
returns-in-Refused c = rw c.in-Refused.is (closes-no c.in-Refused.x c.put_no-p.ensures c.put_end.ensures)

pub returns-in-End : goal.returns-in-End
returns-in-End c = rw c.in-End.is (closes-end c.put_end-in-End.ensures)

pub returns-in-Limit : goal.returns-in-Limit
returns-in-Limit c = rw c.in-Limit.is (closes-limit c.put_end-in-Limit.ensures)
