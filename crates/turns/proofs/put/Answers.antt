use native.Mathlib.Omega.{arith}
use Rattle.turns.proofs.Putting.{puts-more, puts_first, puts-joins}
use Rattle.turns.proofs.put.Goals as goal

-- src/lib.rt:51:9
pub returns-then-count-ne0 : goal.returns-then-count-ne0
returns-then-count-ne0 c =
    let a = c.args in
    let p = c.requires in
    puts-more a.longest a.train a.round a.k p.0 p.1 p.2 p.3 p.5 (omega (arith, c.if-count-ne0.true))

-- src/lib.rt:58:9
pub returns-then-named-eq0 : goal.returns-then-named-eq0
returns-then-named-eq0 c =
    let a = c.args in
    let p = c.requires in
    puts_first a.longest a.train a.round a.k p.0 p.1 p.2 p.3 p.5 (omega (arith, c.if-count-ne0.false)) c.if-named-eq0.true

-- src/lib.rt:43:1
pub returns : goal.returns
returns c =
    let a = c.args in
    let p = c.requires in
    puts-joins a.longest a.train a.round a.k p.0 p.1 p.2 p.3 p.5 c.place_worth.result c.place_worth.ensures.0 c.if-count-ne0.false (omega (arith, c.if-named-eq0.false)) (p.4 c.if-count-ne0.false)
