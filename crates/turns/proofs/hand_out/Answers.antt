use Rattle.turns.proofs.HandingCode.{does-last, does-stay, does-go}
use Rattle.turns.proofs.hand_out.Goals as goal

-- src/lib.rt:82:9
pub returns-then-count-eq1 : goal.returns-then-count-eq1
returns-then-count-eq1 c =
    let a = c.args in
    let p = c.requires in
    does-last a.train a.round a.length a.next p.0 p.1 p.3 p.4 p.5 c.if-count-eq1.true

-- src/lib.rt:91:9
pub returns-then-next-left : goal.returns-then-next-left
returns-then-next-left c =
    let a = c.args in
    let p = c.requires in
    does-stay a.train a.round a.length a.next p.0 p.1 p.3 p.4 p.5 c.if-count-eq1.false c.if-next-left.true

-- src/lib.rt:72:1
pub returns : goal.returns
returns c =
    let a = c.args in
    let p = c.requires in
    does-go a.train a.round a.length a.next p.0 p.1 p.3 p.4 p.5 c.if-count-eq1.false c.place_worth.result c.place_worth.ensures.0 c.if-next-left.false
