-- `formed` meets its contract. Assumes nothing.
use Rattle.board.proofs.Tested.{formed-free, formed-none, formed-joined, formed-left, formed-over}
use Rattle.board.proofs.formed.Goals as goal

pub returns-then-c-eq0 : goal.returns-then-c-eq0
returns-then-c-eq0 c =
    let a = c.args in formed-free a.a a.c c.if-c-eq0.true

pub returns-then-c-lt-KIND_UNIT : goal.returns-then-c-lt-KIND_UNIT
returns-then-c-lt-KIND_UNIT c =
    let a = c.args in formed-none a.a a.c c.if-c-eq0.false c.if-c-lt-KIND_UNIT.true

pub returns-then-c-lt-LEAVES : goal.returns-then-c-lt-LEAVES
returns-then-c-lt-LEAVES c =
    let a = c.args in formed-joined a.a a.c c.if-c-eq0.false c.if-c-lt-KIND_UNIT.false c.if-c-lt-LEAVES.true

pub returns-then-c-lt-UNKNOWN : goal.returns-then-c-lt-UNKNOWN
returns-then-c-lt-UNKNOWN c =
    let a = c.args in formed-left a.a a.c c.if-c-eq0.false c.if-c-lt-KIND_UNIT.false c.if-c-lt-LEAVES.false c.if-c-lt-UNKNOWN.true

pub returns : goal.returns
returns c =
    let a = c.args in formed-over a.a a.c c.if-c-eq0.false c.if-c-lt-KIND_UNIT.false c.if-c-lt-LEAVES.false c.if-c-lt-UNKNOWN.false
