-- `request_of` meets its contract. Assumes nothing.
use borrow.Author.Tests.{ne_eqb}
use Rattle.requests.specs.Request.{call_by_number}
use Rattle.requests.proofs.request_of.Goals as goal

-- src/lib.rt:94:1
pub returns-in-32 : goal.returns-in-32
unfolding call_by_number
returns-in-32 c = rw c.in-32.is

-- src/lib.rt:94:1
pub returns-in-38 : goal.returns-in-38
unfolding call_by_number
returns-in-38 c = rw c.in-38.is

-- src/lib.rt:94:1
pub returns-in-33 : goal.returns-in-33
unfolding call_by_number
returns-in-33 c = rw c.in-33.is

-- src/lib.rt:94:1
pub returns-in-34 : goal.returns-in-34
unfolding call_by_number
returns-in-34 c = rw c.in-34.is

-- src/lib.rt:94:1
pub returns-in-35 : goal.returns-in-35
unfolding call_by_number
returns-in-35 c = rw c.in-35.is

-- src/lib.rt:94:1
pub returns-in-36 : goal.returns-in-36
unfolding call_by_number
returns-in-36 c = rw c.in-36.is

-- src/lib.rt:94:1
pub returns-in_default : goal.returns-in_default
unfolding call_by_number
returns-in_default c =
    let t = c.args.tag in
    let r = c.in_default.in_default-own.rest in
    simp (ne_eqb t 32 r.0.0.0.0.0.1, ne_eqb t 38 r.0.0.0.0.1, ne_eqb t 33 r.0.0.0.1, ne_eqb t 34 r.0.0.1, ne_eqb t 35 r.0.1, ne_eqb t 36 r.1)
