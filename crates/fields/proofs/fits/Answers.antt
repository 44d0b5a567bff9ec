-- `fields::fits` meets its contract. Assumes nothing.
use Prim.Native.Nat.{◌+◌}
use borrow.Author.Tests.{lt-leb}
use lib.ListN.{length}
use mathlib.Core.Path.{sym}
use native.Mathlib.Omega.{arith}
use Rattle.fields.proofs.Header.{fits-left}
use Rattle.fields.proofs.fits.Goals as goal

pub returns-then-s-at : goal.returns-then-s-at
returns-then-s-at c =
    let a = c.args in sym (lt-leb (a.at + a.n) (length a.s.now) (omega arith))

pub returns : goal.returns
returns c =
    let a = c.args in fits-left (length a.s.now) a.at a.n (omega arith)
