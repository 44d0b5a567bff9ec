-- `width` meets its contract. Assumes nothing.
use native.Mathlib.Omega.{arith}
use Rattle.sheet_writer.proofs.Writing.{width_one, width-by}
use Rattle.sheet_writer.proofs.width.Goals as goal

pub returns-then-n-lt10 : goal.returns-then-n-lt10
returns-then-n-lt10 c = (width_one _ c.if-n-lt10.true, omega arith)

pub returns-then-n-lt100 : goal.returns-then-n-lt100
returns-then-n-lt100 c = (width-by _ 1 c.if-n-lt10.false c.if-n-lt100.true c.requires, omega arith)

pub returns-then-n-lt1000 : goal.returns-then-n-lt1000
returns-then-n-lt1000 c = (width-by _ 2 c.if-n-lt100.false c.if-n-lt1000.true c.requires, omega arith)

pub returns-then-n-lt10000 : goal.returns-then-n-lt10000
returns-then-n-lt10000 c = (width-by _ 3 c.if-n-lt1000.false c.if-n-lt10000.true c.requires, omega arith)

pub returns : goal.returns
returns c = (width-by _ 4 c.if-n-lt10000.false c.requires c.requires, omega arith)
