-- `mark` meets its contract. Assumes nothing.
use mathlib.Core.Path.{refl, sym, ◌∙◌}
use Prim.Native.Nat.{◌%◌}
use native.Mathlib.Omega.{arith}
use borrow.Author.Tests.{eqb-true}
use Rattle.words.specs.Bits.{bit}
use Rattle.words.proofs.Bits.{shift_one, add-below}
use Rattle.board.proofs.Tested.{mark_set, mark-add, bit-unset}
use Rattle.board.proofs.mark.Goals as goal

pub returns-then-marked : goal.returns-then-marked
returns-then-marked c = mark_set c.args.seen (c.args.train % 64) c.args.seen (eqb-true (bit (c.args.train % 64) c.args.seen) 1 (sym c.marked.ensures ∙ c.if-marked.true)) refl

pub overflow_add-result : goal.overflow_add-result
overflow_add-result c = omega (arith, shift_one (c.args.train % 64) (omega arith), add-below 64 (c.args.train % 64) c.args.seen (omega arith) (omega arith) (bit-unset (c.args.train % 64) c.args.seen (sym c.marked.ensures ∙ c.if-marked.false)))

pub returns : goal.returns
returns c = mark-add c.args.seen (c.args.train % 64) _ (bit-unset (c.args.train % 64) c.args.seen (sym c.marked.ensures ∙ c.if-marked.false)) (omega (arith, shift_one (c.args.train % 64) (omega arith)))
