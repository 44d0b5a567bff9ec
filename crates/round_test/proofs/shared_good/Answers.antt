use Prim.Native.Nat.{ℕ, ◌+◌, ◌-◌, ◌*◌, ◌/◌}
use native.Mathlib.Omega.{arith}
use mathlib.Core.Path.{sym, ap, ◌∙◌}
use lib.ListN.{length, drop, length-drop}
use lib.Seq.{take_all}
use Rattle.turns.specs.Turns.{named_of, order_of}
use Rattle.round_test.specs.Shared.{numbers_at, lengths_at}
use Rattle.round_test.proofs.Fill.{end_is, ordered-is}
use Rattle.round_test.proofs.Testing.{good-count}
use Rattle.round_test.proofs.Part.{lane-says}
use Rattle.round_test.proofs.shared_good.Goals as goal

pub returns-then-order-end : goal.returns-then-order-end
returns-then-order-end c g =
    let few = c.if-named-gt8.false in
    omega (arith, c.if-order-end.true, g.ordered.fits, end_is (c.args.round / 4294967296) few)

pub returns-then-held-count : goal.returns-then-held-count
returns-then-held-count c g =
    let s = c in
    let o = ordered-is s.args.round c.if-named-gt8.false c.if-order-end.false in
    c.if-held-count.true (c.held.ensures ∙ good-count s.args.longest s.args.round s.args.count (numbers_at s.args.t.now s.args.trains) (lengths_at s.args.t.now s.args.lengths) o (λ p. omega arith) s.requires.4 g)

pub returns : goal.returns
returns c =
    let s = c in
    let a = s.args in
    let few = c.if-named-gt8.false in
    let o = ordered-is a.round few c.if-order-end.false in
    lane-says c.trains_good.result a.longest a.round a.count a.trains a.lengths _ a.t.now _ o s.requires.4
    (take_all (length a.t.now - a.lengths / 4 * 8) (drop (a.lengths / 4 * 8) a.t.now) (omega (arith, length-drop (a.lengths / 4 * 8) a.t.now)))
    (ap (λ (x : ℕ). order_of a.round + (4294967296 - x)) (end_is (named_of a.round) few))
    (sym c.held.ensures ∙ c.if-held-count.false) c.trains_good.ensures
