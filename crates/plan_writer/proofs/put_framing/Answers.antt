-- `put_framing` meets its contract. Assumes nothing.
use lib.Seq.{sets}
use mathlib.Core.Path.{sym, ap, ◌∙◌}
use native.Mathlib.Omega.{arith}
use Rattle.plan_writer.proofs.Framing.{framing-none, framing-some}
use borrow.Author.Rules.{rules}
use Rattle.plan_writer.proofs.put_framing.Goals as goal

pub returns-then-h-eq-NO_FRAMING : goal.returns-then-h-eq-NO_FRAMING
returns-then-h-eq-NO_FRAMING c =
    let s = c in
    let n = framing-none s.args.h c.if-h-eq-NO_FRAMING.true in
    (ap (sets s.args.a.now s.args.at) (sym n.0), omega (arith, n.1))

pub put_framing_field-requires : goal.put_framing_field-requires
put_framing_field-requires c =
    let s = c in (omega (arith, s.requires.0, (framing-some s.args.h c.if-h-eq-NO_FRAMING.false).1), s.requires.1)

pub returns : goal.returns
returns c =
    let s = c in
    let n = framing-some s.args.h c.if-h-eq-NO_FRAMING.false in
    (c.put_framing_field.ensures ∙ ap (sets s.args.a.now s.args.at) (sym n.0), omega (arith, n.1))
