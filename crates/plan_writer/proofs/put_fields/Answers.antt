-- `put_fields` meets its contract. Assumes nothing.
use Prim.Native.Nat.{ℕ, ◌+◌}
use mathlib.Core.Path.{ap, ◌∙◌}
use mathlib.Core.List.{List}
use native.Mathlib.Omega.{arith}
use lib.Seq.{sets}
use Rattle.plan.specs.Read.{setting_of}
use Rattle.plan.specs.declared.parse.SetupField.TheVariants.{Shared}
use Rattle.plan_writer.specs.Format.{field_bytes}
use Rattle.plan_writer.proofs.Writing.{lane-least, both_stored, own-stored}
use borrow.Author.Rules.{rules}
use Rattle.plan_writer.proofs.put_fields.Goals as goal

pub put_lane-requires : goal.put_lane-requires
put_lane-requires c =
    let s = c in (omega (arith, s.requires.0, lane-least (setting_of s.args.l)), s.requires.1, s.requires.2, s.requires.3)

pub put_shared-requires : goal.put_shared-requires
put_shared-requires c =
    let s = c in
    (omega (arith, s.requires.0, (both_stored s.args.a.now s.args.at s.args.k (setting_of s.args.l) c.if-l.true).1, c.put_lane.auto.a), s.requires.1)

pub returns-then-l : goal.returns-then-l
returns-then-l c =
    let s = c in
    let b = both_stored s.args.a.now s.args.at s.args.k (setting_of s.args.l) c.if-l.true in
    (c.put_shared.ensures ∙ ap (λ (x : List ℕ). sets x (s.args.at + 8) (field_bytes (Shared s.args.k))) c.put_lane.ensures ∙ b.0, omega (arith, b.1))

pub returns : goal.returns
returns c =
    let s = c in
    let b = own-stored s.args.a.now s.args.at s.args.k (setting_of s.args.l) c.if-l.false in
    (c.put_lane.ensures ∙ b.0, omega (arith, b.1))
