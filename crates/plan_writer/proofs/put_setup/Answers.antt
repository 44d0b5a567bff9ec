-- `put_setup` meets its contract. Assumes nothing.
use Prim.Native.Nat.{ℕ, ◌+◌}
use lib.ListN.{length}
use lib.Seq.{sets}
use mathlib.Core.List.{List, map}
use mathlib.Core.Path.{ap, ◌∙◌}
use native.Mathlib.Omega.{arith}
use Rattle.rules.specs.State.{setting_at}
use Rattle.plan.specs.Read.{setting_of}
use Rattle.plan.specs.declared.parse.SetupField.TheVariants.{End}
use Rattle.plan_writer.specs.Format.{field_bytes}
use Rattle.plan_writer.specs.Write.{framing_bytes, lanes_bytes, numbered}
use Rattle.plan_writer.proofs.Framing.{fitting-each}
use Rattle.plan_writer.proofs.Lanes.{fields-size}
use Rattle.plan_writer.proofs.Writing.{stored}
use borrow.Author.Rules.{rules}
use Rattle.plan_writer.proofs.put_setup.Goals as goal

pub put_framing-first-requires : goal.put_framing-first-requires
put_framing-first-requires c =
    let s = c in (omega (arith, c.put_format.auto.a, s.requires.2), s.requires.1)

pub put_lanes-next-requires : goal.put_lanes-next-requires
put_lanes-next-requires c =
    let s = c in
    let gs = numbered (map setting_of s.args.lanes) in
    let f = c.put_framing-first in
    (λ k. fitting-each s.args.h (setting_at gs k) (s.requires.0 k), omega (arith, c.put_format.auto.a, f.auto.a, f.ensures.1, s.requires.2, fields-size s.args.h gs s.requires.0 0))

pub put_end-requires : goal.put_end-requires
put_end-requires c =
    let s = c in
    let gs = numbered (map setting_of s.args.lanes) in
    let f = c.put_framing-first in
    let p = c.put_lanes-next in
    omega (arith, c.put_format.auto.a, f.auto.a, f.ensures.1, p.auto.a, p.ensures.1, s.requires.2, fields-size s.args.h gs s.requires.0 0)

pub returns : goal.returns
returns c =
    let s = c in
    let h = s.args.h in
    let gs = numbered (map setting_of s.args.lanes) in
    let f = c.put_framing-first in
    let p = c.put_lanes-next in
    c.put_end.ensures
    ∙ ap (λ (i : ℕ). sets p.new.a i (field_bytes End)) p.ensures.1
    ∙ ap (λ (x : List ℕ). sets x (f.result + length (lanes_bytes 0 gs)) (field_bytes End))
    (p.ensures.0 ∙ ap (λ (x : List ℕ). sets x f.result (lanes_bytes 0 gs)) (f.ensures.0 ∙ ap (λ (x : List ℕ). sets x 5 (framing_bytes h)) c.put_format.ensures))
    ∙ stored s.args.a.now s.args.format h gs f.result f.ensures.1
