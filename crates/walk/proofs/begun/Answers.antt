-- `begun` meets its contract. Assumes nothing.
use mathlib.Core.Path.{sym, ap, ◌∙◌}
use native.Mathlib.Omega.{arith}
use borrow.Rule.Slice.PartMut.{same_len_mid}
use Prim.Native.Nat.{◌-◌}
use lib.ListN.{length}
use Rattle.plan.proofs.Accepted.{accepted-plan}
use Rattle.table.specs.Layout.{SIZE}
use Rattle.answers.proofs.Made.{made-fresh}
use Rattle.walk.proofs.Blank.{blank-stored}
use Rattle.walk.proofs.Texts.{refused-is, begun-is}
use borrow.Author.Rules.{rules}
use Rattle.walk.proofs.begun.Goals as goal

pub write-requires : goal.write-requires
write-requires c =
    let s = c in
    let t = s.args.t.now in
    let p = c.set_taken in
    (omega (arith, s.requires.0, same_len_mid SIZE (length t - SIZE) t p.new.p p.auto.p), (accepted-plan c.in-Ok.reading _ _ c.in-Ok.ensures).setup)

pub requested-requires : goal.requested-requires
requested-requires c =
    let s = c in
    let t = s.args.t.now in
    let p = c.set_taken in
    let w = c.write in
    let g = (accepted-plan c.in-Ok.reading _ _ c.in-Ok.ensures).setup in
    (made-fresh _ _ _ g (omega (arith, s.requires.0, w.auto.t, same_len_mid SIZE (length t - SIZE) t p.new.p p.auto.p)) w.ensures, s.requires.1, s.requires.2)

pub returns-in-Err : goal.returns-in-Err
returns-in-Err c =
    let s = c in
    refused-is s.args.s.now s.args.limit c.in-Err.x (sym c.in-Err.ensures) c.put_no-written.ensures (omega (arith, s.requires.2))

pub shape_of-t : goal.shape_of-t
shape_of-t c =
    let t = c.args.t.now in
    let p = c.set_taken in
    c.requested.auto.t ∙ c.write.auto.t ∙ same_len_mid SIZE (length t - SIZE) t p.new.p p.auto.p

pub returns-in-Ok : goal.returns-in-Ok
returns-in-Ok c =
    let s = c in
    let t = s.args.t.now in
    let p = c.set_taken in
    let w = c.write in
    let q = c.requested in
    begun-is s.args.s.now s.args.limit _ _ _ _ (sym c.in-Ok.ensures)
    (omega (arith, s.requires.0, q.auto.t, w.auto.t, same_len_mid SIZE (length t - SIZE) t p.new.p p.auto.p)) (blank-stored t p.new.p s.requires.0 p.ensures) w.ensures q.ensures
