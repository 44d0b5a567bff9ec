-- `put_lag` meets its contract. Assumes nothing.
use mathlib.Core.Bool.{false}
use Prim.Native.Nat.{◌<◌}
use mathlib.Core.List.{[], ◌∷◌, ◌++◌}
use native.Mathlib.Omega.{arith}
use lib.ListN.{length}
use mir.Syntax.{w64}
use mir.ValLaws.{to_z-of_z}
use Rattle.text.specs.Decimal.{signed}
use Rattle.text.proofs.Signed.{signed-most}
use Rattle.rules.specs.Calls.{lagged}
use Rattle.lines.proofs.Most.{line-most}
use Rattle.lines.specs.Line.{lag_word, Wrote}
use Rattle.lines.proofs.Writing.{wrote-both, wrote-byte}
use Rattle.lines.proofs.put_lag.Goals as goal

pub put_signed-p-requires : goal.put_signed-p-requires
put_signed-p-requires c =
    let s = c in
    let w = c.put_word-p in
    rw (to_z-of_z w64 s.args.z s.ranges.z) (omega (arith, s.requires, w.ensures.1, w.auto.a, signed-most s.args.z s.ranges.z))

pub bounds-a-p : goal.bounds-a-p
bounds-a-p c =
    let number : Wrote c.args.a.now c.put_signed-p.new.a c.args.at (lag_word ++ signed c.args.z) c.put_signed-p.result = let s = c in
    let w = c.put_word-p.ensures in
    let n = rw (to_z-of_z w64 s.args.z s.ranges.z) at c.put_signed-p.ensures in
    wrote-both lag_word (signed s.args.z) (record { is = w.0; past = w.1 }) (record { is = n.0; past = n.1 }) in
    let feed : c.put_signed-p.result < length c.put_signed-p.new.a = let s = c in
    omega (arith, s.requires, number.past, signed-most s.args.z s.ranges.z, c.put_signed-p.auto.a, c.put_word-p.auto.a) in
    feed

pub overflow_add-result : goal.overflow_add-result
overflow_add-result c =
    let number : Wrote c.args.a.now c.put_signed-p.new.a c.args.at (lag_word ++ signed c.args.z) c.put_signed-p.result = let s = c in
    let w = c.put_word-p.ensures in
    let n = rw (to_z-of_z w64 s.args.z s.ranges.z) at c.put_signed-p.ensures in
    wrote-both lag_word (signed s.args.z) (record { is = w.0; past = w.1 }) (record { is = n.0; past = n.1 }) in
    let feed : c.put_signed-p.result < length c.put_signed-p.new.a = let s = c in
    omega (arith, s.requires, number.past, signed-most s.args.z s.ranges.z, c.put_signed-p.auto.a, c.put_word-p.auto.a) in
    omega (arith, feed)

pub returns : goal.returns
returns c =
    let number : Wrote c.args.a.now c.put_signed-p.new.a c.args.at (lag_word ++ signed c.args.z) c.put_signed-p.result = let s = c in
    let w = c.put_word-p.ensures in
    let n = rw (to_z-of_z w64 s.args.z s.ranges.z) at c.put_signed-p.ensures in
    wrote-both lag_word (signed s.args.z) (record { is = w.0; past = w.1 }) (record { is = n.0; past = n.1 }) in
    let s = c in
    record { wrote = wrote-both (lag_word ++ signed s.args.z) (10 ∷ []) number (wrote-byte _ _ _); most = line-most false (lagged s.args.z) s.ranges.z }
