-- `serve_lane` meets its contract. Assumes nothing.
use mathlib.Core.Path.{refl, sym, ap, ◌∙◌}
use native.Mathlib.Omega.{arith}
use Rattle.units.specs.declared.Bytes.{Bytes}
use Rattle.table.specs.Means.{meant}
use Rattle.choice.proofs.Held.{start-early}
use Rattle.engine.proofs.RowIs.{row-rate}
use Rattle.engine.proofs.Serving.{lane-holds, lane-small, lane-good, lane-finish, finish-small, lane_row, short, time-is, finish-is, more-is, start-reached}
use Rattle.engine.proofs.ServingLists.{solid-after, some_after, rooms-after, start₁}
use Rattle.engine.proofs.Handing.{sound₂, early₂, start-now, handed, at-chosen}
use borrow.Author.Rules.{rules}
use Rattle.engine.proofs.serve_lane.Goals as goal

pub row-l-requires : goal.row-l-requires
row-l-requires c =
    let ch = c.requires in
    (omega (arith, ch.0.sound.room), lane-small _ (meant _) _ _ _ (at-chosen _ ch.0 _ ch.1))

pub take_first-e-requires : goal.take_first-e-requires
take_first-e-requires c =
    let ch = c.requires in
    let a = at-chosen _ ch.0 _ ch.1 in
    (ch.0.sound, lane-small _ (meant _) _ _ _ a, lane-good _ (meant _) _ _ _ a, lane-holds _ (meant _) _ _ _ a, lane-finish _ (meant _) _ _ _ a)

pub charged-charge-requires : goal.charged-charge-requires
charged-charge-requires c =
    let ch = c.requires in
    let a = at-chosen _ ch.0 _ ch.1 in
    let tk = c.take_first-e in
    ((lane_row _ (meant _) _ _ _ a _ c.row-l.ensures.0).framing, omega (arith, short _ (meant _) _ _ _ a _ _ tk.ensures tk.auto.t))

pub lane_charge-requires : goal.lane_charge-requires
lane_charge-requires c =
    let ch = c.requires in
    let a = at-chosen _ ch.0 _ ch.1 in
    let tk = c.take_first-e in
    (omega (arith, c.charged-charge.ensures.1, short _ (meant _) _ _ _ a _ _ tk.ensures tk.auto.t), row-rate _ _ (lane_row _ (meant _) _ _ _ a _ c.row-l.ensures.0) (lane-holds _ (meant _) _ _ _ a))

pub add-finish-requires : goal.add-finish-requires
add-finish-requires c =
    let ch = c.requires in
    let a = at-chosen _ ch.0 _ ch.1 in
    let tk = c.take_first-e in
    omega (arith, finish-is _ (meant _) _ _ _ a _ _ tk.ensures tk.auto.t _ c.row-l.ensures.0 _ _ c.charged-charge.ensures.0 refl, c.lane_charge.ensures, finish-small _ (meant _) _ _ _ a)

pub refile-r-requires : goal.refile-r-requires
refile-r-requires c =
    let ch = c.requires in
    let a = at-chosen _ ch.0 _ ch.1 in
    let tk = c.take_first-e in
    let ef = finish-is _ (meant _) _ _ _ a _ _ tk.ensures tk.auto.t _ c.row-l.ensures.0 _ _ c.charged-charge.ensures.0 (c.add-finish.ensures ∙ rw c.lane_charge.ensures) in (
      omega (arith, tk.auto.t, ch.0.sound.room),
      solid-after _ (meant _) _ _ _ a _ _ tk.ensures tk.auto.t,
      ch.1.low,
      ch.1.high,
      start₁ _ (meant _) _ _ _ a _ _ tk.ensures tk.auto.t,
      start-early (meant _) ch.0.good _ _ (sym (ch.0.listed.agrees.started _ ch.1.low ch.1.high) ∙ ch.1.start),
      omega (arith, ef, finish-small _ (meant _) _ _ _ a),
      omega (arith, lane-small _ (meant _) _ _ _ a),
      some_after _ (meant _) _ _ _ a _ _ tk.ensures tk.auto.t,
      rooms-after _ (meant _) _ _ _ a _ _ tk.ensures tk.auto.t _ (omega arith),
    )

pub line_charge-requires : goal.line_charge-requires
line_charge-requires c =
    let ch = c.requires in
    let a = at-chosen _ ch.0 _ ch.1 in
    let tk = c.take_first-e in
    omega (arith, c.charged-charge.ensures.1, short _ (meant _) _ _ _ a _ _ tk.ensures tk.auto.t)

pub add-requires : goal.add-requires
add-requires c =
    let ch = c.requires in
    let a = at-chosen _ ch.0 _ ch.1 in
    let tk = c.take_first-e in
    omega (arith, c.line_charge.ensures, c.charged-charge.ensures.1, short _ (meant _) _ _ _ a _ _ tk.ensures tk.auto.t, c.clock-v.ensures, ch.0.good.clock)

pub settle-requires : goal.settle-requires
settle-requires c =
    let ch = c.requires in
    let a = at-chosen _ ch.0 _ ch.1 in
    let tk = c.take_first-e in
    let rf = c.refile-r in
    let er = c.row-l.ensures.0 in
    let ef = finish-is _ (meant _) _ _ _ a _ _ tk.ensures tk.auto.t _ er _ _ c.charged-charge.ensures.0 (c.add-finish.ensures ∙ rw c.lane_charge.ensures) in
    let em = more-is _ (meant _) _ _ _ a _ _ tk.ensures tk.auto.t _ er in (
      sound₂ _ (meant _) _ _ _ a _ _ tk.ensures tk.auto.t _ _ ef _ em rf.auto.t _ rf.ensures,
      rf.ensures.solid,
      early₂ _ (meant _) _ _ _ a _ _ tk.ensures tk.auto.t _ _ ef _ em rf.auto.t _ rf.ensures,
      omega (arith, c.add.ensures, c.line_charge.ensures, c.charged-charge.ensures.1, short _ (meant _) _ _ _ a _ _ tk.ensures tk.auto.t, c.clock-v.ensures, ch.0.good.clock),
      start-now _ (meant _) _ _ _ a _ _ tk.ensures tk.auto.t _ _ ef _ em rf.auto.t _ rf.ensures _ (omega (arith, c.add.ensures, c.clock-v.ensures, start-reached _ (meant _) _ _ _ a)),
    )

pub record_of-requires : goal.record_of-requires
record_of-requires c =
    let ch = c.requires in
    omega (arith, lane-small _ (meant _) _ _ _ (at-chosen _ ch.0 _ ch.1))

pub returns : goal.returns
returns c =
    let ch = c.requires in
    let tk = c.take_first-e in
    let rf = c.refile-r in
    let told = c.record_of.ensures in
    let a = at-chosen _ ch.0 _ ch.1 in
    let er = c.row-l.ensures.0 in
    let ef = finish-is _ (meant _) _ _ _ a _ _ tk.ensures tk.auto.t _ er _ _ c.charged-charge.ensures.0 (c.add-finish.ensures ∙ rw c.lane_charge.ensures) in
    let em = more-is _ (meant _) _ _ _ a _ _ tk.ensures tk.auto.t _ er in
    handed _ _ _ _ a _ _ tk.ensures tk.auto.t _ _ ef _ em rf.auto.t _ rf.ensures _ _ _ c.settle.auto.t
    (time-is _ (meant _) _ _ _ a _ _ tk.ensures tk.auto.t _ er _ _ _ c.clock-v.ensures c.charged-charge.ensures.0 (c.add.ensures ∙ rw c.line_charge.ensures))
    c.settle.ensures told.0 told.1 told.2 (ap (λ (b : Bytes). b.0) told.3)
