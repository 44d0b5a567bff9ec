-- `put_first` meets its contract. Assumes nothing.
use mathlib.Core.Path.{sym, ◌∙◌}
use native.Mathlib.Omega.{arith}
use Rattle.table.specs.Means.{meant}
use Rattle.table.proofs.Lists.{groups-stay}
use Rattle.engine.proofs.Ends.{known-holds}
use Rattle.engine.proofs.Putting.{small, weight, idle-t, lane-good, lane-enters, row, start_is, start_small, solid-after, room_after, sound₂, put-beside, put_alone}
use borrow.Author.Rules.{rules}
use Rattle.units.proofs.Compare.{later-is}
use Rattle.engine.proofs.put_first.Goals as goal

pub row-l-requires : goal.row-l-requires
row-l-requires c =
    let p = c.requires in
    (omega (arith, p.0.sound.room), small _ (meant _) (known-holds _ p.0) p.0.good _ c.args.e p.1 p.2)

pub wake-group-requires : goal.wake-group-requires
wake-group-requires c =
    let p = c.requires in
    let e = c.args.e in
    (p.0.sound, small _ (meant _) (known-holds _ p.0) p.0.good _ e p.1 p.2, lane-good _ (meant _) (known-holds _ p.0) p.0.good _ e p.1 p.2, lane-enters _ (meant _) (known-holds _ p.0) p.0.good _ e p.1 p.2, weight _ (meant _) (known-holds _ p.0) p.0.good _ e p.1 p.2, idle-t _ (meant _) (known-holds _ p.0) p.0.good _ e p.1 p.2, start_is _ (meant _) (known-holds _ p.0) p.0.good _ e p.1 p.2 _ c.row-l.ensures.0 _ _ c.clock-v.ensures (later-is c.row-l.result.time c.clock-v.result c.max-start.ensures))

pub add-requires : goal.add-requires
add-requires c =
    let p = c.requires in
    let e = c.args.e in
    let w = c.wake-group.ensures in
    let ey = start_is _ (meant _) (known-holds _ p.0) p.0.good _ e p.1 p.2 _ c.row-l.ensures.0 _ _ c.clock-v.ensures (later-is c.row-l.result.time c.clock-v.result c.max-start.ensures) in (
      omega (arith, c.wake-group.auto.t, p.0.sound.room),
      solid-after _ (meant _) (known-holds _ p.0) p.0.good _ e p.1 p.2 _ c.wake-group.auto.t c.wake-group.ensures.0,
      c.word-groups.ensures ∙ sym (groups-stay _ _ c.wake-group.ensures.0.rest),
      w.2,
      w.3,
      start_small _ (meant _) (known-holds _ p.0) p.0.good _ e p.1 p.2 _ ey,
      omega (arith, small _ (meant _) (known-holds _ p.0) p.0.good _ e p.1 p.2),
      room_after _ (meant _) (known-holds _ p.0) p.0.good _ e p.1 p.2 _ c.wake-group.auto.t c.wake-group.ensures.0 _ _ w.2 w.3 (omega arith),
    )

pub rounded_start-requires : goal.rounded_start-requires
rounded_start-requires c = c.wake-group.ensures.3

pub set_clock-requires : goal.set_clock-requires
set_clock-requires c =
    let p = c.requires in
    let e = c.args.e in
    sound₂ _ (meant _) (known-holds _ p.0) p.0.good _ e p.1 p.2 _ c.wake-group.auto.t c.wake-group.ensures.0 _ c.add.auto.t _ c.row-l.ensures.0 _ (start_is _ (meant _) (known-holds _ p.0) p.0.good _ e p.1 p.2 _ c.row-l.ensures.0 _ _ c.clock-v.ensures (later-is c.row-l.result.time c.clock-v.result c.max-start.ensures)) _ (c.wake-group.ensures.1, c.wake-group.ensures.2, c.wake-group.ensures.3) c.add.ensures

pub returns-then-groups-eq0 : goal.returns-then-groups-eq0
returns-then-groups-eq0 c =
    let e = c.args.e in
    let p = c.requires in
    put_alone _ (meant _) (known-holds _ p.0) p.0.good _ e p.1 p.2 _ c.wake-group.auto.t c.wake-group.ensures.0 _ c.add.auto.t _ c.row-l.ensures.0 _ (start_is _ (meant _) (known-holds _ p.0) p.0.good _ e p.1 p.2 _ c.row-l.ensures.0 _ _ c.clock-v.ensures (later-is c.row-l.result.time c.clock-v.result c.max-start.ensures)) _ (c.wake-group.ensures.1, c.wake-group.ensures.2, c.wake-group.ensures.3) c.add.ensures _ _ _ c.set_clock.auto.t (sym c.word-groups.ensures ∙ c.if-groups-eq0.true) (later-is c.clock-v.result c.rounded_start.result c.max.ensures ∙ rw c.rounded_start.ensures.0) c.clock-v.ensures c.set_clock.ensures

pub returns-else-groups-eq0 : goal.returns-else-groups-eq0
returns-else-groups-eq0 c =
    let e = c.args.e in
    let p = c.requires in
    put-beside _ (meant _) (known-holds _ p.0) p.0.good _ e p.1 p.2 _ c.wake-group.auto.t c.wake-group.ensures.0 _ c.add.auto.t _ c.row-l.ensures.0 _ (start_is _ (meant _) (known-holds _ p.0) p.0.good _ e p.1 p.2 _ c.row-l.ensures.0 _ _ c.clock-v.ensures (later-is c.row-l.result.time c.clock-v.result c.max-start.ensures)) _ (c.wake-group.ensures.1, c.wake-group.ensures.2, c.wake-group.ensures.3) c.add.ensures (λ z. c.if-groups-eq0.false (c.word-groups.ensures ∙ z))
