-- `wake` meets its contract. Assumes nothing.
use Rattle.table.specs.Means.{meant}
use Rattle.queue.specs.Queue.{waiting}
use Rattle.queue.proofs.Pacing.{Wakes, row-numbers, Paced, paced-here, sound-here, wakes-here, wake-whole, wake-group}
use Rattle.queue.proofs.wake.Goals as goal

-- ---- what is known at a place of the code
-- ---- the needs
pub pace_of-p-requires : goal.pace_of-p-requires
pace_of-p-requires c =
    let wakes : Wakes (meant c.args.t.now) c.args.k c.args.start.0 (waiting c.args.e) = let q = c.requires in record { good = q.2; enters = q.3; weight = q.4; idle = q.5; start = q.6 } in
    let s = c in row-numbers s.args.t.now s.args.k _ _ s.requires.0 s.requires.1 wakes c.row.result c.row.ensures.0

pub begin-requires : goal.begin-requires
begin-requires c =
    let wakes : Wakes (meant c.args.t.now) c.args.k c.args.start.0 (waiting c.args.e) = let q = c.requires in record { good = q.2; enters = q.3; weight = q.4; idle = q.5; start = q.6 } in
    let stored : Paced c.args.t.now c.args.k c.args.start.0 (waiting c.args.e) c.set_pace.new.t = let s = c in
    let r = c.row in
    let p = c.pace_of-p in
    let set = c.set_pace in
    record {
      sound = s.requires.0;
      small = s.requires.1;
      wakes = wakes;
      row = r.result;
      row_is = r.ensures.0;
      pace = p.result;
      paces = p.ensures.0;
      rate = p.ensures.1;
      high = p.ensures.3;
      size = set.auto.t;
      now = set.ensures;
    } in
    let a = stored in let w = wakes-here a in (sound-here a, a.small, w.good, w.enters, w.weight, w.idle, w.start, paced-here a)

pub returns : goal.returns
returns c =
    let wakes : Wakes (meant c.args.t.now) c.args.k c.args.start.0 (waiting c.args.e) = let q = c.requires in record { good = q.2; enters = q.3; weight = q.4; idle = q.5; start = q.6 } in
    let stored : Paced c.args.t.now c.args.k c.args.start.0 (waiting c.args.e) c.set_pace.new.t = let s = c in
    let r = c.row in
    let p = c.pace_of-p in
    let set = c.set_pace in
    record {
      sound = s.requires.0;
      small = s.requires.1;
      wakes = wakes;
      row = r.result;
      row_is = r.ensures.0;
      pace = p.result;
      paces = p.ensures.0;
      rate = p.ensures.1;
      high = p.ensures.3;
      size = set.auto.t;
      now = set.ensures;
    } in
    let a = stored in
    (wake-whole a _ c.begin.ensures, wake-group a, c.pace_of-p.ensures.2, a.high)
