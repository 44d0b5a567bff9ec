-- `put_record` meets its contract. Assumes nothing.
use native.Mathlib.Omega.{arith}
use native.Mathlib.Nat.{pos_of_ne-zero}
use mathlib.Core.Path.{◌∙◌}
use Rattle.rules.specs.State.{lane_at}
use Rattle.rules.proofs.Keep.{allowed-enters}
use Rattle.table.specs.Means.{meant}
use Rattle.queue.specs.Queue.{waiting}
use Rattle.engine.proofs.RowIs.{RowIs, count-idle, count-holds}
use Rattle.engine.proofs.Waking.{put_small, put-row}
use Rattle.engine.proofs.Appending.{append-turns}
use borrow.Author.Rules.{rules}
use Rattle.engine.proofs.put_record.Goals as goal

pub row-l-requires : goal.row-l-requires
row-l-requires c =
    let s = c in
    (omega (arith, s.requires.0.sound.room), put_small s.args.t.now s.requires.0 s.args.k (waiting s.args.e) s.requires.1)

pub put_first-requires : goal.put_first-requires
put_first-requires c =
    let s = c in
    let t = s.args.t.now in
    let is : RowIs (lane_at (meant t) s.args.k) c.row-l.result = rw c.row-l.ensures.0 (put-row t s.requires.0 s.args.k (waiting s.args.e) s.requires.1) in
    (s.requires.0, s.requires.1, count-idle (lane_at (meant t) s.args.k) (s.requires.0.good.waiting s.args.k) (is.held ∙ c.if-l-eq0.true))

pub append-requires : goal.append-requires
append-requires c =
    let s = c in
    let t = s.args.t.now in
    let is : RowIs (lane_at (meant t) s.args.k) c.row-l.result = rw c.row-l.ensures.0 (put-row t s.requires.0 s.args.k (waiting s.args.e) s.requires.1) in
    let good = s.requires.0.good.waiting s.args.k in (
      s.requires.0.sound,
      put_small t s.requires.0 s.args.k (waiting s.args.e) s.requires.1,
      good,
      allowed-enters (meant t) s.args.k (waiting s.args.e) s.requires.1,
      count-holds (lane_at (meant t) s.args.k) _ good is.held (pos_of_ne-zero c.if-l-eq0.false),
    )

pub returns-then-l-eq0 : goal.returns-then-l-eq0
returns-then-l-eq0 c = c.put_first.ensures

pub returns-else-l-eq0 : goal.returns-else-l-eq0
returns-else-l-eq0 c =
    let s = c in
    let t = s.args.t.now in
    let is : RowIs (lane_at (meant t) s.args.k) c.row-l.result = rw c.row-l.ensures.0 (put-row t s.requires.0 s.args.k (waiting s.args.e) s.requires.1) in
    append-turns t _ s.args.k (waiting s.args.e) s.requires.0 s.requires.1 (count-holds (lane_at (meant t) s.args.k) _ (s.requires.0.good.waiting s.args.k) is.held (pos_of_ne-zero c.if-l-eq0.false)) c.append.auto.t c.append.ensures
