use mathlib.Core.Path.{◌≡◌, sym, subst}
use mathlib.Core.Bool.{true}
use Prim.Native.Nat.{◌+◌, ◌≤◌, ◌<◌}
use native.Mathlib.Omega.{arith}
use Rattle.rules.specs.State.{lane_at, lane_depth}
use Rattle.rules.specs.Calls.{appended}
use Rattle.table.specs.Layout.{Now, cells, put_ring}
use Rattle.table.specs.Means.{meant, Leaves, with_lane}
use Rattle.table.specs.declared.LaneRow.{LaneRow}
use Rattle.queue.specs.Queue.{waiting, Ready, Entered}
use Rattle.queue.proofs.Appending.{append-joins, append-room, append-ready, append-leaves}
use Rattle.queue.proofs.append.Goals as goal

pub enter-requires : goal.enter-requires
enter-requires c =
    let s = c in
    let t = s.args.t.now in
    let k = s.args.k in
    let e = s.args.e in
    let r = c.row-l in
    let j = append-joins t t t k e s.requires.0 s.requires.1 s.requires.2 s.requires.3 s.requires.4 in
    let x = subst (λ (l : LaneRow). (l.count < lane_depth) × (l.longest.0 ≤ 1500) × (e.length.0 ≤ l.longest.0) × (l.shared ≡ true → Ready (cells t) k e.train)) (sym r.ensures.0) (append-room t t t k e s.requires.0 s.requires.1 s.requires.2 s.requires.3 s.requires.4, j.here.agrees.numbers.longest_high, j.enters.fits, append-ready t t t k e s.requires.0 s.requires.1 s.requires.2 s.requires.3 s.requires.4) in
    (s.requires.0.room, s.requires.1, r.ensures.1, x.0, x.1, j.enters.some_bytes, x.2, x.3)

pub overflow_add-l : goal.overflow_add-l
overflow_add-l c =
    let s = c in
    let t = s.args.t.now in
    let k = s.args.k in
    let e = s.args.e in
    let r = c.row-l in
    omega (arith, subst (λ (l : LaneRow). l.count < lane_depth) (sym r.ensures.0) (append-room t t t k e s.requires.0 s.requires.1 s.requires.2 s.requires.3 s.requires.4))

pub set_ring-requires : goal.set_ring-requires
set_ring-requires c =
    let s = c in
    let t = s.args.t.now in
    let k = s.args.k in
    let e = s.args.e in
    let r = c.row-l in
    (omega (arith, c.enter.auto.t, s.requires.0.room), s.requires.1, r.ensures.1, omega (arith, subst (λ (l : LaneRow). l.count < lane_depth) (sym r.ensures.0) (append-room t t t k e s.requires.0 s.requires.1 s.requires.2 s.requires.3 s.requires.4)))

pub returns : goal.returns
returns c =
    let s = c in
    let t = s.args.t.now in
    let k = s.args.k in
    let e = s.args.e in
    let r = c.row-l in
    let t₁ = c.enter.new.t in
    let t₂ = c.set_ring.new.t in
    subst (λ (l : LaneRow). l.head < lane_depth → Entered t t₁ k l e → Now t₁ t₂ (put_ring (cells t₁) k l.head (l.count + 1)) → Leaves t t₂ (with_lane (meant t) k (appended (lane_at (meant t) k) (waiting e)))) (sym r.ensures.0) (append-leaves t t₁ t₂ k e s.requires.0 s.requires.1 s.requires.2 s.requires.3 s.requires.4) r.ensures.1 c.enter.ensures c.set_ring.ensures
