use mathlib.Core.Path.{◌≡◌, sym, subst}
use mathlib.Core.Bool.{true}
use Prim.Native.Nat.{◌≤◌, ◌<◌}
use native.Mathlib.Omega.{arith}
use Rattle.rules.specs.State.{lane_at, lane_depth}
use Rattle.rules.specs.Calls.{woken}
use Rattle.table.specs.Layout.{Now, cells, put_row}
use Rattle.table.specs.Means.{meant, Leaves, with_lane}
use Rattle.table.specs.declared.LaneRow.{LaneRow}
use Rattle.table.proofs.Rows.{retimed}
use Rattle.queue.specs.Queue.{waiting, Cleared, Entered}
use Rattle.queue.proofs.Waking.{wake-joins, wake-none, wake-train, wake-leaves}
use Rattle.queue.proofs.begin.Goals as goal

pub clear-requires : goal.clear-requires
clear-requires c =
    let s = c in
    let t = s.args.t.now in
    let k = s.args.k in
    let e = s.args.e in
    let r = c.row-l in
    let j = wake-joins t t t t k s.args.start.0 e s.requires.0 s.requires.1 s.requires.2 s.requires.3 s.requires.4 s.requires.5 s.requires.6 s.requires.7 in
    (s.requires.0.room, s.requires.1, subst (λ (l : LaneRow). 0 < l.longest.0) (sym r.ensures.0) (omega (arith, j.enters.some_bytes, j.enters.fits)))

pub enter-requires : goal.enter-requires
enter-requires c =
    let s = c in
    let t = s.args.t.now in
    let k = s.args.k in
    let e = s.args.e in
    let r = c.row-l in
    let j = wake-joins t t t t k s.args.start.0 e s.requires.0 s.requires.1 s.requires.2 s.requires.3 s.requires.4 s.requires.5 s.requires.6 s.requires.7 in
    let x = subst (λ (l : LaneRow). (l.count < lane_depth) × (l.longest.0 ≤ 1500) × (e.length.0 ≤ l.longest.0) × (l.shared ≡ true → e.train < 8)) (sym r.ensures.0) (omega (arith, wake-none t t t t k s.args.start.0 e s.requires.0 s.requires.1 s.requires.2 s.requires.3 s.requires.4 s.requires.5 s.requires.6 s.requires.7), j.here.agrees.numbers.longest_high, j.enters.fits, wake-train t t t t k s.args.start.0 e s.requires.0 s.requires.1 s.requires.2 s.requires.3 s.requires.4 s.requires.5 s.requires.6 s.requires.7) in
    (omega (arith, c.clear.auto.t, s.requires.0.room), s.requires.1, r.ensures.1, x.0, x.1, j.enters.some_bytes, x.2, (λ q. c.clear.ensures.ready q e.train (x.3 q)))

pub returns : goal.returns
returns c =
    let s = c in
    let t = s.args.t.now in
    let k = s.args.k in
    let e = s.args.e in
    let r = c.row-l in
    let t₀ = c.clear.new.t in
    let t₁ = c.enter.new.t in
    let t₂ = c.set_row.new.t in
    let x = s.args.start.0 in
    subst (λ (l : LaneRow). l.head < lane_depth → Cleared t t₀ k l → Entered t₀ t₁ k l e → Now t₁ t₂ (put_row (cells t₁) k (retimed l x l.head 1)) → Leaves t t₂ (with_lane (meant t) k (woken (meant t).clock (lane_at (meant t) k) (waiting e)))) (sym r.ensures.0) (wake-leaves t t₀ t₁ t₂ k x e s.requires.0 s.requires.1 s.requires.2 s.requires.3 s.requires.4 s.requires.5 s.requires.6 s.requires.7) r.ensures.1 c.clear.ensures c.enter.ensures c.set_row.ensures
