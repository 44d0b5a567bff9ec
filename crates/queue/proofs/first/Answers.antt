use mathlib.Core.Path.{◌≡◌, sym, subst}
use mathlib.Core.Bool.{true}
use Prim.Native.Nat.{◌<◌}
use Rattle.rounds.specs.Good.{GoodShared}
use Rattle.turns.specs.Turns.{named_of, Ordered}
use Rattle.table.specs.Layout.{cells, round_at}
use Rattle.table.specs.Means.{shared_at}
use Rattle.table.specs.declared.LaneRow.{LaneRow}
use Rattle.queue.proofs.Taking.{front-shared, first-item}
use Rattle.queue.proofs.Held.{row-busy}
use Rattle.queue.proofs.first.Goals as goal

pub front-f-requires : goal.front-f-requires
front-f-requires c =
    let s = c in
    let t = s.args.t.now in
    let k = s.args.k in
    let x = subst (λ (l : LaneRow). (0 < l.count) × (l.shared ≡ true → GoodShared l.longest.0 (shared_at (cells t) k) × Ordered (round_at (cells t) k) × (0 < named_of (round_at (cells t) k)))) (sym c.row-l.ensures.0) ((row-busy t k s.requires.0 s.requires.1 s.requires.2 s.requires.3).some, front-shared t k s.requires.0 s.requires.1 s.requires.2 s.requires.3) in
    (s.requires.0.room, s.requires.1, x.0, x.1)

pub returns : goal.returns
returns c =
    let s = c in
    (first-item s.args.t.now s.args.k s.requires.0 s.requires.1 s.requires.2 s.requires.3 c.row-l.result c.front-f.result c.record_at-e.result c.row-l.ensures.0 c.front-f.ensures c.record_at-e.ensures.0, c.record_at-e.ensures.1)
