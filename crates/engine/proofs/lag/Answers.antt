-- `lag` meets its contract. Assumes nothing.
use mathlib.Core.Path.{refl, sym, ap, ◌∙◌}
use native.Mathlib.Nat.{pos_of_ne-zero}
use native.Mathlib.Omega.{arith}
use mir.Syntax.{w64}
use mir.ValLaws.{to_z-of_z}
use borrow.Author.Tests.{not-true}
use Rattle.rules.specs.State.{Lane, lane_at}
use Rattle.rules.specs.Calls.{lag}
use Rattle.rules.specs.declared.Refusal.TheVariants.{NoLane}
use Rattle.table.specs.Means.{meant}
use Rattle.choice.proofs.Held.{start_small}
use Rattle.engine.proofs.RowIs.{RowIs, row-weighs, read-row, absent-lane, far-lane, count-idle, count-holds}
use Rattle.engine.proofs.Replies.{refusal-says, lag-none, lag-busy, lag-idle, idle-small}
use borrow.Author.Rules.{rules}
use mathlib.Core.Bool.{not}
use Rattle.units.proofs.Compare.{later-is}
use Rattle.engine.proofs.lag.Goals as goal

pub returns-then-k-ge64 : goal.returns-then-k-ge64
returns-then-k-ge64 c =
    let s = c in
    refusal-says (lag _) s.args.t.now NoLane refl (lag-none (meant s.args.t.now) s.args.lane (ap (λ (l : Lane). l.given.weight) (far-lane s.args.t.now s.args.lane c.if-k-ge64.true)))

pub returns-then-not-present : goal.returns-then-not-present
returns-then-not-present c =
    let s = c in
    refusal-says (lag _) s.args.t.now NoLane refl
    (lag-none (meant s.args.t.now) s.args.lane
    (ap (λ (l : Lane). l.given.weight) (absent-lane s.args.t.now s.args.lane c.if-k-ge64.false (sym c.present.ensures ∙ not-true c.present.result (ap not c.if-not-present.true)))))

pub difference-requires : goal.difference-requires
difference-requires c =
    let row-known : RowIs (lane_at (meant c.args.t.now) c.args.lane) c.row-l.result = let s = c in
    read-row s.args.t.now s.requires.sound s.args.lane c.if-k-ge64.false c.present.ensures (ap not c.if-not-present.false) _ c.row-l.ensures.0 in
    let a = c in
    let s = a in
    let v = c.clock-v.ensures in
    let idle = count-idle (lane_at (meant s.args.t.now) s.args.lane) (s.requires.good.waiting s.args.lane) (row-known.held ∙ c.if-l-eq0.true) in
    (omega (arith, v, s.requires.good.clock), omega (arith, (later-is c.row-l.result.time c.clock-v.result c.max.ensures), v, s.requires.good.clock, row-known.idle idle, idle-small (meant s.args.t.now) s.args.lane s.requires.good idle))

pub returns-then-l-eq0 : goal.returns-then-l-eq0
returns-then-l-eq0 c =
    let row-known : RowIs (lane_at (meant c.args.t.now) c.args.lane) c.row-l.result = let s = c in
    read-row s.args.t.now s.requires.sound s.args.lane c.if-k-ge64.false c.present.ensures (ap not c.if-not-present.false) _ c.row-l.ensures.0 in
    let a = c in
    let s = a in
    let idle = count-idle (lane_at (meant s.args.t.now) s.args.lane) (s.requires.good.waiting s.args.lane) (row-known.held ∙ c.if-l-eq0.true) in
    lag-idle _ _ (row-weighs _ _ row-known) idle _ (to_z-of_z w64 c.difference.result (record { sfits = c.difference.type_inv }) ∙ c.difference.ensures ∙ rw ((later-is c.row-l.result.time c.clock-v.result c.max.ensures), c.clock-v.ensures, row-known.idle idle))

pub difference-requires-2 : goal.difference-requires-2
difference-requires-2 c =
    let row-known : RowIs (lane_at (meant c.args.t.now) c.args.lane) c.row-l.result = let s = c in
    read-row s.args.t.now s.requires.sound s.args.lane c.if-k-ge64.false c.present.ensures (ap not c.if-not-present.false) _ c.row-l.ensures.0 in
    let a = c in
    let s = a in
    let v = c.clock-v.ensures in
    let busy = count-holds (lane_at (meant s.args.t.now) s.args.lane) _ (s.requires.good.waiting s.args.lane) row-known.held (pos_of_ne-zero c.if-l-eq0.false) in
    let start = start_small (meant s.args.t.now) s.requires.good s.args.lane busy in
    (omega (arith, v, s.requires.good.clock, row-known.busy busy, start), omega (arith, v, s.requires.good.clock, row-known.busy busy, start))

pub returns : goal.returns
returns c =
    let row-known : RowIs (lane_at (meant c.args.t.now) c.args.lane) c.row-l.result = let s = c in
    read-row s.args.t.now s.requires.sound s.args.lane c.if-k-ge64.false c.present.ensures (ap not c.if-not-present.false) _ c.row-l.ensures.0 in
    let a = c in
    let s = a in
    let busy = count-holds (lane_at (meant s.args.t.now) s.args.lane) _ (s.requires.good.waiting s.args.lane) row-known.held (pos_of_ne-zero c.if-l-eq0.false) in
    lag-busy _ _ (row-weighs _ _ row-known) busy _ (to_z-of_z w64 c.difference-2.result (record { sfits = c.difference-2.type_inv }) ∙ c.difference-2.ensures ∙ rw (c.clock-v.ensures, row-known.busy busy))
