use mathlib.Core.Path.{◌≡◌, sym, ap, subst, ◌∙◌}
use mathlib.Core.Bool.{true, false}
use Prim.Native.Nat.{ℕ, ◌+◌, ◌-◌, ◌*◌, ◌%◌, ◌^◌, ◌≤◌, ◌<◌}
use native.Mathlib.Omega.{arith}
use Rattle.rules.specs.State.{lane_at, lane_depth}
use Rattle.table.specs.Layout.{Now, cells, put_row}
use Rattle.table.specs.Means.{meant}
use Rattle.table.specs.declared.LaneRow.{LaneRow}
use Rattle.table.proofs.Rows.{retimed}
use Rattle.queue.specs.Queue.{Takes, Chosen, Turned}
use Rattle.queue.proofs.Taking.{take-room, take-rate, finish-row, take-chosen, take-plain, take-shared}
use borrow.Author.Rules.{rules}
use Rattle.queue.proofs.Held.{row-busy}
use Rattle.queue.proofs.take_first.Goals as goal

pub charged-requires : goal.charged-requires
charged-requires c =
    let s = c in
    let t = s.args.t.now in
    let k = s.args.k in
    let r = c.row-l in
    let f = c.first-e in
    (subst (λ (l : LaneRow). l.framing.0 ≤ 64) (sym r.ensures.0) (row-busy t k s.requires.0 s.requires.1 s.requires.2 s.requires.3).here.agrees.framing, omega (arith, f.ensures.1))

pub lane_charge-requires : goal.lane_charge-requires
lane_charge-requires c =
    let s = c in
    let t = s.args.t.now in
    let k = s.args.k in
    let r = c.row-l in
    let f = c.first-e in
    (omega (arith, c.charged.ensures.1, f.ensures.1), subst (λ (l : LaneRow). l.rate.0 ≤ 2 ^ 20) (sym r.ensures.0) (take-rate t k s.requires.0 s.requires.1 s.requires.2 s.requires.3))

pub add-finish-requires : goal.add-finish-requires
add-finish-requires c =
    let s = c in
    let t = s.args.t.now in
    let k = s.args.k in
    let r = c.row-l in
    let f = c.first-e in
    let same : r.result.time.0 + c.lane_charge.result.0 ≡ (lane_at (meant t) k).finish = ap (λ (x : ℕ). r.result.time.0 + x) (c.lane_charge.ensures ∙ ap (λ (x : ℕ). x * r.result.rate.0) c.charged.ensures.0) ∙ finish-row t k s.requires.0 s.requires.1 s.requires.2 s.requires.3 f.result f.ensures.0 r.result r.ensures.0 in
    rw same s.requires.4

pub overflow_sub-next : goal.overflow_sub-next
overflow_sub-next c =
    let s = c in
    let t = s.args.t.now in
    let k = s.args.k in
    let r = c.row-l in
    let f = c.first-e in
    omega (arith, subst (λ (l : LaneRow). 0 < l.count) (sym r.ensures.0) (row-busy t k s.requires.0 s.requires.1 s.requires.2 s.requires.3).some)

pub turn-requires : goal.turn-requires
turn-requires c =
    let s = c in
    let t = s.args.t.now in
    let k = s.args.k in
    let r = c.row-l in
    let f = c.first-e in
    let kind : r.result.shared ≡ true = search rules in
    let y = subst (λ (l : LaneRow). (l.longest.0 ≤ 1500) × (l.shared ≡ true → Chosen (cells t) k l.longest.0 f.result.length.0)) (sym r.ensures.0) ((row-busy t k s.requires.0 s.requires.1 s.requires.2 s.requires.3).here.agrees.numbers.longest_high, take-chosen t k s.requires.0 s.requires.1 s.requires.2 s.requires.3 f.result f.ensures.0) in
    (s.requires.0.room, s.requires.1, y.0, y.1 kind)

pub set_row-requires : goal.set_row-requires
set_row-requires c =
    let s = c in
    let t = s.args.t.now in
    let k = s.args.k in
    let r = c.row-l in
    let f = c.first-e in
    (omega (arith, c.turn.auto.t, s.requires.0.room), s.requires.1, r.ensures.1, omega (arith, subst (λ (l : LaneRow). l.count ≤ lane_depth) (sym r.ensures.0) (take-room t k s.requires.0 s.requires.1 s.requires.2 s.requires.3)))

pub set_row-requires-2 : goal.set_row-requires-2
set_row-requires-2 c =
    let s = c in
    let t = s.args.t.now in
    let k = s.args.k in
    let r = c.row-l in
    let f = c.first-e in
    (s.requires.0.room, s.requires.1, omega arith, omega (arith, subst (λ (l : LaneRow). l.count ≤ lane_depth) (sym r.ensures.0) (take-room t k s.requires.0 s.requires.1 s.requires.2 s.requires.3)))

pub returns-then-l : goal.returns-then-l
returns-then-l c =
    let s = c in
    let t = s.args.t.now in
    let k = s.args.k in
    let r = c.row-l in
    let f = c.first-e in
    let x = c.add-finish in
    let same : x.result.0 ≡ (lane_at (meant t) k).finish = x.ensures ∙ ap (λ (y : ℕ). r.result.time.0 + y) (c.lane_charge.ensures ∙ ap (λ (y : ℕ). y * r.result.rate.0) c.charged.ensures.0) ∙ finish-row t k s.requires.0 s.requires.1 s.requires.2 s.requires.3 f.result f.ensures.0 r.result r.ensures.0 in
    let kind : r.result.shared ≡ true = search rules in
    let t₁ = c.turn.new.t in
    let t₂ = c.set_row.new.t in
    subst (λ (l : LaneRow). l.head < lane_depth → l.shared ≡ true → Turned t t₁ k l.longest.0 → Now t₁ t₂ (put_row (cells t₁) k (retimed l x.result.0 l.head (l.count - 1))) → Takes t t₂ k f.result) (sym r.ensures.0) (take-shared t k s.requires.0 s.requires.1 s.requires.2 s.requires.3 f.result f.ensures.0 t₁ t₂ x.result.0 same) r.ensures.1 kind c.turn.ensures c.set_row.ensures

pub returns : goal.returns
returns c =
    let s = c in
    let t = s.args.t.now in
    let k = s.args.k in
    let r = c.row-l in
    let f = c.first-e in
    let x = c.add-finish in
    let same : x.result.0 ≡ (lane_at (meant t) k).finish = x.ensures ∙ ap (λ (y : ℕ). r.result.time.0 + y) (c.lane_charge.ensures ∙ ap (λ (y : ℕ). y * r.result.rate.0) c.charged.ensures.0) ∙ finish-row t k s.requires.0 s.requires.1 s.requires.2 s.requires.3 f.result f.ensures.0 r.result r.ensures.0 in
    let kind : r.result.shared ≡ false = search rules in
    let t₁ = c.set_row-2.new.t in
    subst (λ (l : LaneRow). l.shared ≡ false → Now t t₁ (put_row (cells t) k (retimed l x.result.0 ((l.head + 1) % lane_depth) (l.count - 1))) → Takes t t₁ k f.result) (sym r.ensures.0) (take-plain t k s.requires.0 s.requires.1 s.requires.2 s.requires.3 f.result f.ensures.0 t₁ x.result.0 same) kind c.set_row-2.ensures
