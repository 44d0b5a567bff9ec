use mathlib.Core.Path.{◌≡◌, refl}
use mathlib.Core.Bool.{true, false}
use native.Mathlib.Omega.{arith}
use Rattle.table.specs.Layout.{cells}
use Rattle.table.proofs.Stores.{now-then}
use Rattle.queue.proofs.Taking.{turn_below}
use Rattle.queue.proofs.Turning.{hands-of, next_of, hand-ready, both-now, turned_same, turned-fits, turned-begun}
use borrow.Author.Rules.{rules}
use Rattle.queue.proofs.turn.Goals as goal

pub train-number-requires : goal.train-number-requires
train-number-requires c =
    let s = c in
    let ch = s.requires.3 in
    (s.requires.0, s.requires.1, turn_below (cells s.args.t.now) s.args.k s.args.longest _ ch.good ch.ordered ch.named c.round-r.ensures)

pub hand_out-c-requires : goal.hand_out-c-requires
hand_out-c-requires c =
    let s = c in
    let t = s.args.t.now in
    let k = s.args.k in
    let L = s.args.longest in
    let ch = s.requires.3 in
    let r = c.round-r in
    let n = c.train-number in
    hand-ready (cells t) k L s.args.length r.result n.result ch s.requires.2 r.ensures n.ensures.0

pub set_train-requires : goal.set_train-requires
set_train-requires c =
    let s = c in
    let t = s.args.t.now in
    let k = s.args.k in
    let L = s.args.longest in
    let ch = s.requires.3 in
    let r = c.round-r in
    (s.requires.0, s.requires.1, turn_below (cells t) k L _ ch.good ch.ordered ch.named r.ensures, omega (arith, c.hand_out-c.ensures.small))

pub set_train-requires-then-c : goal.set_train-requires-then-c
set_train-requires-then-c c =
    let s = c in
    let t = s.args.t.now in
    let k = s.args.k in
    let L = s.args.longest in
    let ch = s.requires.3 in
    let r = c.round-r in
    let n = c.train-number in
    let next = c.record_at-next in
    let h = c.hand_out-c in
    let hands = hands-of (cells t) k s.args.length next.result.length.0 h.result r.result n.result r.ensures n.ensures.0 h.ensures in
    let behind = next_of (cells t) k r.result n.result next.result _ r.ensures n.ensures.0 next.ensures.0 (omega arith) in
    let begins : h.result.begins ≡ true = search rules in
    let a = both-now t _ k r.result h.result.train h.result.round r.ensures (now-then _ _ _ c.set_train.ensures c.set_round.ensures) in
    (omega (arith, c.set_round.auto.t, c.set_train.auto.t, s.requires.0), s.requires.1, h.ensures.turn begins, turned-fits t _ k L s.args.length next.result.length.0 h.result s.requires.1 s.requires.2 ch behind hands a _ _ begins refl c.train.ensures.0)

pub returns-then-c : goal.returns-then-c
returns-then-c c =
    let s = c in
    let t = s.args.t.now in
    let k = s.args.k in
    let L = s.args.longest in
    let ch = s.requires.3 in
    let r = c.round-r in
    let n = c.train-number in
    let next = c.record_at-next in
    let h = c.hand_out-c in
    let hands = hands-of (cells t) k s.args.length next.result.length.0 h.result r.result n.result r.ensures n.ensures.0 h.ensures in
    let behind = next_of (cells t) k r.result n.result next.result _ r.ensures n.ensures.0 next.ensures.0 (omega arith) in
    let begins : h.result.begins ≡ true = search rules in
    let a = both-now t _ k r.result h.result.train h.result.round r.ensures (now-then _ _ _ c.set_train.ensures c.set_round.ensures) in
    turned-begun t _ k L s.args.length next.result.length.0 h.result s.requires.1 s.requires.2 ch behind hands a _ _ begins refl c.train.ensures.0 _ c.set_train-then-c.ensures

pub returns-else-c : goal.returns-else-c
returns-else-c c =
    let s = c in
    let t = s.args.t.now in
    let k = s.args.k in
    let L = s.args.longest in
    let ch = s.requires.3 in
    let r = c.round-r in
    let n = c.train-number in
    let next = c.record_at-next in
    let h = c.hand_out-c in
    let hands = hands-of (cells t) k s.args.length next.result.length.0 h.result r.result n.result r.ensures n.ensures.0 h.ensures in
    let behind = next_of (cells t) k r.result n.result next.result _ r.ensures n.ensures.0 next.ensures.0 (omega arith) in
    let stays : h.result.begins ≡ false = search rules in
    let a = both-now t _ k r.result h.result.train h.result.round r.ensures (now-then _ _ _ c.set_train.ensures c.set_round.ensures) in
    turned_same t _ k L s.args.length next.result.length.0 h.result s.requires.1 s.requires.2 ch behind hands a stays
