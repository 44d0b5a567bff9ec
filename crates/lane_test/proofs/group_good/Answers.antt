use Rattle.lane_test.proofs.Setting.{span, group-is, group-not-small, group-not-large, group-at-most, span_pos}
use Rattle.units.proofs.PerByte.{rate-le}
use Rattle.units.proofs.Compare.{is-before, is-not-before, is-not-after, is-after}
use Rattle.std.proofs.Common.{◌≡◌, ℕ, ◌*◌, ap, ◌∙◌, arith}
use Rattle.lane_test.proofs.group_good.Goals as goal

pub returns-then-index-gt-MOST_GROUP : goal.returns-then-index-gt-MOST_GROUP
returns-then-index-gt-MOST_GROUP c = λ same. omega (arith, group-at-most c.args.l c.requires.2 c.requires.1 c.requires.5 same, c.if-index-gt-MOST_GROUP.true)

pub lane_charge-span-requires : goal.lane_charge-span-requires
lane_charge-span-requires c = (omega (arith, c.charged.ensures.1, c.requires.1), omega (arith, c.requires.2, rate-le c.args.l.weight))

pub returns-then-lt : goal.returns-then-lt
returns-then-lt c =
    let wide : c.lane_charge-span.result.0 ≡ span c.args.l = c.lane_charge-span.ensures ∙ ap (λ (x : ℕ). x * c.args.l.rate.0) c.charged.ensures.0 in
    let a = c in
    let s = a in
    let l = s.args.l in
    let q = s.requires in
    λ same. group-not-small l q.2 (span_pos l q.2 q.0 q.3 q.4) same (omega (arith, is-before c.slot-slot.result.0 c.lane_charge-span.result.0 c.if-lt.ensures, c.slot-slot.ensures.0, wide))

pub returns-then-le : goal.returns-then-le
returns-then-le c =
    let wide : c.lane_charge-span.result.0 ≡ span c.args.l = c.lane_charge-span.ensures ∙ ap (λ (x : ℕ). x * c.args.l.rate.0) c.charged.ensures.0 in
    let d = c in
    let a = d in
    let s = a in
    let l = s.args.l in
    let q = s.requires in
    λ same.
    group-not-large l q.2 (span_pos l q.2 q.0 q.3 q.4) same
    (omega (arith, is-not-after c.add.result.0 c.slot-slot.result.0 c.if-le.ensures, c.add.ensures, d.slot-slot.ensures.0, wide))

pub returns : goal.returns
returns c =
    let wide : c.lane_charge-span.result.0 ≡ span c.args.l = c.lane_charge-span.ensures ∙ ap (λ (x : ℕ). x * c.args.l.rate.0) c.charged.ensures.0 in
    let d = c in
    let a = d in
    let s = a in
    let l = s.args.l in
    let q = s.requires in
    group-is l q.2 (omega (arith, is-not-before c.slot-slot.result.0 c.lane_charge-span.result.0 c.if-lt.ensures, d.slot-slot.ensures.0, wide))
    (omega (arith, is-after c.add.result.0 c.slot-slot.result.0 c.if-le.ensures, c.add.ensures, d.slot-slot.ensures.0, wide))
