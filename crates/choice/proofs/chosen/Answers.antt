-- `chosen` meets its contract. Assumes nothing.
use mathlib.Core.Path.{sym, ap, subst, ◌∙◌}
use mathlib.Core.Option.{some}
use Prim.Native.Nat.{ℕ, ◌+◌, ◌-◌, ◌/◌, ◌%◌, ◌^◌, ◌<◌}
use mathlib.Core.List.{List}
use native.Mathlib.Omega.{arith}
use lib.ListN.{length, get_or}
use Rattle.slot_lists.specs.Lists.{list_in, list_at, list_of}
use Rattle.slot_lists.proofs.Laws.{map_on, start-some}
use Rattle.filing.specs.Filing.{front_of}
use Rattle.table.specs.Means.{meant}
use Rattle.choice.proofs.Leading.{starts-early, found_none, found_at, two-slots, start_is, list-some, found-head, found-lane}
use borrow.Author.Rules.{rules}
use Rattle.choice.proofs.chosen.Goals as goal

pub next_group-f-requires : goal.next_group-f-requires
next_group-f-requires c =
    let p = c.requires in
    (omega (arith, p.sound.room), p.listed.solid, starts-early _ (meant _) p.good p.listed.agrees)

pub returns-then-f : goal.returns-then-f
returns-then-f c =
    let p = c.requires in
    found_none _ (meant _) p.good p.listed.solid.back_whole p.listed.agrees _ c.clock-v.ensures _ c.next_group-f.ensures c.if-f.true

pub overflow_shl-start : goal.overflow_shl-start
overflow_shl-start c =
    let p = c.requires in
    let a = found_at _ (meant _) p.good p.listed.solid.back_whole p.listed.agrees _ c.clock-v.ensures _ c.next_group-f.ensures c.if-f.false in
    omega (arith, a.high)

pub overflow_sub-start : goal.overflow_sub-start
overflow_sub-start c =
    let p = c.requires in
    let a = found_at _ (meant _) p.good p.listed.solid.back_whole p.listed.agrees _ c.clock-v.ensures _ c.next_group-f.ensures c.if-f.false in
    omega (arith, a.sum, two-slots _ (meant _) p.good p.listed.solid.back_whole p.listed.agrees _ c.clock-v.ensures _ c.next_group-f.ensures a)

pub list_number-list-requires : goal.list_number-list-requires
list_number-list-requires c =
    let p = c.requires in
    let a = found_at _ (meant _) p.good p.listed.solid.back_whole p.listed.agrees _ c.clock-v.ensures _ c.next_group-f.ensures c.if-f.false in
    let e = start_is _ (meant _) p.good p.listed.solid.back_whole p.listed.agrees _ c.clock-v.ensures _ c.next_group-f.ensures a in
    (omega (arith, e, a.small), omega (arith, c.word.ensures, p.listed.solid.back_small), ap (λ (x : ℕ). x % 2 ^ 31) c.word.ensures ∙ p.listed.solid.back_whole, a.high)

pub word-requires-2 : goal.word-requires-2
word-requires-2 c =
    let p = c.requires in
    let a = found_at _ (meant _) p.good p.listed.solid.back_whole p.listed.agrees _ c.clock-v.ensures _ c.next_group-f.ensures c.if-f.false in
    omega (arith, p.sound.room, a.high)

pub first-lane-requires : goal.first-lane-requires
first-lane-requires c =
    let s = c in
    let p = s.requires in
    let t = s.args.t.now in
    let f = c.next_group-f.result in
    let g = f.group in
    let a = found_at t (meant t) p.good p.listed.solid.back_whole p.listed.agrees _ c.clock-v.ensures f c.next_group-f.ensures c.if-f.false in
    let e₀ = start_is t (meant t) p.good p.listed.solid.back_whole p.listed.agrees _ c.clock-v.ensures f c.next_group-f.ensures a in
    let em = c.word-2.ensures ∙ sym (map_on t g (start-some t g a.from a.start).0) in
    let eb = c.list_number-list.ensures.0 ∙ ap (λ (y : ℕ). (y + c.word.result) / 2 ^ g % 32) e₀ ∙ ap (λ (x : ℕ). (a.from + x) / 2 ^ g % 32) c.word.ensures in
    let some_lane = list-some t (meant t) p.good p.listed.solid.back_whole p.listed.agrees _ c.clock-v.ensures f c.next_group-f.ensures a in
    (omega (arith, p.sound.room), a.low, a.high, c.list_number-list.ensures.1, subst (λ (l : List ℕ). 0 < length l) (ap (λ (b : ℕ). list_at t g b) (sym eb) ∙ ap (λ (m : ℕ). list_in t g m c.list_number-list.result) (sym em)) some_lane)

pub returns : goal.returns
returns c =
    let s = c in
    let p = s.requires in
    let t = s.args.t.now in
    let f = c.next_group-f.result in
    let g = f.group in
    let a = found_at t (meant t) p.good p.listed.solid.back_whole p.listed.agrees _ c.clock-v.ensures f c.next_group-f.ensures c.if-f.false in
    let e₀ = start_is t (meant t) p.good p.listed.solid.back_whole p.listed.agrees _ c.clock-v.ensures f c.next_group-f.ensures a in
    let em = c.word-2.ensures ∙ sym (map_on t g (start-some t g a.from a.start).0) in
    let eb = c.list_number-list.ensures.0 ∙ ap (λ (y : ℕ). (y + c.word.result) / 2 ^ g % 32) e₀ ∙ ap (λ (x : ℕ). (a.from + x) / 2 ^ g % 32) c.word.ensures in
    let e = c.first-lane.ensures.0 ∙ ap (λ (m : ℕ). get_or (list_in t g m c.list_number-list.result) 0 0) em ∙ ap (λ (b : ℕ). get_or (list_at t g b) 0 0) eb in
    record {
      chosen = sym (found-lane t (meant t) p.good p.listed.solid.back_whole p.listed.agrees _ c.clock-v.ensures f c.next_group-f.ensures a _ e);
      low = a.low;
      high = a.high;
      start = a.start ∙ ap some (sym e₀);
      first = ap (λ (y : ℕ). front_of (list_at t g (list_of t g y))) e₀ ∙ found-head t (meant t) p.good p.listed.solid.back_whole p.listed.agrees _ c.clock-v.ensures f c.next_group-f.ensures a _ e;
    }
