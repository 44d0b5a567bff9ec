-- `add` meets its contract. Assumes nothing.
use mathlib.Core.Path.{◌≡◌, sym, ap, subst, ◌∙◌}
use mathlib.Core.Option.{some}
use Prim.Native.Nat.{ℕ, ◌+◌, ◌*◌, ◌/◌, ◌%◌, ◌^◌, ◌<◌}
use native.Mathlib.Nat.{mod-eq_of_lt, div-mul-le_self}
use native.Mathlib.Omega.{arith}
use mathlib.Core.List.{List}
use lib.ListN.{length}
use Rattle.words.specs.Bits.{bit}
use Rattle.slot_lists.specs.Lists.{groups_word, start_word, groups_at, map_of, list_in, list_at, Fills}
use Rattle.slot_lists.proofs.Bits.{bit-two}
use Rattle.slot_lists.proofs.Laws.{map_on, map-off}
use Rattle.lane_moves.proofs.Views.{same_word}
use Rattle.lane_moves.proofs.Steps.{joined, marked, then-start, start_first, start-old, start-new, add-leaves}
use Rattle.lane_moves.proofs.add.Goals as goal

pub append-map-requires : goal.append-map-requires
append-map-requires c =
    let s = c in
    let t = s.args.t.now in
    let g = s.args.g in
    let on = ap (bit g) (sym s.requires.2) ∙ c.if-groups-g-eq1.true in
    let em = c.word-lists.ensures ∙ sym (map_on t g on) in
    let eb = c.list_number-b.ensures.0 ∙ ap (λ (x : ℕ). (s.args.s + x) / 2 ^ g % 32) c.word-back.ensures in
    (s.requires.0, s.requires.3, s.requires.4, c.list_number-b.ensures.1, s.requires.6, subst (Fills t g) (sym em) (s.requires.1.fills g s.requires.3 s.requires.4), subst (λ (l : List ℕ). length l < 64) (ap (λ (b : ℕ). list_at t g b) (sym eb) ∙ ap (λ (m : ℕ). list_in t g m c.list_number-b.result) (sym em)) s.requires.7)

pub set_lists-requires : goal.set_lists-requires
set_lists-requires c =
    let s = c in
    let t = s.args.t.now in
    let g = s.args.g in
    let v = c.append-map.ensures in
    (omega (arith, s.requires.0, c.append-map.auto.t), s.requires.3, s.requires.4, ap (bit g) (same_word _ _ _ _ _ _ _ v groups_word (omega arith) ∙ sym s.requires.2) ∙ c.if-groups-g-eq1.true, joined _ _ (list_in t g c.word-lists.result c.list_number-b.result) _ _ _ _ s.args.k v)

pub set_start-requires : goal.set_start-requires
set_start-requires c =
    let s = c in
    let t = s.args.t.now in
    let g = s.args.g in
    let v = c.append-map.ensures in
    let k = marked _ _ _ _ _ (joined _ _ (list_in t g c.word-lists.result c.list_number-b.result) _ _ _ _ s.args.k v) c.set_lists.ensures in
    (omega (arith, s.requires.0, c.append-map.auto.t, c.set_lists.auto.t), s.requires.3, s.requires.4, k.0, k.1)

pub append-map-requires-else-groups-g-eq1 : goal.append-map-requires-else-groups-g-eq1
append-map-requires-else-groups-g-eq1 c =
    let s = c in
    let t = s.args.t.now in
    let g = s.args.g in
    let off : bit g (groups_at t) ≡ 1 → ⊥ = λ e. c.if-groups-g-eq1.false (ap (bit g) s.requires.2 ∙ e) in
    let em : 0 ≡ map_of t g = sym (map-off t g off) in
    let eb = c.list_number-b.ensures.0 ∙ ap (λ (x : ℕ). (s.args.s + x) / 2 ^ g % 32) c.word-back.ensures in
    (s.requires.0, s.requires.3, s.requires.4, c.list_number-b.ensures.1, s.requires.6, subst (Fills t g) (sym em) (s.requires.1.fills g s.requires.3 s.requires.4), subst (λ (l : List ℕ). length l < 64) (ap (λ (b : ℕ). list_at t g b) (sym eb) ∙ ap (λ (m : ℕ). list_in t g m c.list_number-b.result) (sym em)) s.requires.7)

pub open_group-requires : goal.open_group-requires
open_group-requires c =
    let s = c in
    let v = c.append-map-else-groups-g-eq1.ensures in
    (omega (arith, s.requires.0, c.append-map-else-groups-g-eq1.auto.t), s.requires.3, s.requires.4, s.requires.2 ∙ sym (same_word _ _ _ _ _ _ _ v groups_word (omega arith)), bit-two s.args.g s.args.groups c.if-groups-g-eq1.false, joined _ _ (list_in s.args.t.now s.args.g 0 c.list_number-b.result) _ _ _ _ s.args.k v)

pub returns-then-r-start : goal.returns-then-r-start
returns-then-r-start c =
    let s = c in
    let t = s.args.t.now in
    let g = s.args.g in
    let on = ap (bit g) (sym s.requires.2) ∙ c.if-groups-g-eq1.true in
    let em = c.word-lists.ensures ∙ sym (map_on t g on) in
    let eb = c.list_number-b.ensures.0 ∙ ap (λ (x : ℕ). (s.args.s + x) / 2 ^ g % 32) c.word-back.ensures in
    let below : s.args.s / 2 ^ g * 2 ^ g < 2 ^ 64 = omega (arith, div-mul-le_self s.args.s (2 ^ g), s.requires.5) in
    let r = mod-eq_of_lt below in
    add-leaves t g s.requires.1 s.requires.3 s.requires.4 _ em _ _ s.args.s s.args.k _ _ _ eb c.append-map.ensures (then-start _ _ _ _ _ _ _ c.set_lists.ensures c.set_start.ensures)
    (ap some r ∙ start-new t g (s.args.s / 2 ^ g * 2 ^ g) _ on c.word-start.ensures (omega (arith, r, c.if-r-start.true)))

pub returns-else-r-start : goal.returns-else-r-start
returns-else-r-start c =
    let s = c in
    let t = s.args.t.now in
    let g = s.args.g in
    let on = ap (bit g) (sym s.requires.2) ∙ c.if-groups-g-eq1.true in
    let em = c.word-lists.ensures ∙ sym (map_on t g on) in
    let eb = c.list_number-b.ensures.0 ∙ ap (λ (x : ℕ). (s.args.s + x) / 2 ^ g % 32) c.word-back.ensures in
    let below : s.args.s / 2 ^ g * 2 ^ g < 2 ^ 64 = omega (arith, div-mul-le_self s.args.s (2 ^ g), s.requires.5) in
    let same = same_word _ _ _ _ _ _ _ c.append-map.ensures (start_word g) (omega (arith, s.requires.4)) in
    add-leaves t g s.requires.1 s.requires.3 s.requires.4 _ em _ _ s.args.s s.args.k _ _ _ eb c.append-map.ensures c.set_lists.ensures
    (start-old t g (s.args.s / 2 ^ g * 2 ^ g) _ on same (omega (arith, mod-eq_of_lt below, c.if-r-start.false, same, c.word-start.ensures)))

pub returns-else-groups-g-eq1 : goal.returns-else-groups-g-eq1
returns-else-groups-g-eq1 c =
    let s = c in
    let t = s.args.t.now in
    let g = s.args.g in
    let off : bit g (groups_at t) ≡ 1 → ⊥ = λ e. c.if-groups-g-eq1.false (ap (bit g) s.requires.2 ∙ e) in
    let eb = c.list_number-b.ensures.0 ∙ ap (λ (x : ℕ). (s.args.s + x) / 2 ^ g % 32) c.word-back.ensures in
    let below : s.args.s / 2 ^ g * 2 ^ g < 2 ^ 64 = omega (arith, div-mul-le_self s.args.s (2 ^ g), s.requires.5) in
    add-leaves t g s.requires.1 s.requires.3 s.requires.4 0 (sym (map-off t g off)) _ _ s.args.s s.args.k _ _ _ eb c.append-map-else-groups-g-eq1.ensures c.open_group.ensures
    (ap some (mod-eq_of_lt below) ∙ start_first t g (s.args.s / 2 ^ g * 2 ^ g) off)
