-- `refile` meets its contract. Assumes nothing.
use mathlib.Core.Path.{sym, ap, subst, ◌∙◌}
use Prim.Native.Nat.{ℕ, ◌+◌, ◌/◌, ◌%◌, ◌^◌, ◌<◌}
use native.Mathlib.Omega.{arith}
use mathlib.Core.List.{List}
use lib.ListN.{length}
use Rattle.words.specs.Bits.{bit}
use Rattle.slot_lists.specs.Lists.{groups_word, list_in, list_at, start_word, Fills}
use Rattle.slot_lists.proofs.Laws.{map_on, start-some}
use Rattle.lane_moves.proofs.Views.{same_word}
use Rattle.lane_moves.proofs.Steps.{refile-more, refile-last, rooms-after}
use Rattle.lane_moves.proofs.refile.Goals as goal

pub remove_first-left-requires : goal.remove_first-left-requires
remove_first-left-requires c =
    let s = c in
    let t = s.args.t.now in
    let g = s.args.g in
    let em = c.word-lists.ensures ∙ sym (map_on t g (start-some t g s.args.start s.requires.4).0) in
    let eb = c.list_number-b.ensures.0 ∙ ap (λ (x : ℕ). (s.args.start + x) / 2 ^ g % 32) c.word-back.ensures in
    (s.requires.0, s.requires.2, s.requires.3, c.list_number-b.ensures.1, subst (Fills t g) (sym em) (s.requires.1.fills g s.requires.2 s.requires.3), subst (λ (l : List ℕ). 0 < length l) (ap (λ (b : ℕ). list_at t g b) (sym eb) ∙ ap (λ (m : ℕ). list_in t g m c.list_number-b.result) (sym em)) s.requires.8)

pub append-map-requires : goal.append-map-requires
append-map-requires c =
    let s = c in
    let t = s.args.t.now in
    let g = s.args.g in
    let em = c.word-lists.ensures ∙ sym (map_on t g (start-some t g s.args.start s.requires.4).0) in
    let eb = c.list_number-b.ensures.0 ∙ ap (λ (x : ℕ). (s.args.start + x) / 2 ^ g % 32) c.word-back.ensures in
    let ec = c.list_number.ensures.0 ∙ ap (λ (x : ℕ). (s.args.s + x) / 2 ^ g % 32) c.word-back.ensures in
    let v = c.remove_first-left.ensures in (
      omega (arith, s.requires.0, c.remove_first-left.auto.t),
      s.requires.2,
      s.requires.3,
      c.list_number.ensures.1,
      s.requires.7,
      v.fills (subst (Fills t g) (sym em) (s.requires.1.fills g s.requires.2 s.requires.3)),
      rooms-after t _ g _ _ _ _ em v c.list_number.ensures.1 (subst (λ (b : ℕ). 0 < length (list_at t g b)) (sym eb) s.requires.8) (subst (λ (b : ℕ). length (list_at t g b) < 65) (sym eb) (omega (arith, s.requires.9.0))) (λ ne. subst (λ (x : ℕ). length (list_at t g x) < 64) (sym ec) (s.requires.9.1 (λ q. ne (ec ∙ q ∙ sym eb)))),
    )

pub close-requires : goal.close-requires
close-requires c =
    let s = c in
    let t = s.args.t.now in
    let g = s.args.g in
    let has = (start-some t g s.args.start s.requires.4).0 in
    let em = c.word-lists.ensures ∙ sym (map_on t g has) in
    let v = c.remove_first-left.ensures in
    let u = c.append-map.ensures in
    (omega (arith, s.requires.0, c.remove_first-left.auto.t, c.append-map.auto.t), s.requires.2, s.requires.3, c.word-groups.ensures ∙ sym (same_word _ _ _ _ _ _ _ v groups_word (omega arith)) ∙ sym (same_word _ _ _ _ _ _ _ u groups_word (omega arith)), ap (bit g) c.word-groups.ensures ∙ has, (u.fills (v.fills (subst (Fills t g) (sym em) (s.requires.1.fills g s.requires.2 s.requires.3)))).narrow, s.requires.5, same_word _ _ _ _ _ _ _ u (start_word g) (omega (arith, s.requires.3)) ∙ same_word _ _ _ _ _ _ _ v (start_word g) (omega (arith, s.requires.3)) ∙ (start-some t g s.args.start s.requires.4).1, c.list_number-b.ensures.1)

pub close-requires-else-more : goal.close-requires-else-more
close-requires-else-more c =
    let s = c in
    let t = s.args.t.now in
    let g = s.args.g in
    let has = (start-some t g s.args.start s.requires.4).0 in
    let em = c.word-lists.ensures ∙ sym (map_on t g has) in
    let v = c.remove_first-left.ensures in
    (omega (arith, s.requires.0, c.remove_first-left.auto.t), s.requires.2, s.requires.3, c.word-groups.ensures ∙ sym (same_word _ _ _ _ _ _ _ v groups_word (omega arith)), ap (bit g) c.word-groups.ensures ∙ has, (v.fills (subst (Fills t g) (sym em) (s.requires.1.fills g s.requires.2 s.requires.3))).narrow, s.requires.5, same_word _ _ _ _ _ _ _ v (start_word g) (omega (arith, s.requires.3)) ∙ (start-some t g s.args.start s.requires.4).1, c.list_number-b.ensures.1)

pub returns-then-more : goal.returns-then-more
returns-then-more c =
    let s = c in
    let t = s.args.t.now in
    let g = s.args.g in
    let em = c.word-lists.ensures ∙ sym (map_on t g (start-some t g s.args.start s.requires.4).0) in
    let eb = c.list_number-b.ensures.0 ∙ ap (λ (x : ℕ). (s.args.start + x) / 2 ^ g % 32) c.word-back.ensures in
    let ec = c.list_number.ensures.0 ∙ ap (λ (x : ℕ). (s.args.s + x) / 2 ^ g % 32) c.word-back.ensures in
    rw c.if-more.true
    (refile-more t g s.requires.1 s.requires.2 s.requires.3 _ em _ s.args.start s.args.s s.args.k _ _ _ eb c.remove_first-left.ensures _ _ _ _ ec c.append-map.ensures c.close.ensures)

pub returns-else-more : goal.returns-else-more
returns-else-more c =
    let s = c in
    let t = s.args.t.now in
    let g = s.args.g in
    let em = c.word-lists.ensures ∙ sym (map_on t g (start-some t g s.args.start s.requires.4).0) in
    let eb = c.list_number-b.ensures.0 ∙ ap (λ (x : ℕ). (s.args.start + x) / 2 ^ g % 32) c.word-back.ensures in
    rw c.if-more.false
    (refile-last t g s.requires.1 s.requires.2 s.requires.3 _ em _ s.args.start s.args.s s.args.k _ _ _ eb c.remove_first-left.ensures _ c.close-else-more.ensures)
