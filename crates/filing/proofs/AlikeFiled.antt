-- Two states with the same lists are alike; and the lists, one behind the other, are a tie order for which they are the lists. Assumes nothing.
use Prim.Native.Nat.{ℕ, ◌+◌, ◌-◌, ◌%◌, ◌≤◌, ◌<◌}
use native.Mathlib.Nat.{le_antisymm}
use native.Mathlib.Omega.{arith}
use mathlib.Core.Path.{◌≡◌, refl, sym, ap, ◌∙◌}
use mathlib.Core.Bool.{Bool, true, false}
use mathlib.Core.List.{List, []}
use lib.Dec.{ltb}
use lib.ListN.{get_or}
use Rattle.std.specs.Prelude.{if◌then◌else◌}
use Rattle.units.specs.Plain.{place, times}
use Rattle.rules.specs.State.{Lane, State, no_lane, group, start_r, holds, lane_at}
use Rattle.alike.specs.Alike.{Alike}
use Rattle.filing.specs.Filing.{sift, Whole, slot_at, in_list, Lists, Filing, flat, in_aRow}
use Rattle.filing.proofs.Sift.{times-sift, place-sift}
use Rattle.filing.proofs.Flat.{sift-flat, flat-none, flat-one, sift-all, sift-no, times_none, times-one}
use Rattle.filing.proofs.Moves.{is-standing, elsewhere, idle-nowhere}
use Rattle.filing.proofs.Slots.{start-slot, no_less}
use Rattle.filing.proofs.Starts.{Named, Grouped}

pub filed-alike : (B : ℕ) → Whole B → (s t : State) (lists : Lists) → Named s → Grouped s → Named t → s.clock ≡ t.clock → s.lanes ≡ t.lanes → Filing B lists s → Filing B lists t → Alike s t
filed-alike B w s t lists has grouped named ec el fs ft =
    record {
      clock = ec;
      lanes = el;
      names = λ k. has k ∙ ap (λ (ls : List Lane). if holds (get_or ls k no_lane) then 1 else 0) el ∙ sym (named k);
      turns = λ j k h.
          let g = group (lane_at s j).given in
          let b = slot_at B (lane_at s j) % 32 in
          let bounds = grouped j h.first in
          let pj : in_list B g b (lane_at s j) ≡ true = is-standing B g b (lane_at s j) (record { held = h.first; grp = refl; at = refl }) in
          let slots : slot_at B (lane_at s k) ≡ slot_at B (lane_at s j) = same-slot g bounds.1 (lane_at s k) (lane_at s j) (sym h.group) refl (sym h.start) in
          let pk : in_list B g b (lane_at s k) ≡ true = is-standing B g b (lane_at s k) (record { held = h.second; grp = sym h.group; at = ap (λ (x : ℕ). x % 32) slots }) in
          let p : ℕ → Bool = λ i. in_list B g b (lane_at s i) in
          let lists-same : sift p s.order ≡ sift p t.order = sym (fs g b bounds.0 bounds.1 (omega arith)) ∙ ft g b bounds.0 bounds.1 (omega arith) ∙ ap (λ (ls : List Lane). sift (λ i. in_list B g b (get_or ls i no_lane)) t.order) (sym el) in
          sym (place-sift p j k s.order pj pk) ∙ ap (λ (l : List ℕ). ltb (place j l) (place k l)) lists-same ∙ place-sift p j k t.order pj pk;
    }
  where
    same-slot : (g : ℕ) → g ≤ 31 → (x y : Lane) → group x.given ≡ g → group y.given ≡ g → start_r x ≡ start_r y → slot_at B x ≡ slot_at B y
    same-slot g hi x y ex ey e =
        le_antisymm (no_less g (slot_at B x) (slot_at B y) (omega (arith, e, start-slot B g x w hi ex, start-slot B g y w hi ey))) (no_less g (slot_at B y) (slot_at B x) (omega (arith, e, start-slot B g x w hi ex, start-slot B g y w hi ey)))

-- each lane of a list stands there: then the lists are those of the order that they make in a row
pub row-filed : (B : ℕ) (s : State) (lists : Lists) → s.order ≡ in_aRow lists
    → ((g b k : ℕ) → 16 ≤ g → g ≤ 31 → b < 32 → 0 < times k (lists g b) → in_list B g b (lane_at s k) ≡ true) → Filing B lists s
unfolding in_aRow
row-filed B s lists eo placed g b lo hi hb =
    let p : ℕ → Bool = λ k. in_list B g b (lane_at s k) in
    let f : ℕ → List ℕ = λ i. flat 32 (lists (16 + i)) in
    let here : 16 + (g - 16) ≡ g = omega arith in
    let apart : (i c : ℕ) → i < 16 → c < 32 → (16 + i ≡ g → c ≡ b → ⊥) → sift p (lists (16 + i) c) ≡ [] = λ i c hi hc ne. sift-no p (lists (16 + i) c) (λ k m. elsewhere B (16 + i) c g b (lane_at s k) (placed (16 + i) c k (omega arith) (omega arith) hc m) (λ x y. ne (sym x) (sym y))) in
    let others : (i : ℕ) → i < 16 → (i ≡ g - 16 → ⊥) → sift p (f i) ≡ [] = λ i h ne. sift-flat p 32 (lists (16 + i)) ∙ flat-none 32 (λ c. sift p (lists (16 + i) c)) (λ c hc. apart i c h hc (λ x y. ne (omega arith))) in
    let mine : sift p (f (g - 16)) ≡ sift p (lists (16 + (g - 16)) b) = sift-flat p 32 (lists (16 + (g - 16))) ∙ flat-one 32 b (λ c. sift p (lists (16 + (g - 16)) c)) hb (λ c hc ne. apart (g - 16) c (omega arith) hc (λ x y. ne y)) in
    sym (ap (sift p) eo ∙ sift-flat p 16 f ∙ flat-one 16 (g - 16) (λ i. sift p (f i)) (omega arith) others ∙ mine ∙ ap (λ (i : ℕ). sift p (lists i b)) here ∙ sift-all p (lists g b) (λ k m. placed g b k lo hi hb m))

-- ---- the order in a row, of lists that agree with a state

module _ (B : ℕ) (s : State) (lists : Lists) (filed : Filing B lists s) (named : Named s) (grouped : Grouped s) where
  -- how often a lane stands in a list
  in_one : (g b k : ℕ) → 16 ≤ g → g ≤ 31 → b < 32 → times k (lists g b) ≡ (if in_list B g b (lane_at s k) then times k s.order else 0)
  in_one g b k lo hi hb = ap (times k) (filed g b lo hi hb) ∙ times-sift (λ j. in_list B g b (lane_at s j)) k s.order

  placed : (g b k : ℕ) → 16 ≤ g → g ≤ 31 → b < 32 → 0 < times k (lists g b) → in_list B g b (lane_at s k) ≡ true
  placed g b k lo hi hb h = go (in_list B g b (lane_at s k)) refl
    where
      go : (x : Bool) → in_list B g b (lane_at s k) ≡ x → in_list B g b (lane_at s k) ≡ true
      go true e = e
      go false e = absurd (omega (arith, h, in_one g b k lo hi hb, ap (λ (x : Bool). ◌+◌ (if x then times k s.order else 0) 0) e))

  -- the lists in a row name the lanes that the tie order names
  pub row-times : (k : ℕ) → times k (in_aRow lists) ≡ times k s.order
  unfolding in_aRow
  row-times k = go (holds (lane_at s k)) refl
    where
      l : Lane
      l = lane_at s k

      g : ℕ
      g = group l.given

      b : ℕ
      b = slot_at B l % 32

      out : (i c : ℕ) → i < 16 → c < 32 → in_list B (16 + i) c l ≡ false → times k (lists (16 + i) c) ≡ 0
      out i c hi hc e = in_one (16 + i) c k (omega arith) (omega arith) hc ∙ simp e

      go : (x : Bool) → holds l ≡ x → times k (flat 16 (λ i. flat 32 (lists (16 + i)))) ≡ times k s.order
      go false e =
          times_none 16 k (λ i. flat 32 (lists (16 + i))) (λ i hi. times_none 32 k (lists (16 + i)) (λ c hc. out i c hi hc (idle-nowhere B (16 + i) c l e)))
          ∙ sym (named k ∙ simp e)
      go true e =
          let bounds = grouped k e in
          let is : in_list B g b l ≡ true = is-standing B g b l (record { held = e; grp = refl; at = refl }) in
          let here : 16 + (g - 16) ≡ g = omega (arith, bounds.0) in
          let small : g - 16 < 16 = omega (arith, bounds.0, bounds.1) in
          times-one 16 (g - 16) k (λ i. flat 32 (lists (16 + i))) small (λ i hi ne. times_none 32 k (lists (16 + i)) (λ c hc. out i c hi hc (elsewhere B g b (16 + i) c l is (λ x y. ne (omega (arith, x))))))
          ∙ times-one 32 b k (lists (16 + (g - 16))) (omega arith) (λ c hc ne. out (g - 16) c small hc (elsewhere B g b (16 + (g - 16)) c l is (λ x y. ne y)))
          ∙ ap (λ (i : ℕ). times k (lists i b)) here
          ∙ in_one g b k bounds.0 bounds.1 (omega arith)
          ∙ simp is

  abbrev pub in_row : State
  in_row = record { clock = s.clock; lanes = s.lanes; order = in_aRow lists }

  pub row_named : Named in_row
  row_named k = row-times k ∙ named k

  pub row-agrees : Filing B lists in_row
  row-agrees = row-filed B in_row lists refl placed

  -- no call tells the two apart
  pub row-alike : Whole B → Alike s in_row
  row-alike w = filed-alike B w s in_row lists named grouped row_named refl refl filed row-agrees
