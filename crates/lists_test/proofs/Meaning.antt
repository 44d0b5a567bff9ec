-- What the test says of the rules: where the stored lists agree with the lanes' own words, the lists, the starts and the tie order that the lists make in a
-- row agree with the state. Assumes nothing.
use mathlib.Core.Path.{◌≡◌, refl, sym, ap, subst, ◌∙◌}
use mathlib.Core.Bool.{Bool, true, false}
use mathlib.Core.Option.{none, some}
use mathlib.Core.Logic.{⊎_elim}
use Prim.Native.Nat.{ℕ, ◌+◌, ◌-◌, ◌*◌, ◌%◌, ◌^◌, ◌≤◌, ◌<◌}
use mathlib.Core.List.{List, [], ◌∷◌}
use native.Mathlib.Nat.{mul-le-mul_right}
use native.Mathlib.Omega.{arith}
use borrow.Author.Tests.{eq-eqb}
use lib.ListN.{length, get_or}
use Rattle.std.specs.Prelude.{if◌then◌else◌}
use Rattle.units.specs.Plain.{times}
use Rattle.words.specs.Bits.{bit}
use Rattle.words.specs.Words.{word_at}
use Rattle.words.proofs.Runs.{eq-or-ne}
use Rattle.slot_lists.specs.Lists.{groups_at, back_at, start_word, map_word, map_of, list_at, start_at, Solid}
use Rattle.slot_lists.proofs.Laws.{map_on, map-off, map-held, some-bit, start-on, start-off, list_on, list-some}
use Rattle.rules.specs.State.{State, group, slot, holds, lane_at}
use Rattle.rules.specs.Sets.{in_group, group_start}
use Rattle.rules.proofs.GroupRule.{in_group_lem, is-in-group, group-low}
use Rattle.filing.specs.Filing.{slot_at, flat, in_aRow, Filing, Starting, Agrees}
use Rattle.filing.proofs.Moves.{is-standing}
use Rattle.filing.proofs.Slots.{low-unique, start-slot}
use Rattle.units.proofs.Whole.{whole-slots}
use Rattle.units.proofs.Bools.{not-passed}
use Rattle.filing.proofs.Starts.{Named}
use Rattle.filing.proofs.AlikeFiled.{row-filed}
use Rattle.filing.proofs.Flat.{times-in, times-where}
use Rattle.lists_test.specs.Stored.{start_slot, list_slot, GroupFine, ListsStored}
use Rattle.lists_test.proofs.WordBits.{bit-under, bit-over}
use Rattle.lists_test.proofs.InARow.{in_a_row, RowSays, row-slot}

module _ (t : List ℕ) (s : State) (lanes : ℕ) (rows : (k : ℕ) → holds (lane_at s k) ≡ true → RowSays t s k)
    (word : (k : ℕ) → bit k lanes ≡ (if holds (lane_at s k) then 1 else 0)) (order : s.order ≡ in_aRow (list_at t)) where
  abbrev B : ℕ
  B = back_at t

  module _ (st : ListsStored t lanes) where
    abbrev groups : ℕ
    groups = groups_at t

    named : Named s
    named k = ap (times k) (order ∙ sym (in_a_row t st.low)) ∙ st.once k ∙ word k

    within : (g : ℕ) → bit g groups ≡ 1 → (16 ≤ g) × (g ≤ 31)
    within g e = (bit-over g groups st.low e, omega (arith, bit-under 32 g groups st.high e))

    fine : (g : ℕ) → bit g groups ≡ 1 → GroupFine t g
    fine g e = st.fine g (within g e).0 (within g e).1 e

    -- a lane that stands in a list: it holds records, and its own words say the bucket
    record Here (g b k : ℕ) : Type 0 where
      has : bit g groups ≡ 1
      held : holds (lane_at s k) ≡ true
      grp : group (lane_at s k).given ≡ g
      at : slot_at B (lane_at s k) ≡ list_slot t g b

    here : (g b k : ℕ) → 16 ≤ g → g ≤ 31 → b < 32 → 0 < times k (list_at t g b) → Here g b k
    unfolding in_aRow
    here g b k lo hi hb h =
        let full : 0 < length (list_at t g b) = some-length (list_at t g b) h in
        let on = list-some t g (map_of t g) b full in
        let has = map-held t g (some-bit b (map_of t g) on) in
        let fit = ((fine g has).rings b hb (ap (bit b) (sym (map_on t g has)) ∙ on)).fit k (subst (λ (l : List ℕ). 0 < times k l) (list_on t g (map_of t g) b on) h) in
        let is_held_lem = holds_by (holds (lane_at s k)) refl in
        let grp = sym (rows k is_held_lem).group ∙ fit.1.group in
        record { has = has; held = is_held_lem; grp = grp; at = sym (row-slot t s rows k g st.back_whole hi is_held_lem grp) ∙ fit.1.slot }
      where
        some-length : (l : List ℕ) → 0 < times k l → 0 < length l
        some-length [] h = absurd (omega arith)
        some-length (x ∷ xs) h = omega arith

        inside : times k (list_at t g b) ≤ times k (in_aRow (list_at t))
        inside =
            let e : 16 + (g - 16) ≡ g = omega arith in
            omega (arith, times-in (g - 16) 16 k (λ i. flat 32 (list_at t (16 + i))) (omega arith), times-in b 32 k (list_at t (16 + (g - 16))) hb, ap (λ (i : ℕ). times k (list_at t i b)) e)

        holds_by : (x : Bool) → holds (lane_at s k) ≡ x → holds (lane_at s k) ≡ true
        holds_by true e = e
        holds_by false e = absurd (omega (arith, h, inside, ap (times k) order, named k, ap (λ (y : Bool). ◌+◌ (if y then 1 else 0) 0) e))

    -- and each holding lane stands in one
    there : (k : ℕ) → holds (lane_at s k) ≡ true → (g : ℕ) × (b : ℕ) × (16 ≤ g) × (g ≤ 31) × (b < 32) × Here g b k
    unfolding in_aRow
    there k h =
        let n : 0 < times k (in_aRow (list_at t)) = omega (arith, ap (times k) order, named k, ap (λ (y : Bool). ◌+◌ (if y then 1 else 0) 0) h) in
        let x = times-where 16 k (λ i. flat 32 (list_at t (16 + i))) n in
        let y = times-where 32 k (list_at t (16 + x.0)) x.2 in
        let lo : 16 ≤ 16 + x.0 = omega arith in
        let hi : 16 + x.0 ≤ 31 = omega (arith, x.1) in
        (16 + x.0, y.0, lo, hi, y.1, here (16 + x.0) y.0 k lo hi y.1 y.2)

    pub stored-solid : Solid t
    stored-solid =
        record {
          fills = λ g lo hi.
              record {
                filled = λ b hb e.
                    let has = map-held t g (some-bit b (map_of t g) e) in
                    ((fine g has).rings b hb (ap (bit b) (sym (map_on t g has)) ∙ e)).some_lane;
                narrow =
                    ⊎_elim
                    (λ (e : bit g groups ≡ 1). rw (map_on t g e) (fine g e).narrow)
                    (λ (ne : bit g groups ≡ 1 → ⊥). rw (map-off t g ne) (omega arith))
                    (eq-or-ne (bit g groups) 1);
              };
          groups = within;
          some_list = λ g e. rw (map_on t g e) (some-bit (start_slot t g % 32) (word_at t (map_word g)) (fine g e).first);
          high = st.high;
          back_whole = st.back_whole;
          back_small = st.back_small;
        }

    stored-filed : Filing B (list_at t) s
    stored-filed =
        row-filed B s (list_at t) order (λ g b k lo hi hb h.
        let x = here g b k lo hi hb h in
        is-standing B g b (lane_at s k) (record { held = x.held; grp = x.grp; at = ap (λ (y : ℕ). y % 32) x.at ∙ omega arith }))

    -- the first lane of the start's own list
    stored-started : Starting (start_at t) s
    stored-started g lo hi =
        ⊎_elim
        (λ (e : bit g groups ≡ 1).
        let b = start_slot t g % 32 in
        let on : bit b (map_of t g) ≡ 1 = ap (bit b) (map_on t g e) ∙ (fine g e).first in
        let k = get_or (list_at t g b) 0 0 in
        let full : 0 < length (list_at t g b) = rw (list_on t g (map_of t g) b on) ((fine g e).rings b (omega arith) (fine g e).first).some_lane in
        let x = here g b k lo hi (omega arith) (first-times (list_at t g b) full) in
        let own : slot_at B (lane_at s k) ≡ start_slot t g = x.at ∙ omega arith in
        start-on t g e
        ∙ low-unique (in_group g) s.lanes (some (word_at t (start_word g))) (group_start s.lanes g)
        (record {
          at = k;
          is = subst (λ (i : ℕ). in_group i (lane_at s k) ≡ true) x.grp (is-in-group (lane_at s k) x.held);
          start = omega (arith, start-slot B g (lane_at s k) st.back_whole hi x.grp, ap (λ (y : ℕ). y * 2 ^ g) own, (fine g e).whole, whole-slots B g st.back_whole hi);
          bound = λ j h.
              let i = in_group_lem g (lane_at s j) h in
              let y = there j i.0 in
              let same : y.0 ≡ g = sym y.5.grp ∙ i.1 in
              let later : start_slot t g ≤ slot_at B (lane_at s j) = subst (λ (z : ℕ). slot_at B (lane_at s j) ≡ list_slot t z y.1 → start_slot t g ≤ slot_at B (lane_at s j)) (sym same) (λ q. omega (arith, q)) y.5.at in
              omega (arith, mul-le-mul_right (2 ^ g) later, (fine g e).whole, whole-slots B g st.back_whole hi, start-slot B g (lane_at s j) st.back_whole hi i.1);
        })
        (group-low s.lanes g))
        (λ (ne : bit g groups ≡ 1 → ⊥).
        start-off t g ne
        ∙ low-unique (in_group g) s.lanes none (group_start s.lanes g)
        (λ j. not-passed (in_group g (lane_at s j)) (λ h.
        let i = in_group_lem g (lane_at s j) h in
        let y = there j i.0 in
        let same : y.0 ≡ g = sym y.5.grp ∙ i.1 in
        ne (subst (λ (z : ℕ). bit z groups ≡ 1) same y.5.has)))
        (group-low s.lanes g))
        (eq-or-ne (bit g groups) 1)
      where
        first-times : (l : List ℕ) → 0 < length l → 0 < times (get_or l 0 0) l
        first-times [] h = absurd (omega arith)
        first-times (x ∷ xs) h = simp (eq-eqb x x refl) (omega arith)

    pub stored-agrees : Agrees B (list_at t) (start_at t) s
    stored-agrees = record { filed = stored-filed; started = stored-started }

    pub stored-named : Named s
    stored-named = named
