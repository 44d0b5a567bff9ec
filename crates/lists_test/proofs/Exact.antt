-- And back: lists and starts that agree with a good state pass the test. Assumes nothing.
use mathlib.Core.Path.{◌≡◌, refl, sym, ap, subst, ◌∙◌}
use mathlib.Core.Bool.{Bool, true, false}
use mathlib.Core.Option.{some}
use mathlib.Core.Logic.{⊎_elim}
use Prim.Native.Nat.{ℕ, ◌+◌, ◌-◌, ◌*◌, ◌/◌, ◌%◌, ◌^◌, ◌≤◌, ◌<◌}
use mathlib.Core.List.{List}
use native.Mathlib.Omega.{arith}
use lib.Pow.{pow_pos, pow_mono, shl-shr}
use Rattle.std.specs.Prelude.{if◌then◌else◌}
use Rattle.units.specs.Plain.{times}
use Rattle.words.specs.Bits.{bit}
use Rattle.words.specs.Words.{word_at}
use Rattle.words.proofs.Bits.{bit-above, bits-same}
use Rattle.words.proofs.Runs.{le-or-lt}
use Rattle.slot_lists.specs.Lists.{groups_at, back_at, start_word, map_word, ring_number, map_of, list_at, start_at, Solid}
use Rattle.slot_lists.proofs.Bits.{bit-two, bit-low}
use Rattle.slot_lists.proofs.Laws.{map_on, start-on, list_on, list-some}
use Rattle.rules.specs.State.{State, group, slot, holds, lane_at}
use Rattle.rules.specs.Sets.{in_group, group_start}
use Rattle.rules.specs.Good.{Good}
use Rattle.rules.proofs.Lowest.{LowOf, LowestOf}
use Rattle.rules.proofs.GroupRule.{in_group_lem, is-in-group, group-low}
use Rattle.filing.specs.Filing.{sift, slot_at, in_list, in_aRow, Agrees, Window}
use Rattle.filing.proofs.Sift.{times-sift}
use Rattle.filing.proofs.Moves.{stands}
use Rattle.filing.proofs.Slots.{start-slot, window}
use Rattle.units.proofs.Whole.{whole-slots, slot-part}
use Rattle.units.proofs.Lists.{times-length}
use Rattle.filing.proofs.Starts.{in_list_lem}
use Rattle.lists_test.specs.Stored.{RingFine, start_slot, list_slot, GroupFine, ListsStored}
use Rattle.lists_test.proofs.InARow.{in_a_row, RowSays, row-slot}

module _ (t : List ℕ) (s : State) (lanes : ℕ) (rows : (k : ℕ) → holds (lane_at s k) ≡ true → RowSays t s k)
    (word : (k : ℕ) → bit k lanes ≡ (if holds (lane_at s k) then 1 else 0)) (order : s.order ≡ in_aRow (list_at t)) where
  abbrev B : ℕ
  B = back_at t

  module _ (good : Good s) (solid : Solid t) (ag : Agrees B (list_at t) (start_at t) s) where
    low-zero : groups_at t % 65536 ≡ 0
    low-zero =
        let m = groups_at t in
        bits-same 16 (m % 65536) 0 (omega arith) (omega arith) (λ i.
        ⊎_elim
        (λ (p : 16 ≤ i). bit-above i (m % 65536) (below i p) ∙ sym (bit-above i 0 (pow_pos i)))
        (λ (p : i < 16).
        let whole : m ≡ m % 65536 + m / 65536 * 2 ^ 16 = omega arith in
        sym (ap (bit i) whole ∙ bit-low 16 i (m % 65536) (m / 65536) p) ∙ bit-two i m (λ e. omega (arith, (solid.groups i e).0)) ∙ sym (bit-above i 0 (pow_pos i)))
        (le-or-lt 16 i))
      where
        below : (i : ℕ) → 16 ≤ i → groups_at t % 65536 < 2 ^ i
        below i p = omega (arith, pow_mono {i = 16} {j = i} p)

    module _ (g : ℕ) (lo : 16 ≤ g) (hi : g ≤ 31) (has : bit g (groups_at t) ≡ 1) where
      start_is : group_start s.lanes g ≡ some (word_at t (start_word g))
      start_is = sym (ag.started g lo hi) ∙ start-on t g has

      -- the start's slot, counted in one
      slot_is : (word_at t (start_word g) + B) / 2 ^ g ≡ start_slot t g
      slot_is = slot-part B g (word_at t (start_word g)) solid.back_whole hi

      whole : word_at t (start_word g) + B ≡ start_slot t g * 2 ^ g
      whole = (window s good B g (word_at t (start_word g)) solid.back_whole start_is).1 ∙ ap (λ (x : ℕ). x * 2 ^ g) slot_is

      win : Window B s g (start_slot t g)
      win = subst (Window B s g) slot_is (window s good B g (word_at t (start_word g)) solid.back_whole start_is).0

      lead : LowestOf (in_group g) s.lanes (word_at t (start_word g))
      lead = subst (LowOf (in_group g) s.lanes) start_is (group-low s.lanes g)

      lead-slot : slot_at B (lane_at s lead.at) ≡ start_slot t g
      lead-slot =
          let i = in_group_lem g (lane_at s lead.at) lead.is in
          let same : slot_at B (lane_at s lead.at) * 2 ^ g ≡ start_slot t g * 2 ^ g = omega (arith, start-slot B g (lane_at s lead.at) solid.back_whole hi i.1, lead.start, whole) in
          sym (shl-shr (slot_at B (lane_at s lead.at)) g) ∙ ap (λ (x : ℕ). x / 2 ^ g) same ∙ shl-shr (start_slot t g) g

      first_on : bit (start_slot t g % 32) (word_at t (map_word g)) ≡ 1
      first_on =
          let k = lead.at in
          let n : times k (list_at t g (start_slot t g % 32)) ≡ 1 = ap (λ (x : ℕ). times k (list_at t g (x % 32))) (sym lead-slot) ∙ in_list_lem B solid.back_whole s (list_at t) g ag.filed good.order lo hi k lead.is in
          ap (bit (start_slot t g % 32)) (sym (map_on t g has)) ∙ list-some t g (map_of t g) (start_slot t g % 32) (times-length k (list_at t g (start_slot t g % 32)) (omega (arith, n)))

      ring-fine : (b : ℕ) → b < 32 → bit b (word_at t (map_word g)) ≡ 1 → RingFine t (ring_number g b) g (list_slot t g b)
      ring-fine b hb e =
          let on : bit b (map_of t g) ≡ 1 = ap (bit b) (map_on t g has) ∙ e in
          record {
            some_lane = (solid.fills g lo hi).filled b hb on;
            fit = λ k h.
                let n : 0 < times k (sift (λ k. in_list B g b (lane_at s k)) s.order) = subst (λ (l : List ℕ). 0 < times k l) (sym (list_on t g (map_of t g) b on) ∙ ag.filed g b lo hi hb) h in
                let x = stands B g b (lane_at s k) (passes k n (in_list B g b (lane_at s k)) refl) in
                let r = rows k x.held in
                let ing = subst (λ (i : ℕ). in_group i (lane_at s k) ≡ true) x.grp (is-in-group (lane_at s k) x.held) in
                (r.small, record { group = r.group ∙ x.grp; slot = row-slot t s rows k g solid.back_whole hi x.held x.grp ∙ place (slot_at B (lane_at s k)) (start_slot t g) b x.at (win.from k ing) (win.to k ing) hb });
          }
        where
          passes : (k : ℕ) → 0 < times k (sift (λ k. in_list B g b (lane_at s k)) s.order) → (y : Bool) → in_list B g b (lane_at s k) ≡ y → in_list B g b (lane_at s k) ≡ true
          passes k n true e = e
          passes k n false e = absurd (omega (arith, n, times-sift (λ k. in_list B g b (lane_at s k)) k s.order, ap (λ (y : Bool). ◌+◌ (if y then times k s.order else 0) 0) e))

          place : (x a b : ℕ) → x % 32 ≡ b → a ≤ x → x < a + 32 → b < 32 → x ≡ a + (b + 32 - a % 32) % 32
          place x a b e p q r = omega arith

      group-fine : GroupFine t g
      group-fine =
          record {
            narrow = rw (← map_on t g has) (solid.fills g lo hi).narrow;
            whole = omega (arith, whole, whole-slots B g solid.back_whole hi);
            first = first_on;
            rings = ring-fine;
          }

    pub agrees-stored : ListsStored t lanes
    agrees-stored =
        record {
          back_whole = solid.back_whole;
          back_small = solid.back_small;
          low = low-zero;
          high = solid.high;
          fine = group-fine;
          once = λ k. ap (times k) (in_a_row t low-zero ∙ sym order) ∙ good.order k ∙ sym (word k);
        }
