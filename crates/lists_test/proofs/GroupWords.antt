-- A group's words, as they were read: its map, its start, and what was taken off the clock. Assumes nothing.
use mathlib.Core.Path.{◌≡◌, sym, ap, subst, ◌∙◌}
use Prim.Native.Nat.{ℕ, ◌+◌, ◌-◌, ◌*◌, ◌/◌, ◌%◌, ◌^◌, ◌≤◌, ◌<◌}
use mathlib.Core.List.{List}
use native.Mathlib.Nat.{mod-eq_of_lt, div-mul-le_self, mul-le-mul_left}
use native.Mathlib.Omega.{arith}
use lib.Pow.{pow_mono, shr_le}
use Rattle.words.specs.Bits.{bit}
use Rattle.words.specs.Words.{word_at}
use Rattle.slot_lists.specs.Lists.{back_at, map_word, start_word, ring_number}
use Rattle.std.specs.Prelude.{Option}
use Rattle.lists_test.specs.Stored.{RingFine, start_slot, list_slot, GroupFine, RingSays}

-- no sum of slots is near the end of a word
pub slot_small : (g start back : ℕ) → 16 ≤ g → start < 2 ^ 64 → back < 2 ^ 36 → start / 2 ^ g + back / 2 ^ g < 2 ^ 63
slot_small g start back lo a b = omega (arith, div-mul-le_self start (2 ^ g), mul-le-mul_left (start / 2 ^ g) (pow_mono {i = 16} {j = g} lo), shr_le back g)

module _ (t : List ℕ) (g map start back : ℕ) (m : map ≡ word_at t (map_word g)) (s : start ≡ word_at t (start_word g)) (b : back ≡ back_at t) where
  abbrev slot : ℕ
  slot = start / 2 ^ g + back / 2 ^ g

  slot_is : slot ≡ start_slot t g
  slot_is = ap (λ (x : ℕ). x / 2 ^ g + back / 2 ^ g) s ∙ ap (λ (x : ℕ). word_at t (start_word g) / 2 ^ g + x / 2 ^ g) b

  -- a start that is not whole
  pub not-whole : start < 2 ^ 64 → (start / 2 ^ g * 2 ^ g % 2 ^ 64 ≡ start → ⊥) → GroupFine t g → ⊥
  not-whole fits bad fine = bad (subst (λ (x : ℕ). x < 2 ^ 64 → x / 2 ^ g * 2 ^ g % 2 ^ 64 ≡ x) (sym s) (λ h. ap (λ (y : ℕ). y % 2 ^ 64) fine.whole ∙ mod-eq_of_lt h) fits)

  -- the bit of the start's slot
  first_bit : (n : ℕ) → bit (slot % 32) map ≡ n → bit (start_slot t g % 32) (word_at t (map_word g)) ≡ n
  first_bit n e = subst (λ (x : ℕ). bit (x % 32) (word_at t (map_word g)) ≡ n) slot_is (subst (λ (y : ℕ). bit (slot % 32) y ≡ n) m e)

  pub not_first : bit (slot % 32) map ≡ 0 → GroupFine t g → ⊥
  not_first e fine = omega (arith, first_bit 0 e, fine.first)

  -- what the walk over a ring said
  pub ring-told : (i n met : ℕ) (r r' : Option ℕ) → n ≡ ring_number g i → RingSays t n g (slot + (i + 32 - slot % 32) % 32) met r → r ≡ r' → RingSays t (ring_number g i) g (list_slot t g i) met r'
  ring-told i n met r r' en h e =
      subst (RingSays t (ring_number g i) g (list_slot t g i) met) e
      (subst (λ (x : ℕ). RingSays t (ring_number g i) g (x + (i + 32 - x % 32) % 32) met r) slot_is
      (subst (λ (x : ℕ). RingSays t x g (slot + (i + 32 - slot % 32) % 32) met r) en h))

  pub group-fine : word_at t (map_word g) < 2 ^ 32 → start < 2 ^ 64 → start / 2 ^ g * 2 ^ g % 2 ^ 64 ≡ start → bit (slot % 32) map ≡ 1
      → ((i : ℕ) → i < 32 → bit i (word_at t (map_word g)) ≡ 1 → RingFine t (ring_number g i) g (list_slot t g i)) → GroupFine t g
  group-fine narrow fits own first rings =
      let below : start / 2 ^ g * 2 ^ g < 2 ^ 64 = omega (arith, div-mul-le_self start (2 ^ g)) in
      record {
        narrow = narrow;
        whole = subst (λ (x : ℕ). x / 2 ^ g * 2 ^ g ≡ x) s (sym (mod-eq_of_lt below) ∙ own);
        first = first_bit 1 first;
        rings = rings;
      }
