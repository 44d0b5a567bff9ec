-- The lists that the test walks, in a row, are the table's tie order; and what the lanes' own words say, as the test reads them. Assumes nothing.
use mathlib.Core.Path.{◌≡◌, refl, sym, ap, ◌∙◌}
use mathlib.Core.Bool.{true}
use mathlib.Core.Logic.{⊎_elim}
use Prim.Native.Nat.{ℕ, zero, suc, ◌+◌, ◌-◌, ◌/◌, ◌%◌, ◌^◌, ◌≤◌, ◌<◌}
use mathlib.Core.List.{List, [], ◌++◌}
use native.Mathlib.Omega.{arith}
use Rattle.words.specs.Bits.{bit}
use Rattle.words.specs.Words.{word_at}
use Rattle.words.proofs.Runs.{eq-or-ne}
use Rattle.table.specs.Layout.{cells, row_at}
use Rattle.slot_lists.specs.Lists.{groups_at, back_at, map_word, map_of, list_at}
use Rattle.slot_lists.proofs.Laws.{map_on, map-held, some-bit, list_on, list-off}
use Rattle.rules.specs.State.{State, group, slot, holds, lane_at}
use Rattle.filing.specs.Filing.{slot_at, flat, in_aRow}
use Rattle.units.proofs.Whole.{slot-part}
use Rattle.filing.proofs.Flat.{flat-skip, flat-ext}
use Rattle.lists_test.specs.Stored.{slot_number, ring_in, group_in}
use Rattle.lists_test.proofs.WordBits.{bit-over}
use Rattle.lists_test.proofs.ListWalk.{ring_in_lem, ring_out}
use Rattle.lists_test.proofs.GroupWalk.{group-in, group-out}

-- ---- the lists by the words and by the rings

flat-drop : (n m : ℕ) (f : ℕ → List ℕ) → ((i : ℕ) → i < n → f i ≡ []) → flat (n + m) f ≡ flat m (λ i. f (n + i))
unfolding flat
flat-drop n zero f h = flat-skip 0 (n + 0) f (omega arith) (λ i p q. h i (omega arith))
flat-drop n (suc m) f h = ap (λ (x : ℕ). flat x f) (next n m) ∙ ap (λ (l : List ℕ). l ++ f (n + m)) (flat-drop n m f h)
  where
    next : (n m : ℕ) → n + suc m ≡ suc (n + m)
    next n m = omega arith

flat-nil : (f : ℕ → List ℕ) → flat 0 f ≡ []
unfolding flat
flat-nil f = refl

module _ (t : List ℕ) where
  ring-list : (g b : ℕ) → bit g (groups_at t) ≡ 1 → ring_in t g b ≡ list_at t g b
  ring-list g b e =
      ⊎_elim
      (λ (p : bit b (word_at t (map_word g)) ≡ 1). ring_in_lem t g b p ∙ sym (list_on t g (map_of t g) b (ap (bit b) (map_on t g e) ∙ p)))
      (λ (p : bit b (word_at t (map_word g)) ≡ 1 → ⊥). ring_out t g b p ∙ sym (list-off t g (map_of t g) b (λ q. p (sym (ap (bit b) (map_on t g e)) ∙ q))))
      (eq-or-ne (bit b (word_at t (map_word g))) 1)

  no-list : (g b : ℕ) → (bit g (groups_at t) ≡ 1 → ⊥) → list_at t g b ≡ []
  no-list g b ne = list-off t g (map_of t g) b (λ e. ne (map-held t g (some-bit b (map_of t g) e)))

  group-list : (g : ℕ) → group_in t g ≡ flat 32 (list_at t g)
  group-list g =
      ⊎_elim
      (λ (e : bit g (groups_at t) ≡ 1). group-in t g e ∙ flat-ext 32 (ring_in t g) (list_at t g) (λ b h. ring-list g b e))
      (λ (ne : bit g (groups_at t) ≡ 1 → ⊥). group-out t g ne ∙ sym (flat-skip 0 32 (list_at t g) (omega arith) (λ b p q. no-list g b ne) ∙ flat-nil (list_at t g)))
      (eq-or-ne (bit g (groups_at t)) 1)

  pub in_a_row : groups_at t % 65536 ≡ 0 → flat 32 (group_in t) ≡ in_aRow (list_at t)
  unfolding in_aRow
  in_a_row low =
      flat-drop 16 16 (group_in t) (λ i h. group-out t i (λ e. omega (arith, bit-over i (groups_at t) low e)))
      ∙ flat-ext 16 (λ i. group_in t (16 + i)) (λ i. flat 32 (list_at t (16 + i))) (λ i h. group-list (16 + i))

-- ---- what the lanes' own words say, once the lanes are known to be good

pub record RowSays (t : List ℕ) (s : State) (k : ℕ) : Type 0 where
  pub small : k < 64
  pub group : (row_at (cells t) k).group ≡ group (lane_at s k).given
  pub time : (row_at (cells t) k).time.0 ≡ (lane_at s k).start

module _ (t : List ℕ) (s : State) (rows : (k : ℕ) → holds (lane_at s k) ≡ true → RowSays t s k) where
  abbrev B : ℕ
  B = back_at t

  -- a holding lane's slot by its row
  pub row-slot : (k g : ℕ) → B % 2 ^ 31 ≡ 0 → g ≤ 31 → holds (lane_at s k) ≡ true → group (lane_at s k).given ≡ g → slot_number t g (row_at (cells t) k).time.0 ≡ slot_at B (lane_at s k)
  unfolding slot
  row-slot k g whole hi h e =
      ap (λ (x : ℕ). x / 2 ^ g + B / 2 ^ g) (rows k h).time
      ∙ sym (ap (λ (i : ℕ). ((lane_at s k).start + B) / 2 ^ i) e ∙ slot-part B g (lane_at s k).start whole hi)
