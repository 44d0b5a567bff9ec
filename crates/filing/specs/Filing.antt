-- Lanes filed in slot lists, beside a state of the rules (R6.11). QFQ keeps the lanes of a group in lists, one for each slot in which an S may lie; a slot's
-- list is used again 32 slots later.
--
--   sift         the numbers of a list at which a test passes, in the list's order
--   Whole        what may have been taken off the clock: multiples of 2^31, so whole slots of every group
--   slot_at       the number of the slot in which a lane's S lies, by the endless clock: (S + B) / s
--   never        a time later than all that a good table has
--   in_list       a lane holds records, is of group g, and its slot is b modulo 32
--   in_aRow       all lists one behind the other: a tie order
--   Filing       each list is the tie order's lanes that stand there
--   Starting     each group's start is the least R of its lanes
--   Agrees       both
--   Window       every holding lane of group g has its slot among the 32 from a on
--   LeastGroup   the group of least finish among those whose start is at most V, the lowest of them
--
-- B is what was taken off the clock so far. The lists are numbered by the endless clock S + B, so that none of them moves when the clock is taken back.
-- Assumes nothing.
use Rattle.std.specs.Prelude.{ℕ, zero, suc, ◌+◌, ◌*◌, ◌/◌, ◌%◌, ◌^◌, ◌≤◌, ◌<◌, ◌≡◌, Bool, true, ◌&&◌, List, [], ◌∷◌, ◌++◌, eqb, if◌then◌else◌}
use Rattle.std.proofs.Math.Option.{Option, none, some}
use Rattle.rules.specs.State.{Lane, State, slot, lane_at}
use Rattle.rules.specs.Sets.{in_group, group_start}
pub use Rattle.parts.specs.Parts.{slot_list_count}
use Rattle.parts.specs.Parts.{lowest_group, highest_group, group_count}

unfoldable pub sift : (ℕ → Bool) → List ℕ → List ℕ
sift p [] = []
sift p (k ∷ ks) = if p k then k ∷ sift p ks else sift p ks

abbrev pub front_of : List ℕ → Option ℕ
front_of [] = none
front_of (k ∷ ks) = some k

-- the slots of all groups divide those of the highest one
abbrev pub Whole : ℕ → Type 0
Whole B = B % 2 ^ highest_group ≡ 0

abbrev pub slot_at : ℕ → Lane → ℕ
slot_at B l = (l.start + B) / slot l.given

unfoldable pub in_list : ℕ → ℕ → ℕ → Lane → Bool
in_list B g b l = in_group g l && eqb (slot_at B l % slot_list_count) b

-- later than any start and any finish of a good table: those are below 2^64 - 1
abbrev pub never : ℕ
never = 18446744073709551615

abbrev pub Lists : Type 0
Lists = ℕ → ℕ → List ℕ

-- lists one behind the other, the first n of them
unfoldable pub flat : ℕ → (ℕ → List ℕ) → List ℕ
flat zero f = []
flat (suc n) f = flat n f ++ f n

-- all lists, by group and number, one behind the other
unfoldable pub in_aRow : Lists → List ℕ
in_aRow lists = flat group_count (λ i. flat slot_list_count (lists (lowest_group + i)))

abbrev pub Filing : ℕ → Lists → State → Type 0
Filing B lists s = (g b : ℕ) → lowest_group ≤ g → g ≤ highest_group → b < slot_list_count → lists g b ≡ sift (λ k. in_list B g b (lane_at s k)) s.order

abbrev pub Starting : (ℕ → Option ℕ) → State → Type 0
Starting starts s = (g : ℕ) → lowest_group ≤ g → g ≤ highest_group → starts g ≡ group_start s.lanes g

pub record Agrees (B : ℕ) (lists : Lists) (starts : ℕ → Option ℕ) (s : State) : Type 0 where
  pub filed : Filing B lists s
  pub started : Starting starts s

pub record Window (B : ℕ) (s : State) (g a : ℕ) : Type 0 where
  pub from : (k : ℕ) → in_group g (lane_at s k) ≡ true → a ≤ slot_at B (lane_at s k)
  pub to : (k : ℕ) → in_group g (lane_at s k) ≡ true → slot_at B (lane_at s k) < a + slot_list_count

pub record LeastGroup (starts : ℕ → Option ℕ) (v g r : ℕ) : Type 0 where
  pub low : lowest_group ≤ g
  pub high : g ≤ highest_group
  pub start : starts g ≡ some r
  pub reached : r ≤ v
  pub finish : (i q : ℕ) → lowest_group ≤ i → i ≤ highest_group → starts i ≡ some q → q ≤ v → r + 2 * 2 ^ g ≤ q + 2 * 2 ^ i
  pub lowest : (i q : ℕ) → lowest_group ≤ i → i ≤ highest_group → starts i ≡ some q → q ≤ v → r + 2 * 2 ^ g ≡ q + 2 * 2 ^ i → g ≤ i
