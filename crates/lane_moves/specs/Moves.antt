-- What it leaves that a lane got its S, or a new one.
--
--   Added      a lane that was in no list got its S
--   Onward     a group's start is the next list that has lanes, or the group has none
--   TellsReached   whether the clock has reached a group's start
--   Closing    a group's words were stored after a lane left
--   Refiled    the first lane of a group's start was served
--
-- Assumes nothing.
use Rattle.std.specs.Prelude.{◌≡◌, Bool, true, false, ◌⊎◌, ℕ, ◌+◌, ◌*◌, ◌/◌, ◌^◌, ◌≤◌, ◌<◌, List, [], ◌∷◌, ◌++◌, length, drop}
use Rattle.std.proofs.Math.Option.{none, some}
use Rattle.rules.specs.Choice.{least}
use Rattle.slot_lists.specs.Lists.{list_at, start_at, Solid}
pub use Rattle.slot_lists.specs.Lists.{slot_of, list_of}
use Rattle.slot_lists.specs.Changes.{Apart, GroupStored, Nearest}
use Rattle.filing.specs.Filing.{Lists, never}
use Rattle.filing.proofs.Moves.{Changed}
use Rattle.filing.proofs.Starts.{NextList}

pub record Added (before after : List ℕ) (g s k : ℕ) : Type 0 where
  pub apart : Apart before after
  pub lists : Changed (list_at before) (list_at after) g (list_of before g s) (list_at before g (list_of before g s) ++ (k ∷ []))
  pub start : start_at after g ≡ least (s / 2 ^ g * 2 ^ g) (start_at before g)
  pub starts : (i : ℕ) → 16 ≤ i → i ≤ 31 → (i ≡ g → ⊥) → start_at after i ≡ start_at before i
  pub solid : Solid after

-- r is the old start, `slot` its slot
pub data Onward (t : List ℕ) (g r slot : ℕ) : Type 0 where
  nowhere : ((b : ℕ) → b < 32 → list_at t g b ≡ []) → start_at t g ≡ none → Onward t g r slot
  onto : (d : ℕ) → NextList (list_at t) g slot d → start_at t g ≡ some (r + d * 2 ^ g) → Onward t g r slot

-- q is the group's start, r its old one: of a clock that had reached r, x tells whether it has reached q
abbrev pub TellsReached : ℕ → ℕ → ℕ → Type 0
TellsReached r q x = (v : ℕ) → r ≤ v → x ≤ v → q ≤ v

-- m is the word of the group's lists, b the list of its old start r
pub data Closing (before after : List ℕ) (g m r b x : ℕ) : Type 0 where
  empty : m ≡ 0 → x ≡ never → GroupStored before after g 0 0 → Closing before after g m r b x
  onward : (d q : ℕ) → 0 < m → Nearest m b d → q ≡ r + d * 2 ^ g → TellsReached r q x → GroupStored before after g m q → Closing before after g m r b x

-- the list c of the new S has room, also where it is the list b that the lane leaves
abbrev pub Rooms : List ℕ → ℕ → ℕ → ℕ → Type 0
Rooms t g b c = (length (list_at t g b) ≤ 64) × ((c ≡ b → ⊥) → length (list_at t g c) < 64)

-- x tells whether the clock has reached the group's start after it; never where the group has none
pub record Refiled (before after : List ℕ) (g start s k : ℕ) (more : Bool) (x : ℕ) : Type 0 where
  pub apart : Apart before after
  -- the lists after the lane left
  pub between : Lists
  pub off : Changed (list_at before) between g (list_of before g start) (drop 1 (list_at before g (list_of before g start)))
  pub again : more ≡ true → Changed between (list_at after) g (list_of before g s) (between g (list_of before g s) ++ (k ∷ []))
  pub last : more ≡ false → Changed (list_at before) (list_at after) g (list_of before g start) (drop 1 (list_at before g (list_of before g start)))
  pub onward : Onward after g start (slot_of before g start)
  pub starts : (i : ℕ) → 16 ≤ i → i ≤ 31 → (i ≡ g → ⊥) → start_at after i ≡ start_at before i
  pub solid : Solid after
  pub now : (x ≡ never) ⊎ ((q : ℕ) × (start_at after g ≡ some q) × TellsReached start q x)
