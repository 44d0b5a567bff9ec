-- What a pass over the groups' starts finds: the group that is served next, and where the clock settles.
--
--   preferred   one group more is looked at
--   Leads       what was found is the best of the groups below n
--   Earliest    what was found is the least start of the groups below n
--   Settles     the clock where no start is at most v, and else v
--
-- Assumes nothing.
use Rattle.std.specs.Prelude.{◌≡◌, ◌⊎◌, ℕ, ◌+◌, ◌*◌, ◌^◌, ◌≤◌, ◌<◌, ltb, if◌then◌else◌}
use Rattle.std.proofs.Math.Option.{Option, none, some}
use Rattle.filing.specs.Filing.{never}
use Rattle.filing.proofs.LeastStart.{LeastStart}
use Rattle.groups.specs.declared.Front.{Front}

abbrev pub front : ℕ → ℕ → Front
front g r = record { group = g; finish = r + 2 * 2 ^ g }

abbrev pub preferred : Front → ℕ → ℕ → ℕ → Front
preferred f g r v = if ltb v r then f else if ltb (r + 2 * 2 ^ g) f.finish then front g r else f

pub record LeadsAt (starts : ℕ → Option ℕ) (v n : ℕ) (f : Front) : Type 0 where
  pub low : 16 ≤ f.group
  pub high : f.group ≤ 31
  pub below : f.group < n
  -- the group's start
  pub from : ℕ
  pub start : starts f.group ≡ some from
  pub small : from < 2 ^ 63
  pub sum : f.finish ≡ from + 2 * 2 ^ f.group
  pub reached : from ≤ v
  pub finish : (i q : ℕ) → 16 ≤ i → i ≤ 31 → i < n → starts i ≡ some q → q ≤ v → f.finish ≤ q + 2 * 2 ^ i
  pub lowest : (i q : ℕ) → 16 ≤ i → i ≤ 31 → i < n → starts i ≡ some q → q ≤ v → f.finish ≡ q + 2 * 2 ^ i → f.group ≤ i

abbrev pub LeadsNone : (ℕ → Option ℕ) → ℕ → ℕ → Front → Type 0
LeadsNone starts v n f = (f.finish ≡ never) × ((i q : ℕ) → 16 ≤ i → i ≤ 31 → i < n → starts i ≡ some q → v < q)

abbrev pub Leads : (ℕ → Option ℕ) → ℕ → ℕ → Front → Type 0
Leads starts v n f = LeadsNone starts v n f ⊎ LeadsAt starts v n f

pub record EarliestAt (starts : ℕ → Option ℕ) (n r : ℕ) : Type 0 where
  pub at : ℕ
  pub low : 16 ≤ at
  pub high : at ≤ 31
  pub start : starts at ≡ some r
  pub small : r < 2 ^ 63
  pub bound : (i q : ℕ) → 16 ≤ i → i ≤ 31 → i < n → starts i ≡ some q → r ≤ q

abbrev pub EarliestNone : (ℕ → Option ℕ) → ℕ → ℕ → Type 0
EarliestNone starts n r = (r ≡ never) × ((i q : ℕ) → 16 ≤ i → i ≤ 31 → i < n → starts i ≡ some q → ⊥)

abbrev pub Earliest : (ℕ → Option ℕ) → ℕ → ℕ → Type 0
Earliest starts n r = EarliestNone starts n r ⊎ EarliestAt starts n r

-- R3.14, by the groups' starts: r is the clock after v
pub data Settles (starts : ℕ → Option ℕ) (v r : ℕ) : Type 0 where
  stays : (i q : ℕ) → 16 ≤ i → i ≤ 31 → starts i ≡ some q → q ≤ v → r ≡ v → Settles starts v r
  none_starts : ((i : ℕ) → 16 ≤ i → i ≤ 31 → starts i ≡ none) → r ≡ v → Settles starts v r
  jumps : LeastStart starts r → v < r → Settles starts v r
