-- What an accepted setup is, and what a refusal of one is, said without the walk. specs/Promises.antt says that exactly these are read and refused.
--
--   Laid            fields that stand one after another, from a place to a place
--   LaneFields      the fields of one lane: 0x10, and whether 0x12 stands behind it
--   Rising          lane numbers rise, from a least one on
--   LaneWithin      a lane field within the numbers; LanesWithin: each of some
--   weighed         the weights of lane fields together
--   placed_all       the lanes, with those that some fields describe
--   given_by         the setting that the fields of a lane give it
--   framed          field 0x11, where there is one; framed_by: the line's framing bytes
--   fields_of        the fields of some lanes, in order
--   setup_fields     the fields of a setup, in order: what is read, and what is written
--   AcceptedSetup   the rule for a setup that is read
--   present         how many lanes are there
--   PlanWithin      what follows of the plan of an accepted setup
--   setup_refusals   the numbers that a setup can be refused with; among: whether a number is one of some
--   wrong_at         what 50 to 54 say of the bytes at their place
--   RefusedSetup    the rule for a refusal
--
-- Assumes nothing.
use Rattle.std.specs.Prelude.{ℕ, ◌+◌, ◌≤◌, ◌<◌, ◌≡◌, Bool, true, false, not, ◌||◌, List, [], ◌∷◌, ◌++◌, leb, ltb, eqb, length, set, if◌then◌else◌}
use Rattle.std.proofs.Math.Option.{Option, some, none}
use Rattle.fields.specs.Bytes.{byte_at, big}
use Rattle.units.specs.Plain.{sum}
use Rattle.rules.specs.State.{Setting}
use Rattle.rules.specs.Setup.{Setup, InNumbers, weights}
use Rattle.fields.specs.Item.{whole_field}
use Rattle.plan.specs.Fields.{setup_item_at}
use Rattle.plan.specs.Judge.{known_format, longest_of, given, last_lane, most_framing, within}
use Rattle.plan.specs.Read.{no_lanes}
use Rattle.plan.specs.declared.parse.LaneField.{LaneField}
use Rattle.plan.specs.declared.parse.SetupField.{SetupField}
use Rattle.plan.specs.declared.parse.SetupField.TheVariants.{Format, Lane, Framing, Shared, End}

-- Each field stands whole where the one before it ends, the first at `at`, and the last ends at `next`.
unfoldable pub Laid : List ℕ → ℕ → List SetupField → ℕ → Type 0
Laid s at [] next = at ≡ next
Laid s at (f ∷ fs) next = (m : ℕ) × (setup_item_at s at ≡ whole_field f m) × Laid s m fs next

-- A lane's 0x10, and whether 0x12 with the same lane number stands directly behind it.
pub record LaneFields : Type 0 where
  pub lane : LaneField
  pub shared : Bool

-- R8.10: each lane number is above the one before it; an equal one is not.
unfoldable pub Rising : ℕ → List LaneFields → Type 0
Rising low [] = Unit
Rising low (x ∷ xs) = (low ≤ x.lane.lane) × Rising (x.lane.lane + 1) xs

-- Lanes are numbered 0 to 63; a weight is 1 to 1,024 and a longest 64 to 1,500, given or not, whatever the format and the line's framing.
pub record LaneWithin (l : LaneField) : Type 0 where
  pub number : l.lane ≤ 63
  pub numbers : (v h : ℕ) → InNumbers (given v h l)

unfoldable pub LanesWithin : List LaneFields → Type 0
LanesWithin [] = Unit
LanesWithin (x ∷ xs) = LaneWithin x.lane × LanesWithin xs

abbrev pub weighed : List LaneFields → ℕ
weighed xs = sum (λ (x : LaneFields). x.lane.weight) xs

abbrev pub given_by : ℕ → ℕ → LaneFields → Setting
given_by v h x = record { weight = x.lane.weight; longest = longest_of v x.lane.longest; framing = h; shared = x.shared }

-- The fields of each lane, in order, give it a setting.
unfoldable pub placed_all : ℕ → ℕ → List Setting → List LaneFields → List Setting
placed_all v h gs [] = gs
placed_all v h gs (x ∷ xs) = placed_all v h (set gs x.lane.lane (given_by v h x)) xs

-- 0x11 stands once or not at all ..
abbrev pub framed : Option ℕ → List SetupField
framed none = []
framed (some h) = Framing h ∷ []

-- .. and where it does not, the line has no framing bytes (R8.8).
abbrev pub framed_by : Option ℕ → ℕ
framed_by none = 0
framed_by (some h) = h

-- 0x12 behind the 0x10 of lane k, or none
abbrev pub shared_behind : Bool → ℕ → List SetupField
shared_behind true k = Shared k ∷ []
shared_behind false k = []

abbrev pub fields_of : List LaneFields → List SetupField
fields_of [] = []
fields_of (x ∷ xs) = Lane x.lane ∷ (shared_behind x.shared x.lane.lane ++ fields_of xs)

-- R8.15. The fields of a setup, in order: 0x01 with the format, 0x11 or none, the lanes' fields, 0x7F.
abbrev pub setup_fields : ℕ → Option ℕ → List LaneFields → List SetupField
setup_fields v framing lanes = Format v ∷ (framed framing ++ (fields_of lanes ++ (End ∷ [])))

-- R8.15. The fields from `at` to `next` are 0x01 with format 1 or 2, 0x11 with at most 64 or none, one or more lane fields with rising numbers, each with its
-- 0x12 behind it or not, and 0x7F; each lane field is within the numbers, and the weights sum to at most 1,024. The plan's lanes are those of the fields, each
-- with its field's setting, and n is how many they are.
pub record AcceptedSetup (s : List ℕ) (at v : ℕ) (gs : List Setting) (n next : ℕ) : Type 0 where
  pub format : known_format v ≡ true
  pub framing : Option ℕ
  pub lanes : List LaneFields
  pub laid : Laid s at (setup_fields v framing lanes) next
  pub framing_high : framed_by framing ≤ 64
  pub rising : Rising 0 lanes
  pub each : LanesWithin lanes
  pub total : weighed lanes ≤ 1024
  pub some_lane : 1 ≤ length lanes
  pub given : gs ≡ placed_all v (framed_by framing) no_lanes lanes
  pub number : n ≡ length lanes

-- A lane that is not in the setup has weight 0.
abbrev pub there : Setting → ℕ
there g = if ltb 0 g.weight then 1 else 0

-- How many lanes are in a setup.
abbrev pub present : List Setting → ℕ
present gs = sum there gs

-- R8.15. What follows of the plan: it is a setup of the rules; n is the number of its lanes, 1 to 64; its weights are those of the fields; and the setup has
-- bytes, all of them in the input.
pub record PlanWithin (s : List ℕ) (at v : ℕ) (gs : List Setting) (n next : ℕ) : Type 0 where
  pub rule : AcceptedSetup s at v gs n next
  pub setup : Setup gs
  pub are_there : present gs ≡ n
  pub some_lane : 1 ≤ n
  pub few : n ≤ 64
  pub weigh : weighed rule.lanes ≡ weights gs
  pub past : at < next
  pub within : next ≤ length s

abbrev pub setup_refusals : List ℕ
setup_refusals = 1 ∷ 2 ∷ 3 ∷ 4 ∷ 6 ∷ 50 ∷ 51 ∷ 52 ∷ 53 ∷ 54 ∷ []

abbrev pub among : List ℕ → ℕ → Bool
among [] n = false
among (m ∷ ms) n = eqb m n || among ms n

-- R8.13. The number that begins at a place of 50 to 54 is outside its numbers: a format, a lane number, a weight, a longest, framing bytes. The other refusals
-- are not about one number.
abbrev pub wrong_at : List ℕ → ℕ → ℕ → Bool
wrong_at s n p =
    if eqb n 50 then not (known_format (big s p 2))
    else (if eqb n 51 then not (leb (byte_at s p) last_lane)
    else (if eqb n 52 then not (within 1 1024 (big s p 2))
    else (if eqb n 53 then not (within 64 1500 (big s p 2))
    else (if eqb n 54 then ltb most_framing (byte_at s p) else true))))

-- A refusal of reading has one of these numbers and a place: from where reading began to the input's length, and that only for 1. What begins there is the
-- number that is wrong.
pub record RefusedSetup (s : List ℕ) (at n : ℕ) (q : Option ℕ) : Type 0 where
  pub listed : among setup_refusals n ≡ true
  pub place : ℕ
  pub is : q ≡ some place
  pub from : at ≤ length s → at ≤ place
  pub within : place ≤ length s
  pub at_the_end : place ≡ length s → n ≡ 1
  pub shows : wrong_at s n place ≡ true
