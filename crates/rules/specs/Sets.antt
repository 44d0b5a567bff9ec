-- The four group sets (docs/RULES.md, R4).
--
--   group_start     a group's start, if it holds records
--   blocked        an eligible group of a higher index finishes before this one
--   ready ..       the tests of the four words
--   set_word        the word of the groups at which a test passes
--   SetsRule       what is true of the four words
--
-- Assumes nothing.
use Rattle.std.specs.Prelude.{ℕ, ◌+◌, ◌*◌, ◌^◌, ◌≤◌, ◌<◌, ◌≡◌, Bool, true, false, not, ◌&&◌, List, leb, ltb, eqb}
use Rattle.std.proofs.Math.Option.{Option, none, some}
use Rattle.std.specs.Int.Count.{count_trailing_zeros}
use Rattle.units.specs.Plain.{count, any_below, word_of}
use Rattle.rules.specs.State.{Lane, State, group, holds, lane_at}
use Rattle.rules.specs.Choice.{Candidate, choose, least_of}

-- R4.5: group indices are below 32, so that one word holds each set
abbrev pub groups : ℕ
groups = 32

unfoldable pub in_group : ℕ → Lane → Bool
in_group i l = holds l && eqb (group l.given) i

-- R4.1: a group starts with the least R of its lanes that hold records. One slot serves them all, so its finish follows from that.
unfoldable pub group_start : List Lane → ℕ → Option ℕ
group_start ls i = least_of (in_group i) ls

unfoldable pub held_start : Option ℕ → Bool
held_start none = false
held_start (some r) = true

unfoldable pub reached : ℕ → Option ℕ → Bool
reached v none = false
reached v (some r) = leb r v

unfoldable pub finish_from : ℕ → Option ℕ → ℕ
finish_from i none = 0
finish_from i (some r) = r + 2 * 2 ^ i

-- R4.1
unfoldable pub group_holds : List Lane → ℕ → Bool
group_holds ls i = held_start (group_start ls i)

-- R4.2: V has reached its start
unfoldable pub group_eligible : ℕ → List Lane → ℕ → Bool
group_eligible v ls i = reached v (group_start ls i)

-- R4.1
unfoldable pub group_finish : List Lane → ℕ → ℕ
group_finish ls i = finish_from i (group_start ls i)

-- R4.3: group k, of a higher index and eligible, finishes before group i; an equal finish does not block
unfoldable pub blocks : ℕ → List Lane → ℕ → ℕ → Bool
blocks v ls i k = ltb i k && (group_eligible v ls k && ltb (group_finish ls k) (group_finish ls i))

-- R4.3
unfoldable pub blocked : ℕ → List Lane → ℕ → Bool
blocked v ls i = any_below (blocks v ls i) groups

-- R4.4: ER, and then IR, EB and IB
unfoldable pub ready : ℕ → List Lane → ℕ → Bool
ready v ls i = group_eligible v ls i && not (blocked v ls i)

-- R4.4
unfoldable pub ineligible_ready : ℕ → List Lane → ℕ → Bool
ineligible_ready v ls i = group_holds ls i && (not (group_eligible v ls i) && not (blocked v ls i))

-- R4.4
unfoldable pub eligible_blocked : ℕ → List Lane → ℕ → Bool
eligible_blocked v ls i = group_eligible v ls i && blocked v ls i

-- R4.4
unfoldable pub ineligible_blocked : ℕ → List Lane → ℕ → Bool
ineligible_blocked v ls i = group_holds ls i && (not (group_eligible v ls i) && blocked v ls i)

-- R4.4: bit i is the test at group i
abbrev pub set_word : (ℕ → List Lane → ℕ → Bool) → State → ℕ
set_word p s = word_of (p s.clock s.lanes) groups

-- R4.7: the lowest bit of ER
abbrev pub first_group : State → ℕ
first_group s = count_trailing_zeros 64 (set_word ready s)

-- ---- what they mean, as a claim about one state (proofs/BySets.antt: it holds of every good one)

pub record SetsRule (s : State) : Type 0 where
  -- R4.6: a group that holds records is in one of the four words, any other in none
  pub parted : (i : ℕ)
      → count (ready s.clock s.lanes i) + count (ineligible_ready s.clock s.lanes i)
      + count (eligible_blocked s.clock s.lanes i) + count (ineligible_blocked s.clock s.lanes i)
      ≡ count (group_holds s.lanes i)
  -- R4.7: that of the chosen lane
  pub first : (c : Candidate) → choose s ≡ some c → first_group s ≡ group (lane_at s c.lane).given
  -- R4.8: along ER the finishes stay or rise
  pub rising : (i k : ℕ) → i < k → k < groups → ready s.clock s.lanes i ≡ true → ready s.clock s.lanes k ≡ true
      → group_finish s.lanes i ≤ group_finish s.lanes k
