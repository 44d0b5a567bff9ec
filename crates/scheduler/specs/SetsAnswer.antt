-- The four words that `sets` answers (docs/RULES.md, R4), as the host gets them: what their bits say of the table.
--
--   bit           bit i of a word (crate words)
--   SetsAnswer    what the rules say of the four words
--   SetsCall      the claim, of the call's own answer on any good table
--
-- Assumes nothing.
use Rattle.std.specs.Prelude.{ℕ, ◌+◌, ◌^◌, ◌≤◌, ◌<◌, ◌≡◌, List}
use Rattle.std.specs.Int.Count.{count_trailing_zeros}
use Rattle.words.specs.Bits.{bit}
use Rattle.rules.specs.State.{State, group, lane_at}
use Rattle.units.specs.Plain.{count}
use Rattle.rules.specs.Sets.{groups, group_holds, group_finish}
use Rattle.rules.specs.Calls.{sets, look, words, seen, step}
use Rattle.rules.specs.Reads.{reads}
use Rattle.rules.specs.declared.Answer.{Answer}
use Rattle.std.specs.Prelude.{Result}
use Rattle.rules.specs.declared.Refusal.{Refusal}
use Rattle.table.specs.Means.{meant}
use Rattle.paged.specs.Paged.{GoodUnit}
use Rattle.scheduler.specs.Step.{Step}

pub record SetsAnswer (s : State) (er ir eb ib : ℕ) : Type 0 where
  -- R4.6: of a group's four bits one is set if the group holds records, and none else
  pub parted : (i : ℕ) → i < groups → bit i er + bit i ir + bit i eb + bit i ib ≡ count (group_holds s.lanes i)
  -- R4.5: group indices are below 32
  pub small : (er < 2 ^ 32) × (ir < 2 ^ 32) × (eb < 2 ^ 32) × (ib < 2 ^ 32)
  -- R4.7: the lowest bit of ER is the group of the lane that look names, and take serves
  pub first : (j k m n : ℕ) → (step s look).reply ≡ seen j k m n → count_trailing_zeros 64 er ≡ group (lane_at s j).given
  -- R4.8: up the bits of ER the groups' finishes stay equal or rise
  pub rising : (i k : ℕ) → i < k → k < groups → bit i er ≡ 1 → bit k er ≡ 1 → group_finish s.lanes i ≤ group_finish s.lanes k

-- R4.5 to R4.8
unfoldable pub SetsCall : Type 0
SetsCall =
    (t u : List ℕ) (a : Result Answer Refusal) (er ir eb ib : ℕ) → GoodUnit t → Step sets t a u → reads a ≡ words er ir eb ib
    → SetsAnswer (meant t) er ir eb ib
