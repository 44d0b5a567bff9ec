-- The small halt: its setup, a table that is its own, and the promises of its calls, by those of the scheduler.
--
--   halt_lane     the setting of one of its lanes, by its weight
--   halt_setup    its setup: lanes 0 to 3 of weights 512, 256, 128 and 128, and no other
--   HaltTable    a good table of that setup, with no page that waits
--   HaltStep     of put, take, look, sets, lag and restart
--   OtherPlan    a setup that reads, and is not the halt's; OwnPlan: one that is, or does not read; Judged: a test that tells the two apart
--   HaltMake     of making
--
-- Assumes nothing.
use Rattle.std.specs.Prelude.{ℕ, ◌≤◌, ◌≡◌, Bool, true, false, List, ◌∷◌, length, replicate, Result, Ok, Err}
use Rattle.std.proofs.Math.Option.{none}
use Rattle.rules.specs.State.{Setting, no_setting, setup_of}
use Rattle.rules.specs.Calls.{Call, refused}
use Rattle.rules.specs.Reads as rules
use Rattle.rules.specs.Reads.{number, place_of}
use Rattle.rules.specs.declared.Answer.{Answer}
use Rattle.rules.specs.declared.Refusal.{Refusal}
use Rattle.editions.specs.Part.{waiting_in}
use Rattle.plan.specs.Read.{read_setup, SetupReply, setup_refused, setup_read}
use Rattle.table.specs.Layout.{table_size}
use Rattle.table.specs.Means.{meant}
use Rattle.paged.specs.Paged.{part_of, GoodUnit}
use Rattle.scheduler.specs.Step.{Step}
use Rattle.scheduler.specs.Make.{MakeStep, made, not_made, MakeReply, make_reply}
use Rattle.halt.specs.declared.NotMade.{NotMade}
use Rattle.halt.specs.declared.NotMade.TheVariants.{NotAHalt, Refused}

-- R20.1
abbrev pub halt_lane : ℕ → Setting
halt_lane w = record { weight = w; longest = 256; framing = 0; shared = false }

-- R20.1
unfoldable pub halt_setup : List Setting
halt_setup = halt_lane 512 ∷ halt_lane 256 ∷ halt_lane 128 ∷ halt_lane 128 ∷ replicate 60 no_setting

-- R20.3: any edition may have been taken
pub record HaltTable (t : List ℕ) : Type 0 where
  pub good : GoodUnit t
  pub setup : setup_of (meant t) ≡ halt_setup
  pub free : waiting_in (part_of t) ≡ none

-- R20.3, R20.4: the call c on the bytes `before` is answered a and leaves the bytes `after`: on the halt's table as the scheduler's call, on any other bytes by
-- 10, and they stay.
pub record HaltStep (c : Call) (before : List ℕ) (a : Result Answer Refusal) (after : List ℕ) : Type 0 where
  pub other : (HaltTable before → ⊥) → (rules.reads a ≡ refused 10 none) × (after ≡ before)
  -- R20.4
  pub same : HaltTable before → Step c before a after

-- R20.2: the settings decide, whatever bytes or format they were given in
abbrev pub OtherPlan : SetupReply → Type 0
OtherPlan (setup_refused n p) = ⊥
OtherPlan (setup_read format gs lanes at) = gs ≡ halt_setup → ⊥

-- R20.2
abbrev pub OwnPlan : SetupReply → Type 0
OwnPlan (setup_refused n p) = Unit {0}
OwnPlan (setup_read format gs lanes at) = gs ≡ halt_setup

-- R20.2: the test of a setup's bytes says which of the two it is
abbrev pub Judged : Bool → SetupReply → Type 0
Judged true r = OtherPlan r
Judged false r = OwnPlan r

-- R20.2: 90 has no place
abbrev pub halt_reply : Result ℕ NotMade → MakeReply
halt_reply (Ok n) = made n
halt_reply (Err NotAHalt) = not_made 90 none
halt_reply (Err (Refused x)) = not_made (number x) (place_of x)

-- R20.2: 90 where there is room and the setup reads and is another one; else making is the scheduler's, so 7 and what is wrong with the setup come first.
pub record HaltMake (setup before : List ℕ) (a : Result ℕ NotMade) (after : List ℕ) : Type 0 where
  pub other : table_size ≤ length before → OtherPlan (read_setup setup) → (halt_reply a ≡ not_made 90 none) × (after ≡ before)
  pub same : (table_size ≤ length before → OtherPlan (read_setup setup) → ⊥)
      → (m : Result ℕ Refusal) × MakeStep setup before m after × (halt_reply a ≡ make_reply m)
  -- so a table that was made is the halt's
  pub own : (n : ℕ) → halt_reply a ≡ made n → OwnPlan (read_setup setup)
