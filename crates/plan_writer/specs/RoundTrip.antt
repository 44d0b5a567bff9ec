-- Writing and reading go back and forth: the promises, of the two calls' own answers. (`Writes` is what `write_setup` ensures, and `setup_reply r ≡ read_setup s`
-- what `read_setup` does.) proofs/Calls.antt has the theorem of each: `reads-back-calls` and so on.
--
--   SetupReadsBack    R9.5: what was written is read as the same plan, also where other bytes stand behind it
--   SetupWritesBack   R9.6: a setup read in the form comes back as its own bytes
--   Rewritten         R9.6: any setup that is read is within the numbers; it is written in the form, and read again as the same plan; the bytes are its own only
--                     if it is in the form
--   OnlyOutside       R9.3: 55 is given exactly for plans outside the numbers; OnlyShort: 56 exactly for buffers that are too short for a plan within them
--   SetupSizeMost     R9.2: no plan within the numbers has more than 780 bytes
--
-- Assumes nothing.
use Rattle.std.specs.Prelude.{ℕ, ◌≤◌, ◌<◌, ◌≡◌, List, ◌++◌, length, drop, take, Result, Ok}
use Rattle.fields.specs.Bytes.{Bytes}
use Rattle.plan.specs.Read as r
use Rattle.plan.specs.Read.{setup_read, read_plan, read_setup, setup_reply}
use Rattle.plan.specs.declared.Plan.{Plan}
use Rattle.plan.specs.declared.Reading.{Reading}
use Rattle.plan_writer.specs.Format.{InForm}
use Rattle.plan_writer.specs.declared.Unwritten.{Unwritten}
use Rattle.plan_writer.specs.Write.{Planned, planned, Within, setup_bytes, setup_size, written_size, not_written, write_reply, Writes}

-- The reader's reply that is this plan, read as far as a place.
abbrev pub read_as : Planned → ℕ → r.SetupReply
read_as p next = setup_read p.format p.lanes p.count next

unfoldable pub SetupReadsBack : Type 0
SetupReadsBack =
    (p : Plan) (before after : List ℕ) (a : Result ℕ Unwritten) (k : ℕ) → Writes (planned p) before a after → write_reply a ≡ written_size k
    → (read_setup (take k after) ≡ read_as (planned p) k) × (read_plan after 0 ≡ read_as (planned p) k)

unfoldable pub SetupWritesBack : Type 0
SetupWritesBack =
    (s : List ℕ) → Bytes s → InForm s → (r : Reading) → setup_reply (Ok r) ≡ read_setup s
    → (before after : List ℕ) (a : Result ℕ Unwritten) → Writes (planned r.plan) before a after → length s ≤ length before
    → (write_reply a ≡ written_size (length s)) × (after ≡ s ++ drop (length s) before)

unfoldable pub Rewritten : Type 0
Rewritten =
    (s : List ℕ) (p : Planned) (next : ℕ) → read_setup s ≡ read_as p next
    → Within p × (read_setup (setup_bytes p) ≡ read_as p (setup_size p)) × InForm (setup_bytes p) × (setup_bytes p ≡ s → InForm s)

unfoldable pub OnlyOutside : Type 0
OnlyOutside =
    (p : Planned) (before after : List ℕ) (a : Result ℕ Unwritten) → Writes p before a after
    → ((Within p → ⊥) → write_reply a ≡ not_written 55) × (write_reply a ≡ not_written 55 → Within p → ⊥)

unfoldable pub OnlyShort : Type 0
OnlyShort =
    (p : Planned) (before after : List ℕ) (a : Result ℕ Unwritten) → Writes p before a after
    → (Within p → length before < setup_size p → write_reply a ≡ not_written 56) × (write_reply a ≡ not_written 56 → Within p × (length before < setup_size p))

unfoldable pub SetupSizeMost : Type 0
SetupSizeMost = (p : Planned) → Within p → setup_size p ≤ 780
