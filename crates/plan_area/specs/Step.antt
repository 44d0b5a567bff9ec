-- The promises of the two calls on a plan area (R9.8, R9.9), whole: for all bytes and every length.
--
--   AreaReply        what reading answers: the number of lanes, or a refusal's number and its place
--   AreaRead         what reading into an area comes to, by what a reader says of its bytes
--   ReadStep         the promise of `read_setup`
--   WriteStep        the promise of `write_setup`
--   AreaWritesBack   a setup that is read into an area, and is in the form, comes back as its own bytes
--   AreaReadsBack    what was written from an area is read, into any area, as the same words
--
-- The theorems of the last two are `writes-back-area` and `reads-back-area` in proofs/Back.antt. Assumes nothing.
use Rattle.std.specs.Prelude.{ℕ, ◌≤◌, ◌<◌, ◌≡◌, List, ◌++◌, length, drop, take, Result, Ok, Err}
use Rattle.std.proofs.Math.Option.{Option, some}
use Rattle.fields.specs.Bytes.{Bytes}
use Rattle.words.specs.Words.{word_at}
use Rattle.rules.specs.Reads.{number, place_of}
use Rattle.rules.specs.declared.Refusal.{Refusal}
use Rattle.plan.specs.Read.{read_setup, SetupReply, setup_refused, setup_read}
use Rattle.plan_writer.specs.Format.{InForm}
use Rattle.plan_writer.specs.Write.{setup_bytes, setup_size, written_size, write_reply, not_written}
use Rattle.plan_writer.specs.declared.Unwritten.{Unwritten}
use Rattle.plan_area.specs.Area.{area_size, AreaRoom, plan_in, ShowsPlan, AreaWithin}

pub data AreaReply : Type 0 where
  area_lanes : ℕ → AreaReply
  area_refused : ℕ → Option ℕ → AreaReply

abbrev pub area_reply : Result ℕ Refusal → AreaReply
area_reply (Ok n) = area_lanes n
area_reply (Err x) = area_refused (number x) (place_of x)

-- R14.43. Long enough, the setup decides: the plan is in the area, and the bytes past it stay; or a refusal, and the area stays.
abbrev pub AreaBySetup : SetupReply → List ℕ → Result ℕ Refusal → List ℕ → Type 0
AreaBySetup (setup_refused n p) before a after = (area_reply a ≡ area_refused n p) × (after ≡ before)
AreaBySetup (setup_read v gs n at) before a after =
    (area_reply a ≡ area_lanes n) × ShowsPlan (record { format = v; lanes = gs; count = n }) after × (drop area_size after ≡ drop area_size before)

-- R14.13: 7 where the area is too short, first and at place 0. Else it follows what a reader says of its bytes.
pub record AreaRead (said : SetupReply) (before : List ℕ) (a : Result ℕ Refusal) (after : List ℕ) : Type 0 where
  pub short : length before < area_size → (area_reply a ≡ area_refused 7 (some 0)) × (after ≡ before)
  pub follows : AreaRoom before → AreaBySetup said before a after
  pub size : length after ≡ length before

-- R14.37
abbrev pub ReadStep : (setup before : List ℕ) (a : Result ℕ Refusal) (after : List ℕ) → Type 0
ReadStep setup before a after = AreaRead (read_setup setup) before a after

-- 55 for an area that is no plan within the numbers, whatever the buffer; 56 for one that is, where the buffer is shorter than its exact size; the buffer
-- stays for both. Else the answer is the size, the plan's bytes stand first, and those past them stay.
pub record WriteStep (area before : List ℕ) (a : Result ℕ Unwritten) (after : List ℕ) : Type 0 where
  pub outside : (AreaWithin area → ⊥) → (write_reply a ≡ not_written 55) × (after ≡ before)
  pub short : AreaWithin area → length before < setup_size (plan_in area) → (write_reply a ≡ not_written 56) × (after ≡ before)
  pub written : AreaWithin area → setup_size (plan_in area) ≤ length before → (write_reply a ≡ written_size (setup_size (plan_in area))) × (after ≡ setup_bytes (plan_in area) ++ drop (setup_size (plan_in area)) before)

unfoldable pub AreaWritesBack : Type 0
AreaWritesBack =
    (s : List ℕ) → Bytes s → InForm s → (area area' : List ℕ) (g : Result ℕ Refusal) (n : ℕ) → ReadStep s area g area' → area_reply g ≡ area_lanes n
    → (before after : List ℕ) (a : Result ℕ Unwritten) → WriteStep area' before a after → length s ≤ length before
    → (write_reply a ≡ written_size (length s)) × (after ≡ s ++ drop (length s) before)

unfoldable pub AreaReadsBack : Type 0
AreaReadsBack =
    (area before after : List ℕ) (a : Result ℕ Unwritten) (k : ℕ) → WriteStep area before a after → write_reply a ≡ written_size k
    → (area₁ area₂ : List ℕ) (g : Result ℕ Refusal) → AreaRoom area₁ → ReadStep (take k after) area₁ g area₂
    → (area_reply g ≡ area_lanes (plan_in area).count) × ((i : ℕ) → i < 65 → word_at area₂ i ≡ word_at area i)
