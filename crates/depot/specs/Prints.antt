-- What the depot's two programs print (R12.11).
--
--   as_planned   a plan that was read, as the promises speak of it
--   read_other   what is read: a sheet where a setup is written, and a setup where a sheet is
--   plan_text    a plan as a setup, or as a sheet; reply_text: what was read, or the line of its refusal
--   depot_text   for an input: its plan in the other form, or the line of a refusal
--   PrintsText      a text stands at the front of the lent bytes, and the bytes past it stay
--
-- Assumes nothing.
use Rattle.std.specs.Prelude.{ℕ, ◌+◌, ◌≤◌, ◌≡◌, List, ◌++◌, ltb, eqb, length, drop, if◌then◌else◌}
use Rattle.std.proofs.Math.Option.{none}
use Rattle.rules.specs.Setup.{framing_of}
use Rattle.lines.specs.Line.{no_line}
use Rattle.plan.specs.Read.{SetupReply, setup_read, setup_refused, read_setup, settings}
use Rattle.plan.specs.declared.Plan.{Plan}
use Rattle.plan_writer.specs.Write.{Planned, setup_bytes, shareds}
use Rattle.sheet.specs.Read.{read_sheet}
use Rattle.sheet.specs.Text.{sheet_bytes}
use Rattle.depot.specs.declared.Form.{Form}
use Rattle.depot.specs.declared.Form.TheVariants.{Setup, Sheet}

abbrev pub as_planned : Plan → Planned
as_planned p = record { format = p.format; lanes = settings p; count = p.count }

abbrev pub read_other : Form → List ℕ → SetupReply
read_other Setup s = read_sheet s
read_other Sheet s = read_setup s

-- 82 for a plan that a sheet cannot say: with framing bytes, or with a shared lane.
abbrev pub plan_text : Form → Planned → List ℕ
plan_text Setup p = setup_bytes p
plan_text Sheet p = if eqb (framing_of p.lanes + shareds p.lanes) 0 then sheet_bytes p.lanes else no_line 82 none

abbrev pub reply_text : Form → SetupReply → List ℕ
reply_text form (setup_refused n q) = no_line n q
reply_text form (setup_read v gs n at) = plan_text form (record { format = v; lanes = gs; count = n })

-- R14.15: 18 for an input over 32,768 bytes.
abbrev pub depot_text : Form → List ℕ → List ℕ
depot_text form s = if ltb 32768 (length s) then no_line 18 none else reply_text form (read_other form s)

pub record PrintsText (text a a' : List ℕ) (n : ℕ) : Type 0 where
  pub is : a' ≡ text ++ drop (length text) a
  pub size : n ≡ length text
  pub within : n ≤ length a'
