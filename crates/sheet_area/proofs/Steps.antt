-- What the two calls' parts ensure. Reading's promise comes by the laws of plan_area.
--
--   sheet-good                a sheet that was read
--   write-short, write-plan   the promise of writing
--
-- Assumes nothing.
use Prim.Native.Nat.{ℕ, ◌≤◌, ◌<◌}
use mathlib.Core.Path.{◌≡◌, refl, sym, ap, subst, ◌∙◌}
use mathlib.Core.List.{List}
use native.Mathlib.Omega.{arith}
use lib.ListN.{length}
use Rattle.rules.specs.Setup.{Setup}
use Rattle.plan.specs.Read.{settings, setup_reply}
use Rattle.plan.specs.declared.Reading.{Reading}
use Rattle.plan_writer.specs.Write.{Planned}
use Rattle.plan_area.specs.Area.{area_size, AreaRoom, plan_in, Gives, AreaWithin}
use Rattle.sheet.specs.Read.{read_sheet}
use Rattle.sheet.proofs.Back.{accepted-sheet}
use Rattle.sheet_writer.specs.Write.{WritesSheet}
use Rattle.std.specs.Prelude.{Result, Ok, Err}
use Rattle.sheet_writer.specs.declared.Unwritten.{Unwritten}
use Rattle.sheet_writer.specs.declared.Unwritten.TheVariants.{Outside}
use Rattle.sheet_area.specs.Step.{SheetWriteStep}

-- a sheet that was read can be stored
module _ (s : List ℕ) (r : Reading) (e : setup_reply (Ok r) ≡ read_sheet s) where
  pub sheet-good : Setup (settings r.plan)
  sheet-good = (accepted-sheet s r.plan.format (settings r.plan) r.plan.count r.next (sym e)).setup

  pub sheet-low : r.plan.format ≤ 2
  sheet-low = omega (arith, (accepted-sheet s r.plan.format (settings r.plan) r.plan.count r.next (sym e)).format)

module _ (area before : List ℕ) where
  not_within : (AreaWithin area → ⊥) → SheetWriteStep area before (Err Outside) before
  not_within n = record { outside = λ _. (refl, refl); no_sheet = λ w _. absurd (n w); short = λ w _ _. absurd (n w); written = λ w _ _. absurd (n w) }

  pub write-short : length area < area_size → SheetWriteStep area before (Err Outside) before
  write-short h = not_within (λ w. omega (arith, w.room, h))

  pub write-plan : AreaRoom area → (p : Planned) → Gives (plan_in area) p → (a : Result ℕ Unwritten) (after : List ℕ) → WritesSheet p before a after → SheetWriteStep area before a after
  write-plan room p g a after h =
      let own : AreaWithin area → WritesSheet (plan_in area) before a after = λ v. subst (λ (x : Planned). WritesSheet x before a after) (g.same v.plan) h in
      record {
        outside = λ o. h.outside (λ v. o (record { room = room; plan = g.within v }));
        no_sheet = λ v b. (own v).no_sheet v.plan b;
        short = λ v b l. (own v).short v.plan b l;
        written = λ v b l. (own v).written v.plan b l;
      }
