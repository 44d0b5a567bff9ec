-- Sheets and areas go back and forth: the promises SheetAreaWritesBack and SheetAreaReadsBack of specs/Step.antt.
-- Assumes nothing.
use Prim.Native.Nat.{ℕ, ◌≤◌, ◌<◌}
use mathlib.Core.Path.{◌≡◌, refl, sym, ap, subst, ◌∙◌}
use mathlib.Core.Logic.{⊎_elim}
use mathlib.Core.List.{List, ◌++◌}
use native.Mathlib.Decide.{dec_le}
use native.Mathlib.Omega.{arith}
use lib.ListN.{length, drop, take}
use lib.Seq.{take_at}
use Rattle.plan.specs.Judge.{known_format}
use Rattle.plan.specs.Read.{setup_read, SetupReply}
use Rattle.plan_writer.specs.Write.{Planned, Within, written_size}
use Rattle.plan_writer.proofs.Calls.{size-refused}
use Rattle.plan_area.specs.Area.{plan_in, AreaWithin}
use Rattle.plan_area.specs.Step.{AreaBySetup}
use Rattle.plan_area.proofs.Back.{read-into, within-area}
use Rattle.plan_area.proofs.Shown.{shows-plan, shows-within, area-shows}
use Rattle.sheet.specs.Read.{sheet_format, read_sheet}
use Rattle.sheet.proofs.Back.{accepted-sheet}
use Rattle.sheet.proofs.Forth.{written_read}
use Rattle.sheet_writer.specs.Write.{sheet_of, sheet_size, Bare, sheet_write_reply}
use Rattle.std.specs.Prelude.{Result}
use Rattle.sheet_writer.specs.declared.Unwritten.{Unwritten}
use Rattle.sheet_writer.proofs.Calls.{bare-or-not, none-shared, no-shareds}
use Rattle.sheet_area.specs.Step.{SheetWriteStep, SheetAreaWritesBack, SheetAreaReadsBack}

pub writes-back-area : SheetAreaWritesBack
unfolding SheetAreaWritesBack
writes-back-area s area area' g n r e before after a h room =
    let into = read-into (read_sheet s) area area' g n r e in
    let p = into.plan in
    let x = accepted-sheet s p.format p.lanes p.count into.next into.reads in
    let w : Within p = record { format = ap known_format x.format; setup = x.setup; count = x.are_there } in
    let plan-is = shows-plan p area' w into.shows in
    let bare : Bare (plan_in area') = subst Bare (sym plan-is) (x.bare, no-shareds p.lanes x.unshared) in
    let long : sheet_size p ≡ length s = ap length x.same in
    let long-in : sheet_size (plan_in area') ≡ length s = ap sheet_size plan-is ∙ long in
    let done = h.written (shows-within p area' w into.shows into.room) bare (omega (arith, long-in, room)) in
    (done.0 ∙ ap written_size long-in, done.1 ∙ ap (λ (y : Planned). sheet_of y ++ drop (sheet_size y) before) plan-is ∙ ap (λ (y : List ℕ). y ++ drop (sheet_size p) before) x.same ∙ ap (λ (i : ℕ). s ++ drop i before) long)

record Sized (area before : List ℕ) (k : ℕ) : Type 0 where
  within : AreaWithin area
  bare : Bare (plan_in area)
  room : sheet_size (plan_in area) ≤ length before
  is : k ≡ sheet_size (plan_in area)

module _ (area before after : List ℕ) (a : Result ℕ Unwritten) (k : ℕ) (h : SheetWriteStep area before a after) (e : sheet_write_reply a ≡ written_size k) where
  wrote-room : AreaWithin area → Bare (plan_in area) → Sized area before k
  wrote-room w b =
      elim (dec_le (sheet_size (plan_in area)) (length before)) [
        | yes l ↦ record { within = w; bare = b; room = l; is = let q : written_size k ≡ written_size (sheet_size (plan_in area)) = sym e ∙ (h.written w b l).0 in cc }
        | no l ↦ let s : length before < sheet_size (plan_in area) = omega arith in size-refused (sym e ∙ (h.short w b s).0)
      ]

  wrote-size : Sized area before k
  wrote-size =
      ⊎_elim
      (λ (w : AreaWithin area).
      ⊎_elim (λ (b : Bare (plan_in area)). wrote-room w b) (λ (o : Bare (plan_in area) → ⊥). size-refused (sym e ∙ (h.no_sheet w o).0)) (bare-or-not (plan_in area)))
      (λ (o : AreaWithin area → ⊥). size-refused (sym e ∙ (h.outside o).0))
      (within-area area)

pub reads-back-area : SheetAreaReadsBack
unfolding SheetAreaReadsBack
reads-back-area area before after a k h e area₁ area₂ g room r =
    let s = wrote-size area before after a k h e in
    let p = plan_in area in
    let w = s.within.plan in
    let first : take k after ≡ sheet_of p =
    ap (λ (i : ℕ). take i after) s.is ∙ ap (take (sheet_size p)) (h.written s.within s.bare s.room).1 ∙ take_at (sheet_of p) (drop (sheet_size p) before) (sheet_size p) refl in
    let read_is : read_sheet (take k after) ≡ setup_read sheet_format p.lanes p.count (sheet_size p) =
    ap read_sheet first ∙ written_read p.lanes w.setup s.bare.0 (none-shared p.lanes s.bare.1) ∙ ap (λ (n : ℕ). setup_read sheet_format p.lanes n (sheet_size p)) w.count in
    let f = subst (λ (x : SetupReply). AreaBySetup x area₁ g area₂) read_is (r.follows room) in
    let t = area-shows area s.within in
    (f.0, λ i l. f.1.lane i l ∙ sym (t.lane i l))
