-- A sheet of the form is refused by a number of a line only: by neither 80 nor 81.
--
--   never-formed   the law
--
-- Assumes nothing.
use Prim.Native.Nat.{ℕ, ◌+◌, ◌<◌}
use native.Mathlib.Omega.{arith}
use mathlib.Core.Path.{◌≡◌, sym, ap, subst, ◌∙◌}
use mathlib.Core.Bool.{Bool, true, false}
use mathlib.Core.List.{List, [], ◌∷◌}
use mathlib.Core.Option.{Option, some}
use lib.ListN.{length}
use borrow.Author.Tests.{lt-ltb}
use Rattle.std.specs.Prelude.{Err, Ok}
use Rattle.std.specs.Prelude.{if◌then◌else◌}
use Rattle.units.proofs.Bools.{true-false}
use Rattle.rules.specs.State.{Setting}
use Rattle.rules.specs.Reads.{number}
use Rattle.plan.specs.Judge.{seen_after}
use Rattle.plan.specs.Read.{setup_read, setup_refused, no_lanes, placed}
use Rattle.plan.specs.declared.judge.Seen.{Seen}
use Rattle.plan.specs.declared.parse.SetupField.TheVariants.{Lane}
use Rattle.plan.proofs.Refusals.{read-refused}
use Rattle.sheet.specs.Form.{new_line}
use Rattle.sheet.specs.Judge.{Verdict, verdict, row_field}
use Rattle.sheet.specs.Read.{sheet_format, none_seen, sheet_walk, read_sheet}
use Rattle.sheet.specs.Text.{Entry, ShortNumbers, lines_bytes, AllShort, Formed}
use Rattle.sheet.specs.Promises.{place₃, row_at}
use Rattle.sheet.specs.declared.form.Row.{Row}
use Rattle.sheet.proofs.Turn.{after_line}
use Rattle.sheet.proofs.Steps.{SaneRow}
use Rattle.sheet.proofs.Numbers.{line_walk}
use Rattle.sheet.proofs.Faults.{line_number, Judged, judged-fault}

-- no refusal of a line is 80 or 81
pub line-not : (n m : ℕ) → line_number n ≡ true → n ≡ m → line_number m ≡ true
line-not n m h e = subst (λ (k : ℕ). line_number k ≡ true) e h

module _ (n : ℕ) (q : Option ℕ) (other : line_number n ≡ false) where
  module _ (e : Entry) (es : List Entry) (seen : Seen) (gs : List Setting) (at : ℕ) (s : ShortNumbers e) where
    abbrev row : Row
    row = row_at e.first e.second e.third at

    abbrev end : ℕ
    end = place₃ e.first e.second e.third at

    sane-row : SaneRow row end
    sane-row = record {
      lane = s.first;
      weight = s.second;
      longest = s.third;
      lane_behind = omega arith;
      weight_behind = omega arith;
      longest_behind = omega arith;
    }

    never-line : ((seen₁ : Seen) (gs₁ : List Setting) → 0 < seen₁.count + length es → sheet_walk seen₁ gs₁ (new_line end) end (lines_bytes es) ≡ setup_refused n q → ⊥)
        → (v : Verdict) → Judged end v → after_line seen gs end row v (λ seen₁ gs₁ f₁. sheet_walk seen₁ gs₁ f₁ end (lines_bytes es)) ≡ setup_refused n q → ⊥
    never-line more (Err x) j h = true-false (sym (line-not (number x) n j.listed cc) ∙ other)
    never-line more (Ok done) j h = more (seen_after seen (Lane (row_field row))) (placed sheet_format 0 gs (Lane (row_field row))) (omega arith) h

    never-next : ((seen₁ : Seen) (gs₁ : List Setting) → 0 < seen₁.count + length es → sheet_walk seen₁ gs₁ (new_line end) end (lines_bytes es) ≡ setup_refused n q → ⊥)
        → sheet_walk seen gs (new_line at) at (lines_bytes (e ∷ es)) ≡ setup_refused n q → ⊥
    unfolding lines_bytes
    never-next more h =
        never-line more (verdict seen row) (judged-fault seen row end sane-row)
        (sym (line_walk e.first e.second e.third at seen gs (lines_bytes es) s.first s.second s.third) ∙ h)

  never-end : (seen : Seen) (gs : List Setting) (at : ℕ) → 0 < seen.count → sheet_walk seen gs (new_line at) at [] ≡ setup_refused n q → ⊥
  unfolding sheet_walk
  never-end seen gs at c h = read-refused (ap (λ (b : Bool). if b then setup_read sheet_format gs seen.count at else setup_refused 81 (some at)) (sym (lt-ltb 0 seen.count c)) ∙ h)

  never : (es : List Entry) (seen : Seen) (gs : List Setting) (at : ℕ) → AllShort es → 0 < seen.count + length es → sheet_walk seen gs (new_line at) at (lines_bytes es) ≡ setup_refused n q → ⊥
  unfolding lines_bytes AllShort
  never [] seen gs at a c h = never-end seen gs at (omega arith) h
  never (e ∷ es) seen gs at a c h =
      never-next e es seen gs at a.0 (λ seen₁ gs₁ c₁ h₁. never es seen₁ gs₁ (place₃ e.first e.second e.third at) a.1 c₁ h₁) h

  pub never-formed : (s : List ℕ) → Formed s → read_sheet s ≡ setup_refused n q → ⊥
  unfolding read_sheet
  never-formed s f h = never (f.head ∷ f.rest) none_seen no_lanes 0 f.short (omega arith) (ap (sheet_walk none_seen no_lanes (new_line 0) 0) f.bytes ∙ h)
