-- A sheet makes no lane shared.
--
--   stays   a plan with no shared lane stays so, as far as a sheet is read
--
-- Assumes nothing.
use Prim.Native.Nat.{ℕ, ◌+◌}
use mathlib.Core.Path.{◌≡◌, refl, subst}
use mathlib.Core.Bool.{Bool, true, false, ◌&&◌}
use mathlib.Core.List.{List, [], ◌∷◌}
use mathlib.Core.Option.{some}
use lib.Dec.{ltb}
use Rattle.std.specs.Prelude.{Err, Ok}
use Rattle.std.specs.Prelude.{if◌then◌else◌}
use Rattle.rules.specs.State.{Setting, no_setting}
use Rattle.rules.proofs.Lists.{set_all}
use Rattle.plan.specs.Judge.{given, seen_after}
use Rattle.plan.specs.Read.{SetupReply, setup_read, setup_refused, placed}
use Rattle.plan.specs.declared.judge.Seen.{Seen}
use Rattle.plan.specs.declared.parse.SetupField.TheVariants.{Lane}
use Rattle.plan.proofs.Rest.{refused-read}
use Rattle.sheet.specs.Form.{new_line, line_step}
use Rattle.sheet.specs.Judge.{Verdict, verdict, row_field}
use Rattle.sheet.specs.Read.{sheet_format, blank, sheet_walk}
use Rattle.sheet.specs.Promises.{Unshared}
use Rattle.sheet.specs.declared.form.Line.{Line}
use Rattle.sheet.specs.declared.form.Row.{Row}
use Rattle.sheet.specs.declared.form.Step.{Step}
use Rattle.sheet.specs.declared.form.Step.TheVariants.{More, Whole, Wrong}
use Rattle.sheet.proofs.Turn.{after_line, after-byte}

placed-unshared : (gs : List Setting) (r : Row) → Unshared gs → Unshared (placed sheet_format 0 gs (Lane (row_field r)))
placed-unshared gs r un = set_all (λ (g : Setting). g.shared ≡ false) gs r.lane.value (given sheet_format 0 (row_field r)) no_setting refl un

module _ (v : ℕ) (gs' : List Setting) (n p : ℕ) where
  ended : (gs : List Setting) (count at : ℕ) (b : Bool) → Unshared gs → (if b then setup_read sheet_format gs count at else setup_refused 81 (some at)) ≡ setup_read v gs' n p → Unshared gs'
  ended gs count at false un h = refused-read h
  ended gs count at true un h = let e : gs ≡ gs' = cc in subst Unshared e un

  module _ (seen : Seen) (gs : List Setting) (at : ℕ) (go : Seen → List Setting → Line → SetupReply) (un : Unshared gs)
      (more : (seen₁ : Seen) (gs₁ : List Setting) (f₁ : Line) → Unshared gs₁ → go seen₁ gs₁ f₁ ≡ setup_read v gs' n p → Unshared gs') where
    judged : (r : Row) (x : Verdict) → after_line seen gs (at + 1) r x go ≡ setup_read v gs' n p → Unshared gs'
    judged r (Err y) h = refused-read h
    judged r (Ok done) h = more (seen_after seen (Lane (row_field r))) (placed sheet_format 0 gs (Lane (row_field r))) (new_line (at + 1)) (placed-unshared gs r un) h

    stepped-on : (s : Step) → after-byte seen gs at s go ≡ setup_read v gs' n p → Unshared gs'
    stepped-on Wrong h = refused-read h
    stepped-on (More f) h = more seen gs f un h
    stepped-on (Whole r) h = judged r (verdict seen r) h

  pub stays : (bs : List ℕ) (seen : Seen) (gs : List Setting) (f : Line) (at : ℕ) → Unshared gs → sheet_walk seen gs f at bs ≡ setup_read v gs' n p → Unshared gs'
  unfolding sheet_walk
  stays [] seen gs f at un h = ended gs seen.count at (blank f.part f.begun && ltb 0 seen.count) un h
  stays (b ∷ bs) seen gs f at un h =
      stepped-on seen gs at (λ seen₁ gs₁ f₁. sheet_walk seen₁ gs₁ f₁ (at + 1) bs) un (λ seen₁ gs₁ f₁ un₁ h₁. stays bs seen₁ gs₁ f₁ (at + 1) un₁ h₁) (line_step f at b) h
