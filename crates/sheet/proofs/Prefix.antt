-- The places of 80 and of 81, said of the sheets of the form (`Formed` of specs/Text.antt) and not of the machine.
--
--   wrong_byte   80: the bytes before the place begin a sheet of the form, and with the byte at the place no sheet of the form begins
--   cut_short    81: the place is the sheet's length; its bytes begin a sheet of the form and are none
--
-- Assumes nothing.
use Prim.Native.Nat.{ℕ, ◌+◌}
use native.Mathlib.Omega.{arith}
use mathlib.Core.Path.{◌≡◌, refl, sym, ap, subst, ◌∙◌}
use mathlib.Core.Bool.{Bool, true, false, ◌&&◌}
use mathlib.Core.List.{List, [], ◌∷◌, ◌++◌, append-nil}
use mathlib.Core.Option.{some}
use lib.Dec.{ltb}
use lib.ListN.{length}
use Rattle.std.specs.Prelude.{Err, Ok}
use Rattle.std.specs.Prelude.{if◌then◌else◌}
use Rattle.units.proofs.Bools.{true-false}
use Rattle.rules.specs.State.{Setting}
use Rattle.rules.specs.Reads.{number}
use Rattle.plan.specs.Judge.{seen_after}
use Rattle.plan.specs.Read.{SetupReply, setup_read, setup_refused, no_lanes, placed}
use Rattle.plan.specs.declared.judge.Seen.{Seen}
use Rattle.plan.specs.declared.parse.SetupField.TheVariants.{Lane}
use Rattle.plan.proofs.Refusals.{read-refused}
use Rattle.sheet.specs.Form.{new_line, line_step}
use Rattle.sheet.specs.Judge.{Verdict, verdict, row_field}
use Rattle.sheet.specs.Read.{sheet_format, none_seen, blank, sheet_walk, read_sheet}
use Rattle.sheet.specs.Text.{BeginsSheet}
use Rattle.sheet.specs.Promises.{WrongByte, Unfinished}
use Rattle.sheet.specs.declared.form.Line.{Line}
use Rattle.sheet.specs.declared.form.Row.{Row}
use Rattle.sheet.specs.declared.form.Step.{Step}
use Rattle.sheet.specs.declared.form.Step.TheVariants.{More, Whole, Wrong}
use Rattle.sheet.proofs.Turn.{after_line, after-byte}
use Rattle.sheet.proofs.Steps.{bytes_of, row_bytes, Sane, SaneRow, sane-begin, Stepped, stepped}
use Rattle.sheet.proofs.Back.{add-byte}
use Rattle.sheet.proofs.Numbers.{walk-byte}
use Rattle.sheet.proofs.Faults.{Judged, judged-fault}
use Rattle.sheet.proofs.Begins.{begins-line, begins-behind}
use Rattle.sheet.proofs.Formed.{line-not, never-formed}

-- ---- the walk to a refusal 80

pub record Wronged (seen : Seen) (gs : List Setting) (f : Line) (at p : ℕ) (bs : List ℕ) : Type 0 where
  pub front : List ℕ
  pub byte : ℕ
  pub back : List ℕ
  pub is : front ++ byte ∷ back ≡ bs
  pub place : p ≡ at + length front
  pub begins : BeginsSheet (bytes_of f ++ front)
  pub always : (t : List ℕ) → sheet_walk seen gs f at (front ++ byte ∷ t) ≡ setup_refused 80 (some p)

module _ (p : ℕ) where
  module _ (seen : Seen) (gs : List Setting) (f : Line) (at b : ℕ) (bs : List ℕ) (sane : Sane f at)
      (more : (seen₁ : Seen) (gs₁ : List Setting) (f₁ : Line) → Sane f₁ (at + 1) → sheet_walk seen₁ gs₁ f₁ (at + 1) bs ≡ setup_refused 80 (some p) → Wronged seen₁ gs₁ f₁ (at + 1) p bs) where
    abbrev go : Seen → List Setting → Line → SetupReply
    go seen₁ gs₁ f₁ = sheet_walk seen₁ gs₁ f₁ (at + 1) bs

    module _ (s : Step) (e : line_step f at b ≡ s) (seen₁ : Seen) (gs₁ : List Setting) (f₁ : Line)
        (same : (t : List ℕ) → after-byte seen gs at s (λ seen₂ gs₂ f₂. sheet_walk seen₂ gs₂ f₂ (at + 1) t) ≡ sheet_walk seen₁ gs₁ f₁ (at + 1) t)
        (x : List ℕ) (begun : BeginsSheet x) (w : Wronged seen₁ gs₁ f₁ (at + 1) p bs) (y : bytes_of f ++ b ∷ w.front ≡ x) where
      wronged-on : Wronged seen gs f at p (b ∷ bs)
      wronged-on = record {
        front = b ∷ w.front;
        byte = w.byte;
        back = w.back;
        is = ap (λ (l : List ℕ). b ∷ l) w.is;
        place = omega (arith, w.place);
        begins = subst BeginsSheet (sym y) begun;
        always = λ t. walk-byte seen gs f at b (w.front ++ w.byte ∷ t) s (sym e) ∙ same (w.front ++ w.byte ∷ t) ∙ w.always t;
      }

    wronged-line : (r : Row) → line_step f at b ≡ Whole r → SaneRow r at → bytes_of f ++ b ∷ [] ≡ row_bytes r → (v : Verdict) → verdict seen r ≡ v → Judged at v
        → after_line seen gs (at + 1) r v go ≡ setup_refused 80 (some p) → Wronged seen gs f at p (b ∷ bs)
    wronged-line r e s x (Err y) d j h = true-false (sym (line-not (number y) 80 j.listed cc))
    wronged-line r e s x (Ok done) d j h =
        let w = more (seen_after seen (Lane (row_field r))) (placed sheet_format 0 gs (Lane (row_field r))) (new_line (at + 1)) (sane-begin (at + 1)) h in
        wronged-on (Whole r) e (seen_after seen (Lane (row_field r))) (placed sheet_format 0 gs (Lane (row_field r))) (new_line (at + 1))
        (λ t. ap (λ (v : Verdict). after_line seen gs (at + 1) r v (λ seen₂ gs₂ f₂. sheet_walk seen₂ gs₂ f₂ (at + 1) t)) d)
        (row_bytes r ++ w.front) (begins-behind r at w.front s w.begins) w (add-byte f (row_bytes r) b w.front x)

    wronged-step : (s : Step) → line_step f at b ≡ s → Stepped f at b s → after-byte seen gs at s go ≡ setup_refused 80 (some p) → Wronged seen gs f at p (b ∷ bs)
    wronged-step Wrong e x h =
        let q : at ≡ p = cc in
        record {
          front = [];
          byte = b;
          back = bs;
          is = refl;
          place = omega arith;
          begins = subst BeginsSheet (sym (append-nil (bytes_of f))) (begins-line f at sane);
          always = λ t. walk-byte seen gs f at b t Wrong (sym e) ∙ ap (λ (k : ℕ). setup_refused 80 (some k)) q;
        }
    wronged-step (More g) e x h =
        let w = more seen gs g x.0 h in
        wronged-on (More g) e seen gs g (λ t. refl) (bytes_of g ++ w.front) w.begins w (add-byte f (bytes_of g) b w.front x.1)
    wronged-step (Whole r) e x h = wronged-line r e x.0 x.1 (verdict seen r) refl (judged-fault seen r at x.0) h

  not-80 : {A : Type 0} (seen : Seen) (gs : List Setting) (at : ℕ) (c : Bool) → (if c then setup_read sheet_format gs seen.count at else setup_refused 81 (some at)) ≡ setup_refused 80 (some p) → A
  not-80 seen gs at true h = read-refused h
  not-80 seen gs at false h = absurd (let z : ◌≡◌ {A = ℕ} 81 80 = cc in omega arith)

  wronged : (bs : List ℕ) (seen : Seen) (gs : List Setting) (f : Line) (at : ℕ) → Sane f at → sheet_walk seen gs f at bs ≡ setup_refused 80 (some p) → Wronged seen gs f at p bs
  unfolding sheet_walk
  wronged [] seen gs f at sane h = not-80 seen gs at (blank f.part f.begun && ltb 0 seen.count) h
  wronged (b ∷ bs) seen gs f at sane h =
      wronged-step seen gs f at b bs sane (λ seen₁ gs₁ f₁ sane₁ h₁. wronged bs seen₁ gs₁ f₁ (at + 1) sane₁ h₁) (line_step f at b) refl (stepped f at b sane) h

-- ---- the walk to a refusal 81

module _ (p : ℕ) where
  abbrev Cut : Line → ℕ → List ℕ → Type 0
  Cut f at bs = (p ≡ at + length bs) × BeginsSheet (bytes_of f ++ bs)

  module _ (seen : Seen) (gs : List Setting) (f : Line) (at b : ℕ) (bs : List ℕ)
      (more : (seen₁ : Seen) (gs₁ : List Setting) (f₁ : Line) → Sane f₁ (at + 1) → sheet_walk seen₁ gs₁ f₁ (at + 1) bs ≡ setup_refused 81 (some p) → Cut f₁ (at + 1) bs) where
    abbrev onward : Seen → List Setting → Line → SetupReply
    onward seen₁ gs₁ f₁ = sheet_walk seen₁ gs₁ f₁ (at + 1) bs

    cut_line : (r : Row) → SaneRow r at → bytes_of f ++ b ∷ [] ≡ row_bytes r → (v : Verdict) → Judged at v → after_line seen gs (at + 1) r v onward ≡ setup_refused 81 (some p) → Cut f at (b ∷ bs)
    cut_line r s x (Err y) j h = true-false (sym (line-not (number y) 81 j.listed cc))
    cut_line r s x (Ok done) j h =
        let w = more (seen_after seen (Lane (row_field r))) (placed sheet_format 0 gs (Lane (row_field r))) (new_line (at + 1)) (sane-begin (at + 1)) h in
        (omega (arith, w.0), subst BeginsSheet (sym (add-byte f (row_bytes r) b bs x)) (begins-behind r at bs s w.1))

    cut_step : (s : Step) → Stepped f at b s → after-byte seen gs at s onward ≡ setup_refused 81 (some p) → Cut f at (b ∷ bs)
    cut_step Wrong x h = absurd (let z : ◌≡◌ {A = ℕ} 80 81 = cc in omega arith)
    cut_step (More g) x h = let w = more seen gs g x.0 h in (omega (arith, w.0), subst BeginsSheet (sym (add-byte f (bytes_of g) b bs x.1)) w.1)
    cut_step (Whole r) x h = cut_line r x.0 x.1 (verdict seen r) (judged-fault seen r at x.0) h

  cut-end : (seen : Seen) (gs : List Setting) (f : Line) (at : ℕ) → Sane f at → (c : Bool) → (if c then setup_read sheet_format gs seen.count at else setup_refused 81 (some at)) ≡ setup_refused 81 (some p) → Cut f at []
  cut-end seen gs f at sane true h = read-refused h
  cut-end seen gs f at sane false h = let q : at ≡ p = cc in (omega arith, subst BeginsSheet (sym (append-nil (bytes_of f))) (begins-line f at sane))

  cut : (bs : List ℕ) (seen : Seen) (gs : List Setting) (f : Line) (at : ℕ) → Sane f at → sheet_walk seen gs f at bs ≡ setup_refused 81 (some p) → Cut f at bs
  unfolding sheet_walk
  cut [] seen gs f at sane h = cut-end seen gs f at sane (blank f.part f.begun && ltb 0 seen.count) h
  cut (b ∷ bs) seen gs f at sane h = cut_step seen gs f at b bs (λ seen₁ gs₁ f₁ sane₁ h₁. cut bs seen₁ gs₁ f₁ (at + 1) sane₁ h₁) (line_step f at b) (stepped f at b sane) h

-- ---- the theorems

pub wrong_byte : (s : List ℕ) (p : ℕ) → read_sheet s ≡ setup_refused 80 (some p) → WrongByte s p
unfolding read_sheet
wrong_byte s p h =
    let w = wronged p s none_seen no_lanes (new_line 0) 0 (sane-begin 0) h in
    record {
      front = w.front;
      byte = w.byte;
      back = w.back;
      is = w.is;
      place = omega (arith, w.place);
      begins = w.begins;
      none = λ t f. never-formed 80 (some p) refl (w.front ++ w.byte ∷ t) f (w.always t);
    }

pub cut_short : (s : List ℕ) (p : ℕ) → read_sheet s ≡ setup_refused 81 (some p) → Unfinished s p
unfolding read_sheet
cut_short s p h =
    let w = cut p s none_seen no_lanes (new_line 0) 0 (sane-begin 0) h in
    record { place = omega (arith, w.0); begins = w.1; none = λ f. never-formed 81 (some p) refl s f h }
