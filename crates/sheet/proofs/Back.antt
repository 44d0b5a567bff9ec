-- A sheet that is read is the sheet of what was read, and that is a setup within the numbers.
--
--   back             from any place on
--   accepted-sheet   for a whole sheet
--
-- Assumes nothing.
use Prim.Native.Nat.{ℕ, ◌+◌, ◌≤◌}
use native.Mathlib.Omega.{arith}
use mathlib.Core.Path.{◌≡◌, refl, sym, ap, subst, ◌∙◌}
use mathlib.Core.Bool.{Bool, true, false, ◌&&◌}
use mathlib.Core.List.{List, [], ◌∷◌, ◌++◌, append_assoc, append-nil}
use mathlib.Core.Option.{some}
use lib.Dec.{ltb}
use lib.ListN.{length}
use borrow.Author.Tests.{ltb-true, ltb-false}
use Rattle.std.specs.Prelude.{Err, Ok}
use Rattle.std.specs.Prelude.{if◌then◌else◌}
use Rattle.units.proofs.Bools.{true-false}
use Rattle.rules.specs.State.{Setting, no_setting}
use Rattle.rules.specs.Setup.{Setup, framing_of}
use Rattle.rules.proofs.Figures.{framing-bound, framed-by}
use Rattle.plan.specs.Judge.{given, seen_after}
use Rattle.plan.specs.Read.{SetupReply, setup_read, setup_refused, no_lanes, placed}
use Rattle.plan.specs.Accepted.{present}
use Rattle.plan.specs.declared.judge.Seen.{Seen}
use Rattle.plan.specs.declared.parse.SetupField.TheVariants.{Lane}
use Rattle.plan.proofs.Lists.{replicate-at}
use Rattle.plan.proofs.Rest.{refused-read}
use Rattle.plan.proofs.Sound.{Sound, sound-first, sound-after}
use Rattle.sheet.specs.Form.{new_line, line_step}
use Rattle.sheet.specs.Judge.{Verdict, verdict, row_field}
use Rattle.sheet.specs.Read.{sheet_format, none_seen, blank, sheet_walk, read_sheet}
use Rattle.sheet.specs.Text.{sheet_from, sheet_bytes}
use Rattle.sheet.specs.Promises.{AcceptedSheet}
use Rattle.sheet.specs.declared.form.Part as part
use Rattle.sheet.specs.declared.form.Part.TheVariants as parts
use Rattle.sheet.specs.declared.form.Line.{Line}
use Rattle.sheet.specs.declared.form.Row.{Row}
use Rattle.sheet.specs.declared.form.Step.{Step}
use Rattle.sheet.specs.declared.form.Step.TheVariants.{More, Whole, Wrong}
use Rattle.sheet.proofs.Turn.{after_line, after-byte}
use Rattle.sheet.proofs.Steps.{so_far, last_bytes, bytes_of, row_bytes, Sane, sane-begin, Stepped, stepped}
use Rattle.sheet.proofs.Rows.{Bare, is-taken, in_place}
use Rattle.sheet.proofs.Sheets.{sheet-set}
use Rattle.sheet.proofs.Unshared.{stays}

-- a lane that is taken, in the plan so far
pub record Grown (seen : Seen) (gs : List Setting) (r : Row) : Type 0 where
  pub sound : Sound (seen_after seen (Lane (row_field r))) (placed sheet_format 0 gs (Lane (row_field r)))
  pub bare : Bare (seen_after seen (Lane (row_field r)))
  pub sheet : sheet_bytes (placed sheet_format 0 gs (Lane (row_field r))) ≡ sheet_bytes gs ++ row_bytes r

pub grows : (seen : Seen) (gs : List Setting) (r : Row) → Sound seen gs → Bare seen → verdict seen r ≡ Ok tt → Grown seen gs r
grows seen gs r ok b e =
    let t = is-taken seen r e in
    record {
      sound =
          subst (λ (v : ℕ). Sound (seen_after seen (Lane (row_field r))) (placed v 0 gs (Lane (row_field r)))) b.format
          (subst (λ (h : ℕ). Sound (seen_after seen (Lane (row_field r))) (placed seen.format h gs (Lane (row_field r)))) b.framing (sound-after seen gs (Lane (row_field r)) ok (in_place seen r b t) t.inside t.under));
      bare = record { begun = refl; format = b.format; framing = b.framing };
      sheet =
          sheet-set r.lane.value gs (given sheet_format 0 (row_field r)) (omega (arith, t.number, ok.size))
          (λ j h. ok.above j (omega (arith, ltb-false r.lane.value seen.floor t.rising))) t.weight_low;
    }

-- nothing of a blank line is read
pub blank_none : (f : Line) → blank f.part f.begun ≡ true → bytes_of f ≡ []
blank_none f h = go f.part f.begun h
  where
    go : (p : part.Part) (b : Bool) → blank p b ≡ true → so_far p f.lane.value f.weight.value (last_bytes b f.last.value) ≡ []
    go parts.Lane false h = refl
    go parts.Lane true h = true-false (sym h)
    go parts.Weight b h = true-false (sym h)
    go parts.Longest b h = true-false (sym h)

pub add-byte : (f : Line) (x : List ℕ) (b : ℕ) (bs : List ℕ) → bytes_of f ++ b ∷ [] ≡ x → bytes_of f ++ (b ∷ bs) ≡ x ++ bs
add-byte f x b bs h = sym (append_assoc (bytes_of f) (b ∷ []) bs) ∙ ap (λ (l : List ℕ). l ++ bs) h

module _ (v' : ℕ) (gs' : List Setting) (n p : ℕ) where
  pub record Back (gs : List Setting) (f : Line) (at : ℕ) (bs : List ℕ) : Type 0 where
    pub bytes : sheet_bytes gs ++ (bytes_of f ++ bs) ≡ sheet_bytes gs'
    pub end : p ≡ at + length bs
    pub format : v' ≡ sheet_format
    pub setup : Setup gs'
    pub bare : framing_of gs' ≡ 0
    pub count : present gs' ≡ n
    pub some_lane : 1 ≤ n

  back_end_lem : (seen : Seen) (gs : List Setting) (f : Line) (at : ℕ) (a c : Bool) → Sound seen gs → Bare seen → blank f.part f.begun ≡ a → ltb 0 seen.count ≡ c
      → (if a && c then setup_read sheet_format gs seen.count at else setup_refused 81 (some at)) ≡ setup_read v' gs' n p → Back gs f at []
  back_end_lem seen gs f at false c ok z x y h = refused-read h
  back_end_lem seen gs f at true false ok z x y h = refused-read h
  back_end_lem seen gs f at true true ok z x y h =
      let e₀ : sheet_format ≡ v' = cc in
      let e₁ : gs ≡ gs' = cc in
      let e₂ : seen.count ≡ n = cc in
      let e₃ : at ≡ p = cc in
      let low = ltb-true 0 seen.count y in
      record {
        bytes = ap (λ (l : List ℕ). sheet_bytes gs ++ (l ++ [])) (blank_none f x) ∙ append-nil (sheet_bytes gs) ∙ ap sheet_bytes e₁;
        end = omega arith;
        format = sym e₀;
        setup = rw (← e₁) (record {
          size = ok.size;
          each = ok.each;
          some_lane = omega (arith, ok.sum_is, ok.few);
          total = omega (arith, ok.sum_is, ok.total);
          framing_high = omega (arith, framing-bound seen.framing gs ok.most, ok.bytes);
          framed = framed-by seen.framing gs ok.most ok.framed;
        });
        bare = ap framing_of (sym e₁) ∙ (let f : framing_of gs ≤ seen.framing = framing-bound seen.framing gs ok.most in omega (arith, f, z.framing));
        count = ap present (sym e₁) ∙ ok.there_are ∙ e₂;
        some_lane = omega arith;
      }

  module _ (seen : Seen) (gs : List Setting) (f : Line) (at b : ℕ) (bs : List ℕ) (ok : Sound seen gs) (bare : Bare seen)
      (more : (seen₁ : Seen) (gs₁ : List Setting) (f₁ : Line) → Sound seen₁ gs₁ → Bare seen₁ → Sane f₁ (at + 1) → sheet_walk seen₁ gs₁ f₁ (at + 1) bs ≡ setup_read v' gs' n p → Back gs₁ f₁ (at + 1) bs) where
    abbrev go : Seen → List Setting → Line → SetupReply
    go seen₁ gs₁ f₁ = sheet_walk seen₁ gs₁ f₁ (at + 1) bs

    -- what is read behind a byte, read with it
    with_byte : (gs₁ : List Setting) (f₁ : Line) → sheet_bytes gs ++ (bytes_of f ++ (b ∷ bs)) ≡ sheet_bytes gs₁ ++ (bytes_of f₁ ++ bs) → Back gs₁ f₁ (at + 1) bs → Back gs f at (b ∷ bs)
    with_byte gs₁ f₁ e k = record { bytes = e ∙ k.bytes; end = omega (arith, k.end); format = k.format; setup = k.setup; bare = k.bare; count = k.count; some_lane = k.some_lane }

    back-line : (r : Row) → bytes_of f ++ b ∷ [] ≡ row_bytes r → (v : Verdict) → verdict seen r ≡ v → after_line seen gs (at + 1) r v go ≡ setup_read v' gs' n p → Back gs f at (b ∷ bs)
    back-line r x (Err y) e h = refused-read h
    back-line r x (Ok done) e h =
        let g = grows seen gs r ok bare e in
        with_byte (placed sheet_format 0 gs (Lane (row_field r))) (new_line (at + 1))
        (ap (λ (l : List ℕ). sheet_bytes gs ++ l) (add-byte f (row_bytes r) b bs x)
        ∙ sym (append_assoc (sheet_bytes gs) (row_bytes r) bs)
        ∙ ap (λ (l : List ℕ). l ++ bs) (sym g.sheet))
        (more (seen_after seen (Lane (row_field r))) (placed sheet_format 0 gs (Lane (row_field r))) (new_line (at + 1)) g.sound g.bare (sane-begin (at + 1)) h)

    back_step : (s : Step) → Stepped f at b s → after-byte seen gs at s go ≡ setup_read v' gs' n p → Back gs f at (b ∷ bs)
    back_step Wrong x h = refused-read h
    back_step (More g) x h = with_byte gs g (ap (λ (l : List ℕ). sheet_bytes gs ++ l) (add-byte f (bytes_of g) b bs x.1)) (more seen gs g ok bare x.0 h)
    back_step (Whole r) x h = back-line r x.1 (verdict seen r) refl h

  pub back : (bs : List ℕ) (seen : Seen) (gs : List Setting) (f : Line) (at : ℕ) → Sound seen gs → Bare seen → Sane f at → sheet_walk seen gs f at bs ≡ setup_read v' gs' n p → Back gs f at bs
  unfolding sheet_walk
  back [] seen gs f at ok b sane h = back_end_lem seen gs f at (blank f.part f.begun) (ltb 0 seen.count) ok b refl refl h
  back (b ∷ bs) seen gs f at ok bare sane h =
      back_step seen gs f at b bs ok bare (λ seen₁ gs₁ f₁ ok₁ bare₁ sane₁ h₁. back bs seen₁ gs₁ f₁ (at + 1) ok₁ bare₁ sane₁ h₁) (line_step f at b) (stepped f at b sane) h

pub bare-none : Bare none_seen
bare-none = record { begun = refl; format = refl; framing = refl }

pub sound_none : Sound none_seen no_lanes
sound_none = record {
  size = sound-first.size;
  each = sound-first.each;
  framed = sound-first.framed;
  most = sound-first.most;
  bytes = sound-first.bytes;
  none_yet = λ o. refl;
  begin = λ o. refl;
  above = sound-first.above;
  sum_is = sound-first.sum_is;
  there_are = sound-first.there_are;
  total = sound-first.total;
  few = sound-first.few;
  count = sound-first.count;
  floor = sound-first.floor;
  last = λ o. true-false (sym o);
}

pub accepted-sheet : (s : List ℕ) (v : ℕ) (gs : List Setting) (n p : ℕ) → read_sheet s ≡ setup_read v gs n p → AcceptedSheet s v gs n p
unfolding read_sheet sheet_bytes sheet_from
accepted-sheet s v gs n p h =
    let k = back v gs n p s none_seen no_lanes (new_line 0) 0 sound_none bare-none (sane-begin 0) h in
    record { format = k.format; same = sym k.bytes; setup = k.setup; bare = k.bare; unshared = stays v gs n p s none_seen no_lanes (new_line 0) 0 (λ i. ap (λ (g : Setting). g.shared) (replicate-at 64 i no_setting)) h; are_there = k.count; some_lane = k.some_lane; end = omega (arith, k.end) }
