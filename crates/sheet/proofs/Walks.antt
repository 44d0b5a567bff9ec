-- How the walk stands at a place: the invariant of `read_sheet`'s loop, and what each byte does to it.
--
--   Standing      the walk from here answers what the whole reading answers, and the numbers so far are small
--   stand-first   before the first byte
--   stand-wrong   at a byte that the form can't have; stand-more: within a line; stand-refused, stand-taken: at a line's end; stand-end: at the sheet's
--
-- Assumes nothing.
use Prim.Native.Nat.{ℕ, suc, ◌+◌, ◌≤◌, ◌<◌}
use native.Mathlib.Omega.{arith}
use mathlib.Core.Path.{◌≡◌, refl, sym, ap, subst, ◌∙◌}
use mathlib.Core.Bool.{true, false, ◌&&◌}
use mathlib.Core.List.{List, ◌∷◌}
use mathlib.Core.Option.{some}
use lib.Dec.{ltb}
use lib.ListN.{length, get_or, drop, drop_of_length-le}
use lib.Seq.{drop-cons}
use Rattle.std.specs.Prelude.{Err, Ok}
use Rattle.std.specs.Prelude.{if◌then◌else◌}
use Rattle.rules.specs.State.{Setting}
use Rattle.rules.specs.Reads.{number, place_of}
use Rattle.rules.specs.declared.Refusal.{Refusal}
use Rattle.plan.specs.Judge.{seen_after}
use Rattle.plan.specs.Read.{SetupReply, setup_read, setup_refused, no_lanes, placed}
use Rattle.plan.specs.declared.judge.Seen.{Seen}
use Rattle.plan.specs.declared.parse.SetupField.TheVariants.{Lane}
use Rattle.plan.proofs.Sound.{Sound}
use Rattle.sheet.specs.Form.{new_line, line_step}
use Rattle.sheet.specs.Judge.{Verdict, verdict, row_field}
use Rattle.sheet.specs.Read.{sheet_format, none_seen, blank, sheet_walk, read_sheet}
use Rattle.sheet.specs.declared.form.Line.{Line}
use Rattle.sheet.specs.declared.form.Row.{Row}
use Rattle.sheet.specs.declared.form.Step.{Step}
use Rattle.sheet.specs.declared.form.Step.TheVariants.{More, Whole, Wrong}
use Rattle.sheet.proofs.Turn.{after_line, after-byte}
use Rattle.sheet.proofs.Steps.{Sane, SaneRow, sane-begin, Stepped, stepped}
use Rattle.sheet.proofs.Rows.{Bare}
use Rattle.sheet.proofs.Back.{grows, bare-none, sound_none}
use Rattle.sheet.proofs.Numbers.{walk-byte}

pub record Standing (s : List ℕ) (seen : Seen) (gs : List Setting) (f : Line) (i : ℕ) : Type 0 where
  pub sound : Sound seen gs
  pub bare : Bare seen
  pub sane : Sane f i
  pub low : i ≤ length s
  pub same : sheet_walk seen gs f i (drop i s) ≡ read_sheet s

pub stand-first : (s : List ℕ) → Standing s none_seen no_lanes (new_line 0) 0
unfolding read_sheet
stand-first s = record { sound = sound_none; bare = bare-none; sane = sane-begin 0; low = omega arith; same = refl }

module _ (s : List ℕ) (seen : Seen) (gs : List Setting) (f : Line) (i : ℕ) (st : Standing s seen gs f i) where
  pub count_low : seen.count ≤ 64
  count_low = omega (arith, st.sound.count, st.sound.floor)

  module _ (h : i < length s) where
    abbrev go : Seen → List Setting → Line → SetupReply
    go seen₁ gs₁ f₁ = sheet_walk seen₁ gs₁ f₁ (i + 1) (drop (i + 1) s)

    split : drop i s ≡ get_or s i 0 ∷ drop (i + 1) s
    split = let e : suc i ≡ i + 1 = omega arith in drop-cons s i 0 h ∙ ap (λ (k : ℕ). get_or s i 0 ∷ drop k s) e

    here : (x : Step) → line_step f i (get_or s i 0) ≡ x → after-byte seen gs i x go ≡ read_sheet s
    here x e = sym (ap (sheet_walk seen gs f i) split ∙ walk-byte seen gs f i (get_or s i 0) (drop (i + 1) s) x (sym e)) ∙ st.same

    did : (x : Step) → line_step f i (get_or s i 0) ≡ x → Stepped f i (get_or s i 0) x
    did x e = subst (Stepped f i (get_or s i 0)) e (stepped f i (get_or s i 0) st.sane)

    pub stand-wrong : line_step f i (get_or s i 0) ≡ Wrong → setup_refused 80 (some i) ≡ read_sheet s
    stand-wrong e = here Wrong e

    pub stand-more : (g : Line) → line_step f i (get_or s i 0) ≡ More g → Standing s seen gs g (i + 1)
    stand-more g e = record { sound = st.sound; bare = st.bare; sane = (did (More g) e).0; low = omega arith; same = here (More g) e }

    module _ (r : Row) (e : line_step f i (get_or s i 0) ≡ Whole r) where
      pub row-sane : SaneRow r i
      row-sane = (did (Whole r) e).0

      judged : (v : Verdict) → verdict seen r ≡ v → after_line seen gs (i + 1) r v go ≡ read_sheet s
      judged v j = sym (ap (λ (w : Verdict). after_line seen gs (i + 1) r w go) j) ∙ here (Whole r) e

      pub stand-refused : (x : Refusal) → verdict seen r ≡ Err x → setup_refused (number x) (place_of x) ≡ read_sheet s
      stand-refused x j = judged (Err x) j

      pub stand-taken : verdict seen r ≡ Ok tt → Standing s (seen_after seen (Lane (row_field r))) (placed sheet_format 0 gs (Lane (row_field r))) (new_line (i + 1)) (i + 1)
      stand-taken j = record {
        sound = (grows seen gs r st.sound st.bare j).sound;
        bare = (grows seen gs r st.sound st.bare j).bare;
        sane = sane-begin (i + 1);
        low = omega arith;
        same = judged (Ok tt) j;
      }

  module _ (h : length s ≤ i) where
    at_the_end : (if blank f.part f.begun && ltb 0 seen.count then setup_read sheet_format gs seen.count i else setup_refused 81 (some i)) ≡ read_sheet s
    unfolding sheet_walk
    at_the_end = sym (ap (sheet_walk seen gs f i) (drop_of_length-le s h)) ∙ st.same

    pub stand_read : blank f.part f.begun ≡ true → ltb 0 seen.count ≡ true → setup_read sheet_format gs seen.count i ≡ read_sheet s
    stand_read a b = rw (← at_the_end, a, b)

    pub stand-cut : (blank f.part f.begun && ltb 0 seen.count) ≡ false → setup_refused 81 (some i) ≡ read_sheet s
    stand-cut a = rw (← at_the_end, a)

    pub stand-inside : blank f.part f.begun ≡ false → setup_refused 81 (some i) ≡ read_sheet s
    stand-inside a = stand-cut (rw a)

    pub stand-empty : blank f.part f.begun ≡ true → seen.count ≡ 0 → setup_refused 81 (some i) ≡ read_sheet s
    stand-empty a e = stand-cut (rw (a, e))
