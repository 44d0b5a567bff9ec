-- What is known of a refusal: its number is one of the list, and its place is in the sheet or at its length.
--
--   judged-fault   a line's refusal: 51, 52, 53, 4 or 6, at a place of the line
--   fault          a sheet's refusal: one of these, 80 or 81, at a place up to the sheet's length
--
-- Assumes nothing.
use Prim.Native.Nat.{ℕ, ◌+◌, ◌≤◌}
use native.Mathlib.Omega.{arith}
use mathlib.Core.Path.{◌≡◌, refl, sym, ap, subst, ◌∙◌}
use mathlib.Core.Bool.{Bool, true, false, ◌&&◌, ◌||◌}
use mathlib.Core.List.{List, [], ◌∷◌}
use mathlib.Core.Option.{Option, some}
use lib.Dec.{leb, ltb, eqb}
use lib.ListN.{length}
use Rattle.std.specs.Prelude.{Err, Ok}
use Rattle.std.specs.Prelude.{if◌then◌else◌}
use Rattle.rules.specs.State.{Setting}
use Rattle.rules.specs.Reads.{number, place_of}
use Rattle.rules.specs.declared.Refusal.{Refusal}
use Rattle.plan.specs.Judge.{last_lane, within, lane_outside, seen_after}
use Rattle.plan.specs.Accepted.{among}
use Rattle.plan.specs.Read.{SetupReply, setup_read, setup_refused, no_lanes, placed}
use Rattle.plan.specs.declared.judge.Seen.{Seen}
use Rattle.plan.specs.declared.parse.SetupField.TheVariants.{Lane}
use Rattle.plan.proofs.Refusals.{read-refused}
use Rattle.sheet.specs.Form.{new_line, line_step}
use Rattle.sheet.specs.Judge.{Verdict, verdict, row_field}
use Rattle.sheet.specs.Read.{sheet_format, none_seen, blank, sheet_walk, read_sheet}
use Rattle.sheet.specs.Promises.{sheet_refusals, RefusedSheet}
use Rattle.sheet.specs.declared.form.Line.{Line}
use Rattle.sheet.specs.declared.form.Row.{Row}
use Rattle.sheet.specs.declared.form.Step.{Step}
use Rattle.sheet.specs.declared.form.Step.TheVariants.{More, Whole, Wrong}
use Rattle.sheet.proofs.Turn.{after_line, after-byte}
use Rattle.sheet.proofs.Rows.{by_tests}
use Rattle.sheet.proofs.Steps.{Sane, SaneRow, sane-begin, Stepped, stepped}

-- the refusals of a line
abbrev pub line_number : ℕ → Bool
line_number n = among (51 ∷ 52 ∷ 53 ∷ 4 ∷ 6 ∷ []) n

pub record Told (m : ℕ) (x : Refusal) : Type 0 where
  pub listed : line_number (number x) ≡ true
  pub place : ℕ
  pub is : place_of x ≡ some place
  pub behind : place ≤ m

abbrev pub Judged : ℕ → Verdict → Type 0
Judged m (Ok done) = Unit
Judged m (Err x) = Told m x

pub judged-fault : (seen : Seen) (r : Row) (m : ℕ) → SaneRow r m → Judged m (verdict seen r)
unfolding verdict lane_outside
judged-fault seen r m h =
    go (leb r.lane.value last_lane) (within 1 1024 r.weight.value) (within 64 1500 r.longest.value) (ltb r.lane.value seen.floor) (ltb 1024 (seen.total + r.weight.value))
  where
    go : (a b c d e : Bool) → Judged m (by_tests seen r a b c d e)
    go false b c d e = record { listed = refl; place = r.lane.place; is = refl; behind = h.lane_behind }
    go true false c d e = record { listed = refl; place = r.weight.place; is = refl; behind = h.weight_behind }
    go true true false d e = record { listed = refl; place = r.longest.place; is = refl; behind = h.longest_behind }
    go true true true true e = record { listed = refl; place = r.lane.place; is = refl; behind = h.lane_behind }
    go true true true false true = record { listed = refl; place = r.weight.place; is = refl; behind = h.weight_behind }
    go true true true false false = tt

-- a refusal: one of the list, with a place before an end, or for 81 at it
pub record Fault (n : ℕ) (q : Option ℕ) (end : ℕ) : Type 0 where
  pub one_of : among sheet_refusals n ≡ true
  pub place : ℕ
  pub is : q ≡ some place
  pub within : place ≤ end
  pub at_the_end : place ≡ end → n ≡ 81

-- the refusals of a line are among those of a sheet
or-more : (a b c : Bool) → c ≡ true → (a || (b || c)) ≡ true
or-more true b c h = refl
or-more false true c h = refl
or-more false false c h = h

among-more : (n : ℕ) → line_number n ≡ true → among sheet_refusals n ≡ true
among-more n h = or-more (eqb 80 n) (eqb 81 n) (line_number n) h

module _ (n : ℕ) (q : Option ℕ) where
  fault-at : (m p end : ℕ) → among sheet_refusals m ≡ true → p ≤ end → (p ≡ end → m ≡ 81) → setup_refused m (some p) ≡ setup_refused n q → Fault n q end
  fault-at m p end s l last h =
      let e₁ : m ≡ n = cc in
      let e₂ : some p ≡ q = cc in
      record { one_of = subst (λ (k : ℕ). among sheet_refusals k ≡ true) e₁ s; place = p; is = sym e₂; within = l; at_the_end = λ z. sym e₁ ∙ last z }

  module _ (seen : Seen) (gs : List Setting) (f : Line) (at b : ℕ) (bs : List ℕ)
      (more : (seen₁ : Seen) (gs₁ : List Setting) (f₁ : Line) → Sane f₁ (at + 1) → sheet_walk seen₁ gs₁ f₁ (at + 1) bs ≡ setup_refused n q → Fault n q (at + 1 + length bs)) where
    abbrev go : Seen → List Setting → Line → SetupReply
    go seen₁ gs₁ f₁ = sheet_walk seen₁ gs₁ f₁ (at + 1) bs

    longer : Fault n q (at + 1 + length bs) → Fault n q (at + length (b ∷ bs))
    longer f = record { one_of = f.one_of; place = f.place; is = f.is; within = omega (arith, f.within); at_the_end = λ z. f.at_the_end (omega (arith, z)) }

    fault-line : (r : Row) (v : Verdict) → Judged at v → after_line seen gs (at + 1) r v go ≡ setup_refused n q → Fault n q (at + length (b ∷ bs))
    fault-line r (Err x) j h =
        fault-at (number x) j.place (at + length (b ∷ bs)) (among-more (number x) j.listed) (omega (arith, j.behind)) (λ z. absurd (omega (arith, j.behind, z)))
        (ap (setup_refused (number x)) (sym j.is) ∙ h)
    fault-line r (Ok done) j h = longer (more (seen_after seen (Lane (row_field r))) (placed sheet_format 0 gs (Lane (row_field r))) (new_line (at + 1)) (sane-begin (at + 1)) h)

    fault-step : (s : Step) → Stepped f at b s → after-byte seen gs at s go ≡ setup_refused n q → Fault n q (at + length (b ∷ bs))
    fault-step Wrong x h = fault-at 80 at (at + length (b ∷ bs)) refl (omega arith) (λ z. absurd (omega (arith, z))) h
    fault-step (More g) x h = longer (more seen gs g x.0 h)
    fault-step (Whole r) x h = fault-line r (verdict seen r) (judged-fault seen r at x.0) h

  fault-end : (seen : Seen) (gs : List Setting) (at : ℕ) (c : Bool) → (if c then setup_read sheet_format gs seen.count at else setup_refused 81 (some at)) ≡ setup_refused n q → Fault n q (at + 0)
  fault-end seen gs at true h = read-refused h
  fault-end seen gs at false h = fault-at 81 at (at + 0) refl (omega arith) (λ z. refl) h

  fault-walk : (bs : List ℕ) (seen : Seen) (gs : List Setting) (f : Line) (at : ℕ) → Sane f at → sheet_walk seen gs f at bs ≡ setup_refused n q → Fault n q (at + length bs)
  unfolding sheet_walk
  fault-walk [] seen gs f at sane h = fault-end seen gs at (blank f.part f.begun && ltb 0 seen.count) h
  fault-walk (b ∷ bs) seen gs f at sane h =
      fault-step seen gs f at b bs (λ seen₁ gs₁ f₁ sane₁ h₁. fault-walk bs seen₁ gs₁ f₁ (at + 1) sane₁ h₁) (line_step f at b) (stepped f at b sane) h

  pub fault : (s : List ℕ) → read_sheet s ≡ setup_refused n q → RefusedSheet s n q
  unfolding read_sheet
  fault s h =
      let f = fault-walk s none_seen no_lanes (new_line 0) 0 (sane-begin 0) h in
      record { listed = f.one_of; place = f.place; is = f.is; within = omega (arith, f.within); at_the_end = λ z. f.at_the_end (omega (arith, z)) }
