-- What a byte does to the bytes of a line that are read.
--
--   bytes_of   the bytes that were read of a line
--   Sane      its numbers have at most five digits, and its places are behind
--   stepped   a byte that the form can have is added to them; a whole line's bytes are the line as it is written
--
-- Assumes nothing.
use Prim.Native.Nat.{ℕ, ◌+◌, ◌-◌, ◌*◌, ◌≤◌, ◌<◌}
use native.Mathlib.Omega.{arith}
use mathlib.Core.Path.{◌≡◌, refl, sym, ap, ◌∙◌}
use mathlib.Core.Bool.{Bool, true, false, ◌&&◌}
use mathlib.Core.List.{List, [], ◌∷◌, ◌++◌, append_assoc}
use lib.Dec.{leb, ltb, eqb}
use borrow.Author.Tests.{leb-true, ltb-true, eqb-true}
use Rattle.std.specs.Prelude.{if◌then◌else◌}
use Rattle.units.proofs.Bools.{and_parts, true-false}
use Rattle.text.specs.Decimal.{decimal}
use Rattle.text.proofs.Widths.{decimal-one}
use Rattle.sheet.specs.Form.{is_digit, extends, stop, no_digits, new_line, grown, number_closed, line_step}
use Rattle.sheet.specs.Text.{line_bytes}
use Rattle.sheet.specs.declared.form.Part.{Part}
use Rattle.sheet.specs.declared.form.Part.TheVariants.{Lane, Weight, Longest}
use Rattle.sheet.specs.declared.form.Figure.{Figure}
use Rattle.sheet.specs.declared.form.Line.{Line}
use Rattle.sheet.specs.declared.form.Row.{Row}
use Rattle.sheet.specs.declared.form.Step.{Step}
use Rattle.sheet.specs.declared.form.Step.TheVariants.{More, Whole, Wrong}
use Rattle.sheet.proofs.Decimals.{decimal-more}

abbrev pub last_bytes : Bool → ℕ → List ℕ
last_bytes true v = decimal v
last_bytes false v = []

abbrev pub so_far : Part → ℕ → ℕ → List ℕ → List ℕ
so_far Lane a w t = t
so_far Weight a w t = decimal a ++ 32 ∷ t
so_far Longest a w t = decimal a ++ 32 ∷ (decimal w ++ 32 ∷ t)

abbrev pub bytes_of : Line → List ℕ
bytes_of f = so_far f.part f.lane.value f.weight.value (last_bytes f.begun f.last.value)

abbrev pub row_bytes : Row → List ℕ
row_bytes r = line_bytes r.lane.value r.weight.value r.longest.value

pub so_far-append : (p : Part) (a w : ℕ) (t x : List ℕ) → so_far p a w t ++ x ≡ so_far p a w (t ++ x)
so_far-append Lane a w t x = refl
so_far-append Weight a w t x = append_assoc (decimal a) (32 ∷ t) x
so_far-append Longest a w t x =
    append_assoc (decimal a) (32 ∷ (decimal w ++ 32 ∷ t)) x
    ∙ ap (λ (l : List ℕ). decimal a ++ 32 ∷ l) (append_assoc (decimal w) (32 ∷ t) x)

pub record Sane (f : Line) (at : ℕ) : Type 0 where
  pub lane : f.lane.value < 100000
  pub weight : f.weight.value < 100000
  pub last : f.last.value < 100000
  pub first : f.begun ≡ false → f.last.value ≡ 0
  pub lane_behind : f.lane.place ≤ at
  pub weight_behind : f.weight.place ≤ at
  pub last_behind : f.last.place ≤ at

pub record SaneRow (r : Row) (at : ℕ) : Type 0 where
  pub lane : r.lane.value < 100000
  pub weight : r.weight.value < 100000
  pub longest : r.longest.value < 100000
  pub lane_behind : r.lane.place ≤ at
  pub weight_behind : r.weight.place ≤ at
  pub longest_behind : r.longest.place ≤ at

pub sane-begin : (at : ℕ) → Sane (new_line at) at
sane-begin at = record {
  lane = omega arith;
  weight = omega arith;
  last = omega arith;
  first = λ e. refl;
  lane_behind = omega arith;
  weight_behind = omega arith;
  last_behind = omega arith;
}

abbrev pub Stepped : Line → ℕ → ℕ → Step → Type 0
Stepped f at b (More g) = Sane g (at + 1) × (bytes_of f ++ b ∷ [] ≡ bytes_of g)
Stepped f at b (Whole r) = SaneRow r at × (bytes_of f ++ b ∷ [] ≡ row_bytes r)
Stepped f at b Wrong = Unit

module _ (f : Line) (at b : ℕ) (sane : Sane f at) where
  abbrev v : ℕ
  v = f.last.value

  -- a digit
  module _ (d : is_digit b ≡ true) where
    ten : (48 ≤ b) × (b - 48 < 10)
    ten = let t = and_parts (leb 48 b) (leb b 57) d in let lo = leb-true 48 b t.0 in let hi = leb-true b 57 t.1 in omega arith

    self : 48 + (b - 48) ≡ b
    self = omega (arith, ten)

    grows : (begun : Bool) → f.begun ≡ begun → extends begun v ≡ true → (v * 10 + (b - 48) < 100000) × (last_bytes begun v ++ b ∷ [] ≡ decimal (v * 10 + (b - 48)))
    grows false e o =
        let z : v ≡ 0 = sane.first e in
        let n : v * 10 + (b - 48) ≡ b - 48 = omega arith in
        (omega (arith, ten), sym (ap decimal n ∙ decimal-one (b - 48) ten.1 ∙ ap (λ (x : ℕ). x ∷ []) self))
    grows true e o =
        let t = and_parts (ltb 0 v) (ltb v 10000) o in
        let lo = ltb-true 0 v t.0 in
        let hi = ltb-true v 10000 t.1 in
        (omega (arith, ten), sym (decimal-more v (b - 48) ten.1 lo (omega arith) ∙ ap (λ (x : ℕ). decimal v ++ x ∷ []) self))

    stepped-digit : extends f.begun v ≡ true → Stepped f at b (More (grown f b))
    stepped-digit o =
        let g = grows f.begun refl o in (
          record {
            lane = sane.lane;
            weight = sane.weight;
            last = g.0;
            first = λ e. true-false e;
            lane_behind = omega (arith, sane.lane_behind);
            weight_behind = omega (arith, sane.weight_behind);
            last_behind = omega (arith, sane.last_behind);
          },
          so_far-append f.part f.lane.value f.weight.value (last_bytes f.begun v) (b ∷ []) ∙ ap (so_far f.part f.lane.value f.weight.value) g.1,
        )

  -- the byte that ends a number
  unread-sane : (p : Part) (a w : Figure) → a.value < 100000 → w.value < 100000 → a.place ≤ at → w.place ≤ at
      → Sane (record { part = p; lane = a; weight = w; begun = false; last = no_digits (at + 1) }) (at + 1)
  unread-sane p a w h₁ h₂ h₃ h₄ = record {
    lane = h₁;
    weight = h₂;
    last = omega arith;
    first = λ e. refl;
    lane_behind = omega arith;
    weight_behind = omega arith;
    last_behind = omega arith;
  }

  abbrev before : Part → List ℕ
  before p = so_far p f.lane.value f.weight.value (decimal v)

  abbrev Closed : Part → Step → Type 0
  Closed p (More g) = Sane g (at + 1) × (before p ++ b ∷ [] ≡ bytes_of g)
  Closed p (Whole r) = SaneRow r at × (before p ++ b ∷ [] ≡ row_bytes r)
  Closed p Wrong = Unit

  closes : (p : Part) → b ≡ stop p → Closed p (number_closed p f (at + 1))
  closes Lane e = (
    unread-sane Weight f.last f.weight sane.last sane.weight sane.last_behind sane.weight_behind,
    ap (λ (x : ℕ). decimal v ++ x ∷ []) e,
  )
  closes Weight e = (
    unread-sane Longest f.lane f.last sane.lane sane.last sane.lane_behind sane.last_behind,
    so_far-append Weight f.lane.value f.weight.value (decimal v) (b ∷ []) ∙ ap (λ (x : ℕ). so_far Weight f.lane.value 0 (decimal v ++ x ∷ [])) e,
  )
  closes Longest e = (
    record {
      lane = sane.lane;
      weight = sane.weight;
      longest = sane.last;
      lane_behind = sane.lane_behind;
      weight_behind = sane.weight_behind;
      longest_behind = sane.last_behind;
    },
    so_far-append Longest f.lane.value f.weight.value (decimal v) (b ∷ []) ∙ ap (λ (x : ℕ). so_far Longest f.lane.value f.weight.value (decimal v ++ x ∷ [])) e,
  )

  stepped-closed : f.begun ≡ true → b ≡ stop f.part → Stepped f at b (number_closed f.part f (at + 1))
  stepped-closed h e = moved (number_closed f.part f (at + 1)) (closes f.part e)
    where
      same : bytes_of f ++ b ∷ [] ≡ before f.part ++ b ∷ []
      same = ap (λ (t : Bool). so_far f.part f.lane.value f.weight.value (last_bytes t v) ++ b ∷ []) h

      moved : (s : Step) → Closed f.part s → Stepped f at b s
      moved (More g) x = (x.0, same ∙ x.1)
      moved (Whole r) x = (x.0, same ∙ x.1)
      moved Wrong x = x

  pub stepped : Stepped f at b (line_step f at b)
  unfolding line_step
  stepped = go (is_digit b) (extends f.begun v) (f.begun && eqb b (stop f.part)) refl refl refl
    where
      go : (d o e : Bool) → is_digit b ≡ d → extends f.begun v ≡ o → (f.begun && eqb b (stop f.part)) ≡ e
          → Stepped f at b (if d then (if o then More (grown f b) else Wrong) else (if e then number_closed f.part f (at + 1) else Wrong))
      go true true e p q r = stepped-digit p q
      go true false e p q r = tt
      go false o true p q r =
          let t = and_parts f.begun (eqb b (stop f.part)) r in
          stepped-closed t.0 (eqb-true b (stop f.part) t.1)
      go false o false p q r = tt
