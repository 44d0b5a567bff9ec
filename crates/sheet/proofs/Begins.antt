-- Bytes with which a sheet of the form begins.
--
--   begins-line     any line that is begun can be made whole
--   begins-behind   a whole line before them
--
-- Assumes nothing.
use Prim.Native.Nat.{ℕ, ◌<◌}
use native.Mathlib.Omega.{arith}
use mathlib.Core.Path.{◌≡◌, refl, sym, ap, ◌∙◌}
use mathlib.Core.Bool.{Bool, true, false}
use mathlib.Core.List.{List, [], ◌∷◌, ◌++◌, append_assoc, append-nil}
use Rattle.text.specs.Decimal.{decimal}
use Rattle.sheet.specs.Text.{Entry, entry_bytes, ShortNumbers, lines_bytes, AllShort, BeginsSheet}
use Rattle.sheet.specs.declared.form.Part as part
use Rattle.sheet.specs.declared.form.Part.TheVariants as parts
use Rattle.sheet.specs.declared.form.Line.{Line}
use Rattle.sheet.specs.declared.form.Row.{Row}
use Rattle.sheet.proofs.Steps.{so_far, last_bytes, so_far-append, bytes_of, row_bytes, Sane, SaneRow}

pub record Ends (t : List ℕ) : Type 0 where
  pub rest : List ℕ
  pub entry : Entry
  pub short : ShortNumbers entry
  pub bytes : t ++ rest ≡ entry_bytes entry

-- the last number, with a digit 0 if it has none
abbrev last_of : Bool → ℕ → ℕ
last_of true v = v
last_of false v = 0

abbrev digit_for : Bool → List ℕ
digit_for true = []
digit_for false = decimal 0

last-whole : (b : Bool) (v : ℕ) (t : List ℕ) → last_bytes b v ++ (digit_for b ++ t) ≡ decimal (last_of b v) ++ t
last-whole true v t = refl
last-whole false v t = refl

last-short : (b : Bool) (v : ℕ) → v < 100000 → last_of b v < 100000
last-short true v h = h
last-short false v h = omega arith

ends-line : (p : part.Part) (a w : ℕ) (b : Bool) (v : ℕ) → a < 100000 → w < 100000 → v < 100000 → Ends (so_far p a w (last_bytes b v))
ends-line parts.Lane a w b v ha hw hv = record {
  rest = digit_for b ++ 32 ∷ (decimal 0 ++ 32 ∷ (decimal 0 ++ 10 ∷ []));
  entry = record { first = last_of b v; second = 0; third = 0 };
  short = record { first = last-short b v hv; second = omega arith; third = omega arith };
  bytes = last-whole b v (32 ∷ (decimal 0 ++ 32 ∷ (decimal 0 ++ 10 ∷ [])));
}
ends-line parts.Weight a w b v ha hw hv = record {
  rest = digit_for b ++ 32 ∷ (decimal 0 ++ 10 ∷ []);
  entry = record { first = a; second = last_of b v; third = 0 };
  short = record { first = ha; second = last-short b v hv; third = omega arith };
  bytes =
      so_far-append parts.Weight a w (last_bytes b v) (digit_for b ++ 32 ∷ (decimal 0 ++ 10 ∷ []))
      ∙ ap (so_far parts.Weight a w) (last-whole b v (32 ∷ (decimal 0 ++ 10 ∷ [])));
}
ends-line parts.Longest a w b v ha hw hv = record {
  rest = digit_for b ++ 10 ∷ [];
  entry = record { first = a; second = w; third = last_of b v };
  short = record { first = ha; second = hw; third = last-short b v hv };
  bytes = so_far-append parts.Longest a w (last_bytes b v) (digit_for b ++ 10 ∷ []) ∙ ap (so_far parts.Longest a w) (last-whole b v (10 ∷ []));
}

ends : (f : Line) (at : ℕ) → Sane f at → Ends (bytes_of f)
ends f at s = ends-line f.part f.lane.value f.weight.value f.begun f.last.value s.lane s.weight s.last

pub begins-line : (f : Line) (at : ℕ) → Sane f at → BeginsSheet (bytes_of f)
unfolding lines_bytes AllShort
begins-line f at s =
    let e = ends f at s in
    record { rest = e.rest; sheet = record { head = e.entry; rest = []; short = (e.short, tt); bytes = append-nil (entry_bytes e.entry) ∙ sym e.bytes } }

-- a line before them
pub begins-behind : (r : Row) (m : ℕ) (t : List ℕ) → SaneRow r m → BeginsSheet t → BeginsSheet (row_bytes r ++ t)
unfolding lines_bytes AllShort
begins-behind r m t s h =
    let e : Entry = record { first = r.lane.value; second = r.weight.value; third = r.longest.value } in
    let k = h.sheet in
    record {
      rest = h.rest;
      sheet = record {
        head = e;
        rest = k.head ∷ k.rest;
        short = (record { first = s.lane; second = s.weight; third = s.longest }, k.short);
        bytes = ap (λ (l : List ℕ). row_bytes r ++ l) k.bytes ∙ sym (append_assoc (row_bytes r) t h.rest);
      };
    }
