-- Laws of the sheet of a plan: one lane more, above all others.
-- Assumes nothing.
use Prim.Native.Nat.{ℕ, zero, suc, ◌+◌, ◌≤◌, ◌<◌}
use native.Mathlib.Nat.{not-suc-le-zero, le_of_suc-le-suc}
use native.Mathlib.Omega.{arith}
use mathlib.Core.Path.{◌≡◌, refl, sym, ap, ◌∙◌}
use mathlib.Core.List.{List, [], ◌∷◌, ◌++◌, append_assoc, append-nil}
use lib.ListN.{length, get_or, set}
use borrow.Author.Tests.{lt-ltb}
use Rattle.rules.specs.State.{Setting, no_setting}
use Rattle.sheet.specs.Text.{line_bytes, lane_line, sheet_from, sheet_bytes}

-- no lane, no line
pub sheet-none : (i : ℕ) (gs : List Setting) → ((j : ℕ) → get_or gs j no_setting ≡ no_setting) → sheet_from i gs ≡ []
unfolding sheet_from
sheet-none i [] h = refl
sheet-none i (x ∷ xs) h = ap (λ (g : Setting). lane_line i g ++ sheet_from (suc i) xs) (h 0) ∙ sheet-none (suc i) xs (λ j. h (suc j))

pub line-there : (k : ℕ) (g : Setting) → 1 ≤ g.weight → lane_line k g ≡ line_bytes k g.weight g.longest
line-there k g h = rw (lt-ltb 0 g.weight h)

set_line : (i k : ℕ) (gs : List Setting) (g : Setting) → k < length gs → ((j : ℕ) → k ≤ j → get_or gs j no_setting ≡ no_setting)
    → sheet_from i (set gs k g) ≡ sheet_from i gs ++ lane_line (i + k) g
unfolding sheet_from
set_line i k [] g few none = absurd (not-suc-le-zero few)
set_line i zero (x ∷ xs) g few none =
    let z : sheet_from (suc i) xs ≡ [] = sheet-none (suc i) xs (λ j. none (suc j) (omega arith)) in
    let y : sheet_from i (x ∷ xs) ≡ [] = sheet-none i (x ∷ xs) (λ j. none j (omega arith)) in
    ap (λ (l : List ℕ). lane_line i g ++ l) z ∙ append-nil (lane_line i g) ∙ ap (λ (k : ℕ). lane_line k g) (omega arith) ∙ sym (ap (λ (l : List ℕ). l ++ lane_line (i + 0) g) y)
set_line i (suc k) (x ∷ xs) g few none =
    ap (λ (l : List ℕ). lane_line i x ++ l) (set_line (suc i) k xs g (le_of_suc-le-suc few) (λ j h. none (suc j) (omega arith)))
    ∙ sym (append_assoc (lane_line i x) (sheet_from (suc i) xs) (lane_line (suc i + k) g))
    ∙ ap (λ (m : ℕ). (lane_line i x ++ sheet_from (suc i) xs) ++ lane_line m g) (omega arith)

-- a lane above all others adds its line at the end
pub sheet-set : (k : ℕ) (gs : List Setting) (g : Setting) → k < length gs → ((j : ℕ) → k ≤ j → get_or gs j no_setting ≡ no_setting) → 1 ≤ g.weight
    → sheet_bytes (set gs k g) ≡ sheet_bytes gs ++ line_bytes k g.weight g.longest
unfolding sheet_bytes
sheet-set k gs g few none w = set_line 0 k gs g few none ∙ ap (λ (l : List ℕ). sheet_from 0 gs ++ l) (ap (λ (m : ℕ). lane_line m g) (omega arith) ∙ line-there k g w)
