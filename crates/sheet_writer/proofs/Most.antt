-- A sheet has at most 698 bytes. Assumes nothing.
use Prim.Native.Nat.{ℕ, suc, ◌+◌, ◌-◌, ◌*◌, ◌≤◌, ◌<◌}
use native.Mathlib.Omega.{arith}
use native.Mathlib.Decide.{dec_le}
use mathlib.Core.Path.{◌≡◌, ap}
use mathlib.Core.List.{List, [], ◌∷◌}
use mathlib.Core.Logic.{◌⊎◌, ⊎_elim}
use lib.ListN.{length, get_or, length-append}
use Rattle.rules.specs.State.{Setting, no_setting}
use Rattle.rules.specs.Setup.{Setup, InNumbers, weights}
use Rattle.text.specs.Decimal.{decimal}
use Rattle.text.proofs.Widths.{decimal-le}
use Rattle.sheet.specs.Text.{lane_line, sheet_from, sheet_bytes}
use Rattle.sheet.proofs.Sheets.{line-there}
use Rattle.sheet_writer.proofs.Writing.{line-length, line-absent}

-- a weight's digits, by a line that meets 1, 2 and 3 digits where they begin
weight-digits : (w : ℕ) → 1 ≤ w → w ≤ 1024 → 90 * length (decimal w) ≤ 170 + w
weight-digits w lo hi =
    elim (dec_le w 9) [
      | yes a ↦ omega (arith, decimal-le w 1 (omega arith) (omega arith))
      | no a ↦ elim (dec_le w 99) [
        | yes b ↦ omega (arith, decimal-le w 2 (omega arith) (omega arith))
        | no b ↦ elim (dec_le w 999) [
          | yes c ↦ omega (arith, decimal-le w 3 (omega arith) (omega arith))
          | no c ↦ omega (arith, decimal-le w 4 (omega arith) (omega arith))
        ]
      ]
    ]

lane-digits : (k : ℕ) → k < 64 → length (decimal k) + (10 - k) ≤ 2 + (10 - suc k)
lane-digits k h =
    elim (dec_le k 9) [
      | yes a ↦ omega (arith, decimal-le k 1 (omega arith) (omega arith))
      | no a ↦ omega (arith, decimal-le k 2 (omega arith) (omega arith))
    ]

-- lanes below 10 have one digit, the others two
most : (gs : List Setting) (k : ℕ) → k + length gs ≡ 64 → ((j : ℕ) → InNumbers (get_or gs j no_setting) ⊎ (get_or gs j no_setting ≡ no_setting))
    → 90 * length (sheet_from k gs) + 90 * (10 - k) ≤ 980 * length gs + weights gs
unfolding sheet_from
most [] k size each = omega arith
most (g ∷ gs) k size each =
    let more = most gs (suc k) (omega arith) (λ j. each (suc j)) in
    let l = length-append (lane_line k g) (sheet_from (suc k) gs) in
    let d = lane-digits k (omega arith) in
    ⊎_elim
    (λ (i : InNumbers g). omega (arith, more, l, d, ap length (line-there k g i.weight_low), line-length k g.weight g.longest, weight-digits g.weight i.weight_low i.weight_high, decimal-le g.longest 4 (omega arith) (omega (arith, i.longest_high))))
    (λ (e : g ≡ no_setting). omega (arith, more, l, d, ap length (line-absent k g (ap (λ (x : Setting). x.weight) e)), ap (λ (x : Setting). x.weight) e))
    (each 0)

pub sheet-most : (gs : List Setting) → Setup gs → length (sheet_bytes gs) ≤ 698
unfolding sheet_bytes
sheet-most gs s = omega (arith, most gs 0 (omega (arith, s.size)) s.each, s.size, s.total)
