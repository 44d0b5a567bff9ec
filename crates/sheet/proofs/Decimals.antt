-- Laws of decimal numbers: a number with a digit more. Assumes nothing.
use Prim.Native.Nat.{ℕ, zero, suc, ◌+◌, ◌*◌, ◌/◌, ◌%◌, ◌^◌, ◌≤◌, ◌<◌}
use native.Mathlib.Nat.{pow-suc, pow-succ', div-div-eq-div-mul}
use native.Mathlib.Omega.{arith}
use mathlib.Core.Path.{◌≡◌, sym, ap, ◌∙◌}
use mathlib.Core.List.{List, [], ◌∷◌, ◌++◌}
use Rattle.text.specs.Decimal.{digits, Width, width, decimal}
use Rattle.text.proofs.Widths.{width_is, width-unique}

module _ (q d : ℕ) (small : d < 10) where
  tens : (k : ℕ) → (q * 10 + d) / 10 ^ suc k ≡ q / 10 ^ k
  tens k =
      let one : (q * 10 + d) / 10 ≡ q = omega arith in
      ap (λ (m : ℕ). (q * 10 + d) / m) (pow-succ' 10 k) ∙ sym (div-div-eq-div-mul (q * 10 + d) 10 (10 ^ k)) ∙ ap (λ (m : ℕ). m / 10 ^ k) one

  digits_more : (k : ℕ) → digits (suc k) (q * 10 + d) ≡ digits k q ++ (48 + d) ∷ []
  unfolding digits
  digits_more zero = ap (λ (x : ℕ). x ∷ []) (omega arith)
  digits_more (suc k) = rw (tens k) (ap (λ (l : List ℕ). (48 + q / 10 ^ k % 10) ∷ l) (digits_more k))

  wider : 0 < q → (w : ℕ) → Width q w → Width (q * 10 + d) (suc w)
  wider p w h = record {
    some = omega arith;
    enough = omega (arith, h.enough, pow-suc 10 w);
    none_below = below;
  }
    where
      below : (j : ℕ) → 0 < j → q * 10 + d < 10 ^ j → suc w ≤ j
      below zero a b = absurd (omega arith)
      below (suc zero) a b = absurd (omega arith)
      below (suc (suc j)) a b = omega (arith, h.none_below (suc j) (omega arith) (omega (arith, pow-suc 10 (suc j))))

  pub decimal-more : 0 < q → q < 10 ^ 18 → decimal (q * 10 + d) ≡ decimal q ++ (48 + d) ∷ []
  unfolding decimal
  decimal-more p few =
      let w : suc (width q) ≡ width (q * 10 + d) = width-unique (q * 10 + d) (suc (width q)) (omega arith) (wider p (width q) (width_is q (omega arith))) in
      ap (λ (k : ℕ). digits k (q * 10 + d)) (sym w) ∙ digits_more (width q)
