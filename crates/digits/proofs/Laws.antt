-- Laws of a word's digits, over the width and the place. Assumes nothing.
use mathlib.Core.Path.{◌≡◌, sym, ap, ◌∙◌, subst}
use mathlib.Core.Logic.{⊎_elim}
use Prim.Native.Nat.{ℕ, suc, ◌+◌, ◌-◌, ◌*◌, ◌/◌, ◌%◌, ◌^◌, ◌≤◌, ◌<◌}
use native.Mathlib.Nat.{mod-lt, mul-suc, mul-le-mul_left}
use native.Mathlib.Omega.{arith}
use lib.Arith.{digits_lt}
use lib.Pow.{pow_pos, pow-add, high, low, shr-shr, shr_lt, field, mod-mod-pow}
use Rattle.words.proofs.Runs.{le-or-lt}
use Rattle.digits.specs.Digits.{digit, put_digit}

module _ (b j v x : ℕ) where
  -- from digit j on
  put-from : put_digit b j v x / 2 ^ (b * j) ≡ x / 2 ^ (b * j + b) * 2 ^ b + v
  unfolding put_digit
  put-from = high (x / 2 ^ (b * j + b) * 2 ^ b + v) (b * j) (mod-lt x (pow_pos (b * j)))

  -- below it
  put-below : put_digit b j v x % 2 ^ (b * j) ≡ x % 2 ^ (b * j)
  unfolding put_digit
  put-below = low (x / 2 ^ (b * j + b) * 2 ^ b + v) (b * j) (mod-lt x (pow_pos (b * j)))

  module _ (small : v < 2 ^ b) where
    pub digit-put-same : digit b j (put_digit b j v x) ≡ v
    unfolding digit
    digit-put-same = ap (λ (y : ℕ). y % 2 ^ b) put-from ∙ low (x / 2 ^ (b * j + b)) b small

    -- above it
    put-above : put_digit b j v x / 2 ^ (b * j + b) ≡ x / 2 ^ (b * j + b)
    put-above = sym (shr-shr (put_digit b j v x) (b * j) b) ∙ ap (λ (y : ℕ). y / 2 ^ b) put-from ∙ high (x / 2 ^ (b * j + b)) b small

    pub put_small : (n : ℕ) → b * j + b ≤ n → x < 2 ^ n → put_digit b j v x < 2 ^ n
    unfolding put_digit
    put_small n fits h =
        let e = n - (b * j + b) in
        let top : x / 2 ^ (b * j + b) < 2 ^ e = shr_lt e (b * j + b) (subst (λ (m : ℕ). x < 2 ^ m) (omega arith) h) in
        let from : x / 2 ^ (b * j + b) * 2 ^ b + v < 2 ^ (e + b) = rw (pow-add 2 e b) (digits_lt top small) in
        let whole : (x / 2 ^ (b * j + b) * 2 ^ b + v) * 2 ^ (b * j) + x % 2 ^ (b * j) < 2 ^ (e + b + b * j) = rw (pow-add 2 (e + b) (b * j)) (digits_lt from (mod-lt x (pow_pos (b * j)))) in
        subst (λ (m : ℕ). (x / 2 ^ (b * j + b) * 2 ^ b + v) * 2 ^ (b * j) + x % 2 ^ (b * j) < 2 ^ m) (omega arith) whole

    module _ (i : ℕ) where
      -- a digit goes by the bits below its end
      lower : suc i ≤ j → digit b i (put_digit b j v x) ≡ digit b i x
      unfolding digit
      lower h =
          let m = b * j - (b + b * i) in
          let fits : b * j ≡ m + (b + b * i) = omega (arith, room) in
          let ends : put_digit b j v x % 2 ^ (b + b * i) ≡ x % 2 ^ (b + b * i) =
          sym (mod-mod-pow (put_digit b j v x) m (b + b * i))
          ∙ ap (λ (k : ℕ). put_digit b j v x % 2 ^ k % 2 ^ (b + b * i)) (sym fits)
          ∙ ap (λ (y : ℕ). y % 2 ^ (b + b * i)) put-below
          ∙ ap (λ (k : ℕ). x % 2 ^ k % 2 ^ (b + b * i)) fits
          ∙ mod-mod-pow x m (b + b * i) in
          sym (field (put_digit b j v x) b (b * i)) ∙ ap (λ (y : ℕ). y / 2 ^ (b * i)) ends ∙ field x b (b * i)
        where
          room : b + b * i ≤ b * j
          room = omega (arith, mul-suc b i, mul-le-mul_left b h)

      upper : suc j ≤ i → digit b i (put_digit b j v x) ≡ digit b i x
      unfolding digit
      upper h =
          let e = b * i - (b * j + b) in
          let fits : b * i ≡ b * j + b + e = omega (arith, room) in
          let from : (y : ℕ) → y / 2 ^ (b * i) ≡ y / 2 ^ (b * j + b) / 2 ^ e = λ y. ap (λ (k : ℕ). y / 2 ^ k) fits ∙ sym (shr-shr y (b * j + b) e) in
          ap (λ (y : ℕ). y % 2 ^ b) (from (put_digit b j v x) ∙ ap (λ (y : ℕ). y / 2 ^ e) put-above ∙ sym (from x))
        where
          room : b + b * j ≤ b * i
          room = omega (arith, mul-suc b j, mul-le-mul_left b h)

      pub digit-put-other : (i ≡ j → ⊥) → digit b i (put_digit b j v x) ≡ digit b i x
      digit-put-other ne = ⊎_elim (λ (p : suc i ≤ j). lower p) (λ (q : j < suc i). upper (omega arith)) (le-or-lt (suc i) j)
