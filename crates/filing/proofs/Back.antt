-- A clock that is taken back by K, a multiple of 2^31, moves no lane to another list, though B is remembered modulo 2 ^ 36 only. Assumes nothing.
use Prim.Native.Nat.{ℕ, ◌+◌, ◌-◌, ◌/◌, ◌%◌, ◌^◌, ◌≤◌}
use native.Mathlib.Omega.{arith}
use lib.Pow.{field, mod-mod-pow}
use mathlib.Core.Path.{◌≡◌, sym, ap, ◌∙◌}

-- a list by the endless clock x, whose multiples of 2 ^ 36 are forgotten
pub list-wraps : (x g : ℕ) → g ≤ 31 → x % 2 ^ 36 / 2 ^ g % 32 ≡ x / 2 ^ g % 32
list-wraps x g h =
    let a : 36 - g + g ≡ 36 = omega arith in
    let b : 31 - g + 5 ≡ 36 - g = omega arith in
    ap (λ (n : ℕ). x % 2 ^ n / 2 ^ g % 32) (sym a)
    ∙ ap (λ (y : ℕ). y % 32) (field x (36 - g) g)
    ∙ ap (λ (n : ℕ). x / 2 ^ g % 2 ^ n % 32) (sym b)
    ∙ mod-mod-pow (x / 2 ^ g) (31 - g) 5

pub list-stays : (s K B g : ℕ) → K ≤ s → g ≤ 31 → (s - K + (B + K) % 2 ^ 36) / 2 ^ g % 32 ≡ (s + B) / 2 ^ g % 32
list-stays s K B g le h =
    sym (list-wraps (s - K + (B + K) % 2 ^ 36) g h)
    ∙ ap (λ (y : ℕ). y / 2 ^ g % 32) (same (s - K) (B + K) (s + B) (omega arith))
    ∙ list-wraps (s + B) g h
  where
    same : (p q r : ℕ) → p + q ≡ r → (p + q % 2 ^ 36) % 2 ^ 36 ≡ r % 2 ^ 36
    same p q r e = omega arith
