-- Multiples of 2^31 are whole slots of every group, as group indices are at most 31: so they move the number of a slot, and nothing within it. Assumes nothing.
use Prim.Native.Nat.{ℕ, ◌+◌, ◌-◌, ◌*◌, ◌/◌, ◌%◌, ◌^◌, ◌≤◌}
use native.Mathlib.Nat.{add-mul-div_right}
use native.Mathlib.Omega.{arith}
use lib.Pow.{pow_pos, split, mod-mod-pow}
use mathlib.Core.Path.{◌≡◌, sym, ap, ◌∙◌}

pub whole-slots : (B g : ℕ) → B % 2 ^ 31 ≡ 0 → g ≤ 31 → B / 2 ^ g * 2 ^ g ≡ B
whole-slots B g w h =
    let e : 31 - g + g ≡ 31 = omega arith in
    let left : B % 2 ^ g ≡ 0 % 2 ^ g = sym (mod-mod-pow B (31 - g) g) ∙ ap (λ (n : ℕ). B % 2 ^ n % 2 ^ g) e ∙ ap (λ (n : ℕ). n % 2 ^ g) w in
    omega (arith, split B g, left, split 0 g)

-- so a slot's number is that by the clock, and as many more for every lane of the group
pub slot-part : (B g x : ℕ) → B % 2 ^ 31 ≡ 0 → g ≤ 31 → (x + B) / 2 ^ g ≡ x / 2 ^ g + B / 2 ^ g
slot-part B g x w h = ap (λ (b : ℕ). (x + b) / 2 ^ g) (sym (whole-slots B g w h)) ∙ add-mul-div_right x (B / 2 ^ g) (pow_pos g)
