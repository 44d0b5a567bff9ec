-- How large the products are. Assumes nothing.
use Prim.Native.Nat.{ℕ, ◌*◌, ◌^◌, ◌≤◌}
use native.Mathlib.Nat.{mul-le-mul}

module _ (n k b c : ℕ) (count : n ≤ 77) (times : k ≤ 65) (length : b ≤ 1564) (rate : c ≤ 2 ^ 20) where
  pub bytes_small : n * b ≤ 77 * 1564
  bytes_small = mul-le-mul count length

  pub more-small : k * (n * b) ≤ 65 * (77 * 1564)
  more-small = mul-le-mul times bytes_small

  pub charge-small : c * (k * (n * b)) ≤ 2 ^ 20 * (65 * (77 * 1564))
  charge-small = mul-le-mul rate more-small
