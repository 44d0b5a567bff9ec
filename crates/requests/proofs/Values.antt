-- A value read as one number, high byte first, and taken apart again.
--
--   big-more    a byte more
--   big-most    a number of n bytes is below 256 ^ n
--   value_is    the request by the number is the request by the bytes
--
-- Assumes nothing.
use Prim.Native.Nat.{ℕ, zero, suc, ◌+◌, ◌*◌, ◌/◌, ◌%◌, ◌^◌, ◌≤◌, ◌<◌}
use native.Mathlib.Nat.{add-zero, pow-suc, mul-le-mul_right}
use native.Mathlib.Omega.{arith}
use mathlib.Core.Path.{◌≡◌, refl, sym, ap, ◌∙◌}
use mathlib.Core.Bool.{Bool, true, false}
use mathlib.Core.List.{List}
use mathlib.Core.Option.{some}
use borrow.Author.Tests.{eqb-true}
use lib.Dec.{eqb}
use Rattle.units.proofs.Lists.{some_inj}
use Rattle.fields.specs.Bytes.{byte_at, big}
use Rattle.rules.specs.Calls.{lag}
use Rattle.requests.specs.Request.{request_size, call_of, call_by_number}

pub big-more : (s : List ℕ) (n at : ℕ) → big s at (suc n) ≡ big s at n * 256 + byte_at s (at + n)
unfolding big
big-more s zero at = omega (arith, ap (byte_at s) (add-zero at))
big-more s (suc n) at =
    let e : at + 1 + n ≡ at + suc n = omega arith in
    omega (arith, big-more s n (at + 1), ap (byte_at s) e, ap (λ (x : ℕ). byte_at s at * x) (pow-suc 256 n))

-- a put's value: 1, 4 and 2 bytes
seven : (s : List ℕ) (at : ℕ) → big s at 7 ≡ byte_at s at * 256 ^ 6 + big s (at + 1) 4 * 256 ^ 2 + big s (at + 5) 2
unfolding big
seven s at =
    let e : at + 1 + 1 + 1 + 1 + 1 ≡ at + 5 = omega arith in
    let f : at + 1 + 1 + 1 + 1 + 1 + 1 ≡ at + 5 + 1 = omega arith in
    omega (arith, ap (byte_at s) e, ap (byte_at s) f)

-- a put's value with a train: 1, 1, 4 and 2 bytes
eight : (s : List ℕ) (at : ℕ) → big s at 8 ≡ byte_at s at * 256 ^ 7 + byte_at s (at + 1) * 256 ^ 6 + big s (at + 2) 4 * 256 ^ 2 + big s (at + 6) 2
unfolding big
eight s at =
    let e : at + 1 + 1 ≡ at + 2 = omega arith in
    let f : at + 1 + 1 + 1 + 1 + 1 + 1 ≡ at + 6 = omega arith in
    let g : at + 1 + 1 + 1 + 1 + 1 + 1 + 1 ≡ at + 6 + 1 = omega arith in
    let h : at + 1 + 1 + 1 ≡ at + 2 + 1 = omega arith in
    let i : at + 1 + 1 + 1 + 1 ≡ at + 2 + 1 + 1 = omega arith in
    let j : at + 1 + 1 + 1 + 1 + 1 ≡ at + 2 + 1 + 1 + 1 = omega arith in
    omega (arith, ap (byte_at s) e, ap (byte_at s) f, ap (byte_at s) g, ap (byte_at s) h, ap (byte_at s) i, ap (byte_at s) j)

module _ (s : List ℕ) (small : (i : ℕ) → byte_at s i < 256) where
  pub big-most : (n at : ℕ) → big s at n < 256 ^ n
  unfolding big
  big-most zero at = omega arith
  big-most (suc n) at =
      let b : byte_at s at * 256 ^ n ≤ 255 * 256 ^ n = mul-le-mul_right (256 ^ n) (omega (arith, small at)) in
      omega (arith, b, big-most n (at + 1), pow-suc 256 n)

  put_is : (at : ℕ) → call_by_number 32 (big s at 7) ≡ call_of s 32 at
  unfolding call_by_number call_of
  put_is at =
      let x : ℕ = big s at 7 in
      let j : x / 2 ^ 48 % 2 ^ 8 ≡ byte_at s at = omega (arith, seven s at, small at, big-most 4 (at + 1), big-most 2 (at + 5)) in
      let m : x / 2 ^ 16 % 2 ^ 32 ≡ big s (at + 1) 4 = omega (arith, seven s at, small at, big-most 4 (at + 1), big-most 2 (at + 5)) in
      let n : x % 2 ^ 16 ≡ big s (at + 5) 2 = omega (arith, seven s at, small at, big-most 4 (at + 1), big-most 2 (at + 5)) in
      rw (j, m, n)

  put-train-is : (at : ℕ) → call_by_number 38 (big s at 8) ≡ call_of s 38 at
  unfolding call_by_number call_of
  put-train-is at =
      let x : ℕ = big s at 8 in
      let j : x / 2 ^ 56 % 2 ^ 8 ≡ byte_at s at = omega (arith, eight s at, small at, small (at + 1), big-most 4 (at + 2), big-most 2 (at + 6)) in
      let t : x / 2 ^ 48 % 2 ^ 8 ≡ byte_at s (at + 1) = omega (arith, eight s at, small at, small (at + 1), big-most 4 (at + 2), big-most 2 (at + 6)) in
      let m : x / 2 ^ 16 % 2 ^ 32 ≡ big s (at + 2) 4 = omega (arith, eight s at, small at, small (at + 1), big-most 4 (at + 2), big-most 2 (at + 6)) in
      let n : x % 2 ^ 16 ≡ big s (at + 6) 2 = omega (arith, eight s at, small at, small (at + 1), big-most 4 (at + 2), big-most 2 (at + 6)) in
      rw (j, t, m, n)

  lag-is : (at : ℕ) → call_by_number 36 (big s at 1) ≡ call_of s 36 at
  unfolding call_by_number call_of big
  lag-is at = let j : (byte_at s at * 256 ^ 0 + 0) % 2 ^ 8 ≡ byte_at s at = omega (arith, small at) in ap lag j

  -- the request by the number is the request by the bytes
  pub value_is : (tag at n : ℕ) → request_size tag ≡ some n → call_by_number tag (big s at n) ≡ call_of s tag at
  unfolding call_by_number call_of
  value_is tag at n e = first (eqb tag 32) refl
    where
      third : (b : Bool) → eqb tag 32 ≡ false → eqb tag 38 ≡ false → eqb tag 36 ≡ b → call_by_number tag (big s at n) ≡ call_of s tag at
      third true p o q =
          let t : tag ≡ 36 = eqb-true tag 36 q in
          let k : n ≡ 1 = some_inj n 1 (sym e ∙ rw t) in
          rw (t, k) (lag-is at)
      third false p o q = rw (p, o, q)

      second : (b : Bool) → eqb tag 32 ≡ false → eqb tag 38 ≡ b → call_by_number tag (big s at n) ≡ call_of s tag at
      second true p q =
          let t : tag ≡ 38 = eqb-true tag 38 q in
          let k : n ≡ 8 = some_inj n 8 (sym e ∙ rw t) in
          rw (t, k) (put-train-is at)
      second false p q = third (eqb tag 36) p q refl

      first : (b : Bool) → eqb tag 32 ≡ b → call_by_number tag (big s at n) ≡ call_of s tag at
      first true p =
          let t : tag ≡ 32 = eqb-true tag 32 p in
          let k : n ≡ 7 = some_inj n 7 (sym e ∙ rw t) in
          rw (t, k) (put_is at)
      first false p = second (eqb tag 38) p refl
