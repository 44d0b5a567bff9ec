-- Words of tests: bit i is the test at i, and the first set bit is the least number at which the test passes. Assumes nothing.
use Prim.Native.Nat.{ℕ, zero, suc, ◌+◌, ◌*◌, ◌/◌, ◌%◌, ◌^◌, ◌≤◌, ◌<◌}
use native.Mathlib.Omega.{arith}
use native.Mathlib.Nat.{pow-succ', mul_assoc, le_of_suc-le-suc, not-suc-le-zero, le_dest, add-suc, add-zero, add-mul-div_right, two-pow-succ, eq-or-lt_of_le}
use mathlib.Core.Path.{◌≡◌, refl, sym, ap, ◌∙◌}
use mathlib.Core.Bool.{Bool, true, false}
use lib.Count.{count_trailing_zeros}
use lib.Pow.{pow-add, pow_pos, high}
use mathlib.Core.Logic.{◌⊎◌, inl, inr}
use Rattle.std.specs.Prelude.{if◌then◌else◌}
use Rattle.units.specs.Plain.{word_of, count}
use Rattle.units.proofs.Bools.{if-ind}

none-set : (p : ℕ → Bool) (m : ℕ) → ((i : ℕ) → i < m → p i ≡ false) → word_of p m ≡ 0
unfolding word_of
none-set p zero f = refl
none-set p (suc m) f = simp (f m (omega arith)) (omega (arith, none-set p m (λ i h. f i (omega arith))))

twice : (m x : ℕ) → 2 ^ suc m * x ≡ 2 * (2 ^ m * x)
twice m x = ap (λ (y : ℕ). y * x) (pow-succ' 2 m) ∙ mul_assoc 2 (2 ^ m) x

top-is : (m d : ℕ) → 2 ^ (suc m + d) ≡ 2 ^ m * (2 * 2 ^ d)
top-is m d = pow-add 2 (suc m) d ∙ omega (arith, twice m (2 ^ d))

word-is : (p : ℕ → Bool) (m d : ℕ) → p m ≡ true → ((i : ℕ) → i < m → p i ≡ false) → (q : ℕ) × (word_of p (suc m + d) ≡ 2 ^ m * (1 + 2 * q))
unfolding word_of
word-is p m zero e f = (0, simp (add-zero, e) (omega (arith, none-set p m f)))
word-is p m (suc d) e f =
    let r = word-is p m d e f in
    let n : ℕ = suc m + d in
    let top : 2 ^ n ≡ 2 ^ m * (2 * 2 ^ d) = top-is m d in
    let go : (b : Bool) → (q : ℕ) × ((if b then 2 ^ n else 0) + word_of p n ≡ 2 ^ m * (1 + 2 * q))
    = elim [ true ↦ (r.0 + 2 ^ d, omega (arith, r.1)) | false ↦ (r.0, omega (arith, r.1)) ] in
    rw add-suc (go (p n))

trailing-is : (m k q : ℕ) → m < k → count_trailing_zeros k (2 ^ m * (1 + 2 * q)) ≡ m
unfolding count_trailing_zeros
trailing-is m zero q h = absurd (not-suc-le-zero h)
trailing-is zero (suc k) q h =
    let odd : 1 * (1 + 2 * q) % 2 ≡ 1 = omega arith in
    simp odd
trailing-is (suc m) (suc k) q h =
    let y : ℕ = 2 ^ m * (1 + 2 * q) in
    let even : 2 * y % 2 ≡ 0 = omega arith in
    let half : 2 * y / 2 ≡ y = omega arith in
    rw (twice m (1 + 2 * q)) (simp (even, half) (ap suc (trailing-is m k q (le_of_suc-le-suc h))))

-- the least number at which the test passes is the word's first set bit
-- (a word of n tests in a register of b bits)
pub first_bit : (b : ℕ) (p : ℕ → Bool) (n m : ℕ) → p m ≡ true → ((i : ℕ) → i < m → p i ≡ false) → m < n → n ≤ b → count_trailing_zeros b (word_of p n) ≡ m
first_bit b p n m e f h fits =
    let d = le_dest h in
    let w = word-is p m d.0 e f in
    rw (ap (word_of p) (sym d.1) ∙ w.1) (trailing-is m b w.0 (omega arith))

abbrev bit : Bool → ℕ → ℕ
bit b n = if b then 2 ^ n else 0

bit-count : (b : Bool) (n : ℕ) → bit b n ≡ count b * 2 ^ n
bit-count true n = omega arith
bit-count false n = omega arith

pub word_lt : (p : ℕ → Bool) (n : ℕ) → word_of p n < 2 ^ n
unfolding word_of
word_lt p zero = omega arith
word_lt p (suc n) = if-ind (λ (x : ℕ). x + word_of p n < 2 ^ suc n) (p n) (2 ^ n) 0 (λ e. omega (arith, word_lt p n, two-pow-succ n)) (λ e. omega (arith, word_lt p n, two-pow-succ n))

-- bit i of a word of tests is the test at i
pub word-bit : (p : ℕ → Bool) (n i : ℕ) → i < n → word_of p n / 2 ^ i % 2 ≡ count (p i)
unfolding word_of
word-bit p zero i h = absurd (not-suc-le-zero h)
word-bit p (suc n) i h = go (eq-or-lt_of_le (le_of_suc-le-suc h)) (word-bit p n i)
  where
    small : (b : Bool) → count b % 2 ≡ count b
    small true = refl
    small false = refl

    go : (i ≡ n) ⊎ (i < n) → (i < n → word_of p n / 2 ^ i % 2 ≡ count (p i)) → (bit (p n) n + word_of p n) / 2 ^ i % 2 ≡ count (p i)
    go (inl e) r = rw (e, bit-count, high (count (p n)) n (word_lt p n)) (small (p n))
    go (inr q) r =
        let d = le_dest q in
        let top : 2 ^ n ≡ 2 * 2 ^ d.0 * 2 ^ i = ap (λ (x : ℕ). 2 ^ x) (sym d.1) ∙ top-is i d.0 ∙ omega arith in
        let whole : bit (p n) n + word_of p n ≡ word_of p n + 2 * (count (p n) * 2 ^ d.0) * 2 ^ i = omega (arith, bit-count (p n) n, ap (λ (x : ℕ). count (p n) * x) top) in
        rw (whole, add-mul-div_right (word_of p n) (2 * (count (p n) * 2 ^ d.0)) (pow_pos i)) (omega (arith, r q))
