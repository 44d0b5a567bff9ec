-- Laws of the bits of a word. Assumes nothing.
use mathlib.Core.Path.{◌≡◌, refl, sym, ap, ◌∙◌}
use mathlib.Core.Logic.{⊎_elim}
use Prim.Native.Nat.{ℕ, zero, suc, ◌+◌, ◌*◌, ◌/◌, ◌%◌, ◌^◌, ◌<◌}
use native.Mathlib.Nat.{pow-suc, pow-succ', two-pow-succ, div-div-eq-div-mul, div-eq_of_lt, eq-zero-or-pos, one-mul, mod-eq_of_lt}
use native.Mathlib.Omega.{arith}
use lib.Pow.{shr-shr, pow-lt}
use lib.Count.{count_trailing_zeros}
use Rattle.words.specs.Bits.{bit}

-- ---- bit by bit

halve : (n t : ℕ) → n / 2 ^ suc t ≡ n / 2 / 2 ^ t
halve n t = rw (pow-succ', ← div-div-eq-div-mul n 2 (2 ^ t))

pub bit-suc : (k x : ℕ) → bit (suc k) x ≡ bit k (x / 2)
bit-suc k x = ap (λ (y : ℕ). y % 2) (halve x k)

-- the bits of the bits from k on
pub bit-shift : (k i x : ℕ) → bit i (x / 2 ^ k) ≡ bit (k + i) x
bit-shift k i x = ap (λ (y : ℕ). y % 2) (shr-shr x k i)

pub bit-above : (k x : ℕ) → x < 2 ^ k → bit k x ≡ 0
bit-above k x h = rw (div-eq_of_lt h)

-- a bit that is 0 is set by adding its power, and the others stay
pub bit-add-same : (k y : ℕ) → bit k y ≡ 0 → bit k (2 ^ k + y) ≡ 1
bit-add-same zero y h = omega arith
bit-add-same (suc k) y h =
    let e : (2 ^ suc k + y) / 2 ≡ 2 ^ k + y / 2 = omega (arith, two-pow-succ k) in
    rw (bit-suc, e) (bit-add-same k (y / 2) (rw bit-suc at h))

pub bit-add-other : (k j y : ℕ) → (k ≡ j → ⊥) → bit k y ≡ 0 → bit j (2 ^ k + y) ≡ bit j y
bit-add-other zero zero y ne h = absurd (ne refl)
bit-add-other zero (suc j) y ne h =
    let e : (1 + y) / 2 ≡ y / 2 = omega arith in
    bit-suc j (1 + y) ∙ rw e (sym (bit-suc j y))
bit-add-other (suc k) zero y ne h = omega (arith, two-pow-succ k)
bit-add-other (suc k) (suc j) y ne h =
    let e : (2 ^ suc k + y) / 2 ≡ 2 ^ k + y / 2 = omega (arith, two-pow-succ k) in
    bit-suc j (2 ^ suc k + y) ∙ rw e (bit-add-other k j (y / 2) (λ q. ne (ap suc q)) (rw bit-suc at h)) ∙ sym (bit-suc j y)

-- and leaves room
pub add-below : (n k y : ℕ) → k < n → y < 2 ^ n → bit k y ≡ 0 → 2 ^ k + y < 2 ^ n
add-below zero k y h l b = absurd (omega arith)
add-below (suc n) zero y h l b = omega (arith, two-pow-succ n)
add-below (suc n) (suc k) y h l b =
    omega (arith, two-pow-succ n, two-pow-succ k, add-below n k (y / 2) (omega arith) (omega (arith, two-pow-succ n)) (rw bit-suc at b))

-- words with the same bits are the same
pub bits-same : (n x y : ℕ) → x < 2 ^ n → y < 2 ^ n → ((k : ℕ) → bit k x ≡ bit k y) → x ≡ y
bits-same zero x y hx hy f = omega arith
bits-same (suc n) x y hx hy f =
    omega (arith, f 0, bits-same n (x / 2) (y / 2) (omega (arith, two-pow-succ n)) (omega (arith, two-pow-succ n)) (λ k. sym (bit-suc k x) ∙ f (suc k) ∙ bit-suc k y))

-- ---- the lowest set bit

pub low-set : (k n : ℕ) → 0 < n → n < 2 ^ k → (bit (count_trailing_zeros k n) n ≡ 1) × ((i : ℕ) → i < count_trailing_zeros k n → bit i n ≡ 0)
unfolding count_trailing_zeros
low-set zero n p h = absurd (omega arith)
low-set (suc k) n p h =
    ⊎_elim
    (λ (e : n % 2 ≡ 0).
    let r = low-set k (n / 2) (omega arith) (omega (arith, rw pow-suc at h)) in
    rw (e, halve) (r.0, even n (count_trailing_zeros k (n / 2)) e r.1))
    (λ (q : 0 < n % 2). let e : n % 2 ≡ 1 = omega arith in rw e (omega arith, λ i x. absurd (omega arith)))
    (eq-zero-or-pos (n % 2))
  where
    even : (n t : ℕ) → n % 2 ≡ 0 → ((i : ℕ) → i < t → n / 2 / 2 ^ i % 2 ≡ 0) → (i : ℕ) → i < suc t → n / 2 ^ i % 2 ≡ 0
    even n t e f zero x = omega arith
    even n t e f (suc i) x = rw halve (f i (omega arith))

pub low_below : (k n : ℕ) → 0 < n → n < 2 ^ k → count_trailing_zeros k n < k
unfolding count_trailing_zeros
low_below zero n p h = absurd (omega arith)
low_below (suc k) n p h =
    ⊎_elim
    (λ (e : n % 2 ≡ 0). rw e (omega (arith, low_below k (n / 2) (omega arith) (omega (arith, rw pow-suc at h)))))
    (λ (q : 0 < n % 2). let e : n % 2 ≡ 1 = omega arith in rw e (omega arith))
    (eq-zero-or-pos (n % 2))

-- a shift of 1
pub shift_one : (k : ℕ) → k < 64 → 1 * 2 ^ k % 2 ^ 64 ≡ 2 ^ k
shift_one k h = rw (one-mul, mod-eq_of_lt (pow-lt {i = k} {j = 64} (omega arith)))
