-- Laws of the round's number. Assumes nothing.
use Prim.Native.Nat.{ℕ, zero, suc, ◌+◌, ◌*◌, ◌/◌, ◌%◌, ◌^◌, ◌≤◌, ◌<◌}
use native.Mathlib.Nat.{pow-suc, mul-le-mul_right, pow-le-pow_right}
use native.Mathlib.Omega.{arith}
use mathlib.Core.Path.{◌≡◌, refl, sym, ap, subst, ◌∙◌}
use mathlib.Core.List.{List, [], ◌∷◌, ◌++◌}
use lib.Pow.{pow-add}
use lib.ListN.{length}
use Rattle.turns.specs.Turns.{fours, named_of, order_of, round_of, turn_of, Ordered}

-- one number more, on top
pub fours-snoc : (n r k : ℕ) → r < 16 ^ n → k < 16 → fours (suc n) (r + k * 16 ^ n) ≡ fours n r ++ (k ∷ [])
unfolding fours
fours-snoc zero r k h s = let z : (r + k * 16 ^ 0) % 16 ≡ k = omega arith in ap (λ (x : ℕ). x ∷ []) z
fours-snoc (suc n) r k h s =
    let p : 16 ^ suc n ≡ 16 ^ n * 16 = pow-suc 16 n in
    let q : k * 16 ^ suc n ≡ 16 * (k * 16 ^ n) = rw p (omega arith) in
    let low : (r + k * 16 ^ suc n) % 16 ≡ r % 16 = omega arith in
    let high : (r + k * 16 ^ suc n) / 16 ≡ r / 16 + k * 16 ^ n = omega arith in
    rw (low, high) (ap (λ (x : List ℕ). r % 16 ∷ x) (fours-snoc n (r / 16) k (omega arith) s))

pub fours-fit : (n r k : ℕ) → r < 16 ^ n → k < 16 → r + k * 16 ^ n < 16 ^ suc n
fours-fit n r k h s = let p : 16 ^ suc n ≡ 16 ^ n * 16 = pow-suc 16 n in omega (arith, mul-le-mul_right (16 ^ n) s)

pub length-fours : (n r : ℕ) → length (fours n r) ≡ n
unfolding fours
length-fours zero r = refl
length-fours (suc n) r = ap suc (length-fours n (r / 16))

pub four-bits : (n : ℕ) → 2 ^ (4 * n) ≡ 16 ^ n
four-bits zero = refl
four-bits (suc n) =
    let e : 4 * suc n ≡ 4 * n + 4 = omega arith in
    ap (λ (x : ℕ). 2 ^ x) e ∙ pow-add 2 (4 * n) 4 ∙ ap (λ (x : ℕ). x * 16) (four-bits n) ∙ sym (pow-suc 16 n)

pub worth-most : (n : ℕ) → n ≤ 8 → 16 ^ n ≤ 2 ^ 32
worth-most n h = pow-le-pow_right {n = 16} (omega arith) {i = n} {j = 8} h

-- ---- a number made of its parts

module _ (x n : ℕ) (fits : x < 16 ^ n) (few : n ≤ 8) where
  small : x < 2 ^ 32
  small = omega (arith, worth-most n few)

  pub order-made : order_of (x + 2 ^ 32 * n) ≡ x
  order-made = omega (arith, small)

  pub named-made : named_of (x + 2 ^ 32 * n) ≡ n
  named-made = omega (arith, small)

  pub round-made : round_of (x + 2 ^ 32 * n) ≡ fours n x
  unfolding round_of
  round-made = ap (λ (y : ℕ). fours y (order_of (x + 2 ^ 32 * n))) named-made ∙ ap (fours n) order-made

  pub ordered-made : Ordered (x + 2 ^ 32 * n)
  ordered-made = record { few = rw named-made few; fits = rw (named-made, order-made) fits }

-- ---- the round taken apart

module _ (r m : ℕ) (o : Ordered r) (named : named_of r ≡ suc m) where
  pub round-cons : round_of r ≡ turn_of r ∷ fours m (order_of r / 16)
  unfolding round_of fours
  round-cons = ap (λ (y : ℕ). fours y (order_of r)) named

  pub rest-fits : order_of r / 16 < 16 ^ m
  rest-fits = let p : 16 ^ suc m ≡ 16 ^ m * 16 = pow-suc 16 m in let q : order_of r < 16 ^ suc m = subst (λ (y : ℕ). order_of r < 16 ^ y) named o.fits in omega arith

  -- the first one gone
  pub ordered-rest : Ordered (order_of r / 16 + 2 ^ 32 * m)
  ordered-rest = ordered-made (order_of r / 16) m rest-fits (omega (arith, o.few))

  pub round-rest : round_of (order_of r / 16 + 2 ^ 32 * m) ≡ fours m (order_of r / 16)
  round-rest = round-made (order_of r / 16) m rest-fits (omega (arith, o.few))

  pub named-rest : named_of (order_of r / 16 + 2 ^ 32 * m) ≡ m
  named-rest = named-made (order_of r / 16) m rest-fits (omega (arith, o.few))

  -- the first one at the end
  abbrev turned : ℕ
  turned = order_of r / 16 + turn_of r * 16 ^ m

  turned-fits : turned < 16 ^ suc m
  turned-fits = fours-fit m (order_of r / 16) (turn_of r) rest-fits (omega arith)

  pub ordered-turned : Ordered (turned + 2 ^ 32 * suc m)
  ordered-turned = ordered-made turned (suc m) turned-fits (omega (arith, o.few))

  pub round-turned : round_of (turned + 2 ^ 32 * suc m) ≡ fours m (order_of r / 16) ++ (turn_of r ∷ [])
  round-turned = round-made turned (suc m) turned-fits (omega (arith, o.few)) ∙ fours-snoc m (order_of r / 16) (turn_of r) rest-fits (omega arith)

  pub named-turned : named_of (turned + 2 ^ 32 * suc m) ≡ suc m
  named-turned = named-made turned (suc m) turned-fits (omega (arith, o.few))

-- ---- one more at the end

module _ (r k : ℕ) (o : Ordered r) (room : named_of r < 8) (train : k < 8) where
  abbrev joined : ℕ
  joined = order_of r + k * 16 ^ named_of r

  joined-fits : joined < 16 ^ suc (named_of r)
  joined-fits = fours-fit (named_of r) (order_of r) k o.fits (omega arith)

  joined_is : r + 2 ^ 32 + k * 16 ^ named_of r ≡ joined + 2 ^ 32 * suc (named_of r)
  joined_is = omega arith

  pub ordered-joined : Ordered (r + 2 ^ 32 + k * 16 ^ named_of r)
  ordered-joined = rw joined_is (ordered-made joined (suc (named_of r)) joined-fits room)

  pub round-joined : round_of (r + 2 ^ 32 + k * 16 ^ named_of r) ≡ round_of r ++ (k ∷ [])
  unfolding round_of
  round-joined = ap round_of joined_is ∙ round-made joined (suc (named_of r)) joined-fits room ∙ fours-snoc (named_of r) (order_of r) k o.fits (omega arith)
