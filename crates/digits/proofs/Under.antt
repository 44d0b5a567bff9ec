-- All quarters of a word are below L exactly if neither the word nor the word with 2 ^ 15 - L added to each quarter has a quarter's top bit: no
-- quarter of the sum carries into the next. Assumes nothing.
use mathlib.Core.Path.{◌≡◌, refl, sym, ap, ◌∙◌, subst}
use Prim.Native.Nat.{ℕ, zero, suc, ◌+◌, ◌-◌, ◌*◌, ◌/◌, ◌%◌, ◌^◌, ◌≤◌, ◌<◌, max}
use mathlib.Core.List.{List}
use native.Mathlib.Nat.{mul-suc, mod-eq_of_lt, mod-lt}
use native.Mathlib.Omega.{arith}
use lib.Bits.{bit_and, bit_or, or_step, or_shr, and_block, and_high, and_zero_r}
use lib.Pow.{pow_pos, split, shr-shr}
use borrow.Author.Count.{below_more}
use Rattle.words.specs.Bits.{bit}
use Rattle.words.specs.Words.{word_at}
use Rattle.digits.specs.Digits.{digit}
use Rattle.digits.specs.Under.{Under, Clear, AllUnder, Gathered}

-- m in each of the n lowest quarters
unfoldable spread : ℕ → ℕ → ℕ
spread zero m = 0
spread (suc n) m = m + 65536 * spread n m

-- how many numbers n quarters hold
unfoldable size : ℕ → ℕ
size zero = 1
size (suc n) = 65536 * size n

abbrev Below : ℕ → ℕ → ℕ → Type 0
Below L n x = (d : ℕ) → d < n → digit 16 d x < L

-- ---- quarter by quarter

digit-zero : (x : ℕ) → digit 16 0 x ≡ x % 65536
unfolding digit
digit-zero x = omega arith

digit-suc : (d x : ℕ) → digit 16 (suc d) x ≡ digit 16 d (x / 65536)
unfolding digit
digit-suc d x =
    let on : 16 * suc d ≡ 16 + 16 * d = omega (arith, mul-suc 16 d) in
    ap (λ (k : ℕ). x / 2 ^ k % 65536) on ∙ ap (λ (y : ℕ). y % 65536) (sym (shr-shr x 16 (16 * d)))

module _ (L : ℕ) (some : 0 < L) (most : L ≤ 2 ^ 15) where
  abbrev more : ℕ
  more = 2 ^ 15 - L

  -- the sum's other quarters, where its lowest one does not carry
  others : (n x : ℕ) → x % 65536 < 2 ^ 15 → (x + spread (suc n) more) / 65536 ≡ x / 65536 + spread n more
  unfolding spread
  others n x h = omega arith

  lead : (n : ℕ) → spread (suc n) more ≡ more + 65536 * spread n more
  unfolding spread
  lead n = refl

  shows : (n x : ℕ) → Clear n x → Clear n (x + spread n more) → Below L n x
  unfolding Clear
  shows zero x a b d lt = absurd (omega arith)
  shows (suc n) x a b zero lt = rw digit-zero (omega (arith, a.0, b.0, lead n))
  shows (suc n) x a b (suc d) lt =
      rw digit-suc (shows n (x / 65536) a.1 (subst (Clear n) (others n x (omega (arith, a.0))) b.1) d (omega arith))

  clear : (n x : ℕ) → Below L n x → Clear n x × Clear n (x + spread n more)
  unfolding Clear
  clear zero x h = (tt, tt)
  clear (suc n) x h =
      let low : x % 65536 < L = rw digit-zero at (h 0 (omega arith)) in
      let rest = clear n (x / 65536) (λ d lt. rw digit-suc at (h (suc d) (omega arith))) in
      ((omega arith, rest.0), (omega (arith, lead n), subst (Clear n) (sym (others n x (omega arith))) rest.1))

  -- n quarters stay n quarters
  wide : (n x : ℕ) → x < size n → Clear n x → x + spread n more < size n
  unfolding Clear spread size
  wide zero x h c = omega arith
  wide (suc n) x h c = omega (arith, c.0, wide n (x / 65536) (omega arith) c.1)

  spread-four : (x : ℕ) → x + more * 281479271743489 ≡ x + spread 4 more
  unfolding spread
  spread-four x = omega arith

  module _ (x : ℕ) (fits : x < 2 ^ 64) where
    abbrev sum : ℕ
    sum = (x + more * 281479271743489) % 2 ^ 64

    whole : Clear 4 x → sum ≡ x + spread 4 more
    unfolding size
    whole c = ap (λ (y : ℕ). y % 2 ^ 64) (spread-four x) ∙ mod-eq_of_lt (wide 4 x fits c)

    pub word-shows : Clear 4 x → Clear 4 sum → Under L x
    word-shows a b = shows 4 x a (subst (Clear 4) (whole a) b)

    pub word-clear : Under L x → Clear 4 x × Clear 4 sum
    word-clear h = let c = clear 4 x h in (c.0, subst (Clear 4) (sym (whole c.0)) c.1)

-- ---- gathered

pub or-bit : (k a b : ℕ) → bit k (bit_or a b) ≡ max (bit k a) (bit k b)
or-bit k a b = ap (λ (x : ℕ). x % 2) (or_shr a b k) ∙ omega (arith, or_step (a / 2 ^ k) (b / 2 ^ k))

or-clear : (n a b : ℕ) → Clear n a → Clear n b → Clear n (bit_or a b)
unfolding Clear
or-clear zero a b p q = tt
or-clear (suc n) a b p q =
    (omega (arith, or-bit 15 a b, p.0, q.0), subst (Clear n) (sym (or_shr a b 16)) (or-clear n (a / 65536) (b / 65536) p.1 q.1))

clear_or : (n a b : ℕ) → Clear n (bit_or a b) → Clear n a × Clear n b
unfolding Clear
clear_or zero a b h = (tt, tt)
clear_or (suc n) a b h =
    let rest = clear_or n (a / 65536) (b / 65536) (subst (Clear n) (or_shr a b 16) h.1) in
    ((omega (arith, or-bit 15 a b, h.0), rest.0), (omega (arith, or-bit 15 a b, h.0), rest.1))

zero_clear : (n : ℕ) → Clear n 0
unfolding Clear
zero_clear zero = tt
zero_clear (suc n) = (refl, zero_clear n)

-- ---- the top bits by one mask

-- the top bit of each of the n lowest quarters
unfoldable tops : ℕ → ℕ
tops zero = 0
tops (suc n) = tops n * 2 ^ 16 + 2 ^ 15

and-tops : (n x : ℕ) → bit_and x (tops (suc n)) ≡ bit_and (x / 2 ^ 16) (tops n) * 2 ^ 16 + bit 15 x * 2 ^ 15
unfolding tops
and-tops n x =
    ap (λ (y : ℕ). bit_and y (tops n * 2 ^ 16 + 2 ^ 15)) (sym (split x 16))
    ∙ and_block 16 (x / 2 ^ 16) (tops n) (x % 2 ^ 16) (2 ^ 15) (mod-lt x (pow_pos 16)) (omega arith)
    ∙ ap (λ (y : ℕ). bit_and (x / 2 ^ 16) (tops n) * 2 ^ 16 + y) (and_high (x % 2 ^ 16) 1 15 ∙ ap (λ (y : ℕ). y * 2 ^ 15) top)
  where
    top : x % 65536 / 32768 % 2 ≡ bit 15 x
    top = omega arith

mask-clear : (n x : ℕ) → bit_and x (tops n) ≡ 0 → Clear n x
unfolding Clear
mask-clear zero x e = tt
mask-clear (suc n) x e = (omega (arith, and-tops n x), mask-clear n (x / 2 ^ 16) (omega (arith, and-tops n x)))

clear-mask : (n x : ℕ) → Clear n x → bit_and x (tops n) ≡ 0
unfolding Clear tops
clear-mask zero x c = and_zero_r x
clear-mask (suc n) x c = omega (arith, and-tops n x, c.0, clear-mask n (x / 2 ^ 16) c.1)

pub tops-clear : (x : ℕ) → bit_and x 9223512776490647552 ≡ 0 → Clear 4 x
unfolding tops
tops-clear x e = mask-clear 4 x e

pub clear-tops : (x : ℕ) → Clear 4 x → bit_and x 9223512776490647552 ≡ 0
unfolding tops
clear-tops x c = clear-mask 4 x c

-- ---- word after word

pub gathered_none : (t : List ℕ) (from L : ℕ) → Gathered t from 0 L 0
gathered_none t from L = record { shows = λ c i lt. absurd (omega arith); clear = λ h. zero_clear 4 }

-- one word more
pub gathered-more : (t : List ℕ) (from n L r x y : ℕ) → 0 < L → L ≤ 2 ^ 15 → x ≡ word_at t (from + n) → x < 2 ^ 64 → y ≡ (x + (2 ^ 15 - L) * 281479271743489) % 2 ^ 64
    → Gathered t from n L r → Gathered t from (n + 1) L (bit_or (bit_or r x) y)
gathered-more t from n L r x y some most is fits sums g = record { shows = shown; clear = cleared }
  where
    shown : Clear 4 (bit_or (bit_or r x) y) → AllUnder t from (n + 1) L
    shown c =
        let two = clear_or 4 (bit_or r x) y c in
        let one = clear_or 4 r x two.0 in
        below_more (λ i. Under L (word_at t (from + i))) n (g.shows one.0) (subst (Under L) is (word-shows L some most x fits one.1 (subst (Clear 4) sums two.1)))

    cleared : AllUnder t from (n + 1) L → Clear 4 (bit_or (bit_or r x) y)
    cleared h =
        let c = word-clear L some most x fits (subst (Under L) (sym is) (h n (omega arith))) in
        or-clear 4 (bit_or r x) y (or-clear 4 r x (g.clear (λ i lt. h i (omega arith))) c.0) (subst (Clear 4) (sym sums) c.1)
