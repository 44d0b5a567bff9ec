-- Words of tests, walked by their set bits from the highest down: the highest set bit and what is left without it. Assumes nothing.
use Prim.Native.Nat.{ℕ, zero, suc, ◌+◌, ◌^◌, ◌≤◌, ◌<◌}
use native.Mathlib.Nat.{eq-or-lt_of_le, le_of_suc-le-suc, le_antisymm, not-suc-le-zero, two-pow-succ}
use native.Mathlib.Decide.{dec_le}
use native.Mathlib.Omega.{arith}
use mathlib.Core.Path.{◌≡◌, refl, sym, ap, ◌∙◌}
use mathlib.Core.Bool.{Bool, true, false}
use mathlib.Core.Logic.{⊎_elim}
use lib.Pow.{pow_mono}
use Rattle.std.specs.Prelude.{if◌then◌else◌}
use Rattle.units.specs.Plain.{word_of}
use Rattle.units.proofs.Bools.{not-passed}
use Rattle.rules.proofs.Word.{word_lt}

-- ---- the highest number at which the test passes

pub record Highest (p : ℕ → Bool) (n i : ℕ) : Type 0 where
  pub below : i < n
  pub is : p i ≡ true
  pub none_above : (k : ℕ) → i < k → k < n → p k ≡ false
  pub rest : word_of p n ≡ 2 ^ i + word_of p i

length-one : (i n w : ℕ) → w < 2 ^ n → 2 ^ i ≤ 2 ^ n + w → 2 ^ n + w < 2 ^ suc i → i ≡ n
length-one i n w s h l =
    le_antisymm
    (elim (dec_le i n) [ yes q ↦ q | no q ↦ absurd (omega (arith, two-pow-succ n, pow_mono {i = suc n} {j = i} (omega arith))) ])
    (elim (dec_le n i) [ yes q ↦ q | no q ↦ absurd (omega (arith, pow_mono {i = suc i} {j = n} (omega arith))) ])

-- a word of i + 1 digits has it at i
pub highest-at : (p : ℕ → Bool) (n i : ℕ) → 2 ^ i ≤ word_of p n → word_of p n < 2 ^ suc i → Highest p n i
unfolding word_of
highest-at p zero i h l = absurd (omega (arith, pow_mono {i = 0} {j = i} (omega arith)))
highest-at p (suc n) i h l = go (p n) refl h l (highest-at p n i)
  where
    go : (b : Bool) → p n ≡ b → 2 ^ i ≤ (if b then 2 ^ n else 0) + word_of p n → (if b then 2 ^ n else 0) + word_of p n < 2 ^ suc i
        → (2 ^ i ≤ word_of p n → word_of p n < 2 ^ suc i → Highest p n i) → Highest p (suc n) i
    go true e h l r =
        let same : i ≡ n = length-one i n (word_of p n) (word_lt p n) h l in
        record {
          below = omega (arith, same);
          is = ap p same ∙ e;
          none_above = λ k a b. absurd (omega (arith, same));
          rest = simp e (rw same refl);
        }
    go false e h l r =
        let t = r (omega arith) (omega arith) in
        record {
          below = omega (arith, t.below);
          is = t.is;
          none_above = λ k a b. ⊎_elim (λ (z : k ≡ n). ap p z ∙ e) (λ (z : k < n). t.none_above k a z) (eq-or-lt_of_le (le_of_suc-le-suc b));
          rest = simp e (omega (arith, t.rest));
        }

-- a word that is 0 has none
set-some : (p : ℕ → Bool) (n k : ℕ) → k < n → p k ≡ true → 0 < word_of p n
unfolding word_of
set-some p zero k h t = absurd (not-suc-le-zero h)
set-some p (suc n) k h t =
    ⊎_elim
    (λ (z : k ≡ n). simp (ap p (sym z) ∙ t) (omega (arith, pow_mono {i = 0} {j = n} (omega arith))))
    (λ (z : k < n). omega (arith, set-some p n k z t))
    (eq-or-lt_of_le (le_of_suc-le-suc h))

pub none-set : (p : ℕ → Bool) (n : ℕ) → word_of p n ≡ 0 → (k : ℕ) → k < n → p k ≡ false
none-set p n e k h = not-passed (p k) (λ t. omega (arith, e, set-some p n k h t))
