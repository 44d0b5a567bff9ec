-- The chosen record handed out, in the code's own terms. Assumes nothing.
use Prim.Native.Nat.{ℕ, zero, suc, ◌+◌, ◌-◌, ◌*◌, ◌/◌, ◌%◌, ◌^◌, ◌≤◌, ◌<◌}
use native.Mathlib.Omega.{arith}
use mathlib.Core.Path.{◌≡◌, refl, sym, subst}
use mathlib.Core.Bool.{true, false, not}
use lib.Dec.{eqb}
use borrow.Author.Tests.{eq-eqb, ne_eqb}
use Rattle.turns.specs.Turns.{head_of, count_of, deficit_of, named_of, order_of, turn_of, Ordered, NamesTrains, Light, HandsOutTurn}
use Rattle.turns.proofs.Handing.{hands-last-none, hands-last-some, hands-stays, hands-goes}

module _ (t r length next : ℕ) (light : Light t) (some-held : 0 < count_of t) (o : Ordered r) (known : NamesTrains r) (some-named : 0 < named_of r) where
  abbrev before : ℕ
  before = named_of r - 1

  named-is : named_of r ≡ suc before
  named-is = omega arith

  head-is : (t + 1) % 8 ≡ (head_of t + 1) % 8
  head-is = omega arith

  pub does-last : count_of t ≡ 1 → HandsOutTurn t r length next (record { train = (t + 1) % 8; round = order_of r / 16 + 2 ^ 32 * (named_of r - 1); begins = not (eqb (named_of r) 1) })
  does-last one = rw head-is (go before refl)
    where
      go : (n : ℕ) → before ≡ n → HandsOutTurn t r length next (record { train = (head_of t + 1) % 8; round = order_of r / 16 + 2 ^ 32 * before; begins = not (eqb (named_of r) 1) })
      go zero z = rw (eq-eqb (named_of r) 1 (omega arith)) (hands-last-none t r light some-held o known before named-is length next one z)
      go (suc n) z = rw (ne_eqb (named_of r) 1 (λ q. omega arith)) (hands-last-some t r light some-held o known before named-is length next n one z)

  module _ (not-one : count_of t ≡ 1 → ⊥) where
    abbrev fewer' : ℕ
    fewer' = (t + 1) % 8 + 8 * (count_of t - 1) + 128 * (deficit_of t - length)

    many : count_of t ≡ suc (suc (count_of t - 2))
    many = two (count_of t) some-held not-one
      where
        two : (n : ℕ) → 0 < n → (n ≡ 1 → ⊥) → n ≡ suc (suc (n - 2))
        two zero p q = absurd (omega arith)
        two (suc zero) p q = absurd (q refl)
        two (suc (suc n)) p q = omega arith

    fewer-is : (head_of t + 1) % 8 + 8 * suc (count_of t - 2) + 128 * (deficit_of t - length) ≡ fewer'
    fewer-is = let c : suc (count_of t - 2) ≡ count_of t - 1 = omega (arith, many) in rw (head-is, c)

    pub does-stay : next ≤ deficit_of t - length → HandsOutTurn t r length next (record { train = fewer'; round = r; begins = false })
    does-stay p =
        subst (λ (x : ℕ). HandsOutTurn t r length next (record { train = x; round = r; begins = false })) fewer-is
        (hands-stays t r light some-held o known before named-is length next (count_of t - 2) many p)

    pub does-go : (w : ℕ) → w ≡ 16 ^ before → deficit_of t - length < next
        → HandsOutTurn t r length next (record { train = fewer'; round = order_of r / 16 + turn_of r * w + 2 ^ 32 * named_of r; begins = true })
    does-go w q p =
        subst (λ (x : ℕ). HandsOutTurn t r length next (record { train = fewer'; round = order_of r / 16 + turn_of r * w + 2 ^ 32 * x; begins = true })) (sym named-is)
        (rw q
        (subst (λ (x : ℕ). HandsOutTurn t r length next (record { train = x; round = order_of r / 16 + turn_of r * 16 ^ before + 2 ^ 32 * suc before; begins = true })) fewer-is
        (hands-goes t r light some-held o known before named-is length next (count_of t - 2) many p)))
