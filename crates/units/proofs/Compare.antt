-- What `a < b` and `a <= b` of two times answered says of their numbers. Assumes nothing.
use Rattle.std.proofs.Common.{ℕ, ◌≡◌, ◌<◌, ◌≤◌, max, true, false, rules}
use Rattle.std.specs.Ordering.{nat_cmp, is_lt, is_le, ord_max}
use Rattle.units.specs.declared.Clock.{Clock}

module _ (x y : ℕ) where
  pub is-before : true ≡ is_lt (nat_cmp x y) → x < y
  is-before = search rules

  pub is-not-before : false ≡ is_lt (nat_cmp x y) → y ≤ x
  is-not-before = search rules

  pub is-not-after : true ≡ is_le (nat_cmp x y) → x ≤ y
  is-not-after = search rules

  pub is-after : false ≡ is_le (nat_cmp x y) → y < x
  is-after = search rules

-- and what the later of two times is
pub later-is : (a b : Clock) {r : Clock} → r ≡ ord_max (λ (x y : Clock). nat_cmp x.0 y.0) a b → r.0 ≡ max a.0 b.0
later-is = search rules
