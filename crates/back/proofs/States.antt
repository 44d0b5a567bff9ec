-- Laws of the states that the loop over the lanes goes through: lanes lowered one by one. Assumes nothing.
use mathlib.Core.Path.{◌≡◌, sym, ap, ◌∙◌}
use Prim.Native.Nat.{ℕ, zero, suc, ◌+◌, ◌-◌, ◌≤◌, ◌<◌}
use mathlib.Core.List.{map}
use native.Mathlib.Nat.{add-zero, add-suc}
use native.Mathlib.Numerals.{add-one}
use native.Mathlib.Omega.{arith}
use lib.ListN.{length}
use Rattle.rules.specs.State.{Lane, State, no_lane, lane_at}
use Rattle.rules.specs.Calls.{lowered}
use Rattle.rules.proofs.Shift.{lowered_none}
use Rattle.table.specs.Means.{with_lane}
use Rattle.fresh.proofs.Mixed.{mixed-none, mixed-all, mixed-at, mixed-more, mixed-skip, tab-get_d, map-tab}
use Rattle.back.specs.Back.{lowered_to}

module _ (d : ℕ) (s : State) (size : length s.lanes ≡ 64) where
  abbrev new : ℕ → Lane
  new i = lowered d (lane_at s i)

  pub lowered-first : lowered_to 0 d s ≡ s
  lowered-first = rw (mixed-none new (lane_at s), tab-get_d s.lanes no_lane size)

  pub lowered-here : (k : ℕ) → k < 64 → lane_at (lowered_to k d s) k ≡ lane_at s k
  lowered-here k h = mixed-at new (lane_at s) k no_lane h

  pub lowered-more : (k : ℕ) → k < 64 → with_lane (lowered_to k d s) k (lowered d (lane_at s k)) ≡ lowered_to (k + 1) d s
  lowered-more k h = rw (mixed-more new (lane_at s) k h)

  -- a lane that is not in the setup has S = 0 and F = 0
  lowered-skip : (k : ℕ) → k < 64 → lane_at s k ≡ no_lane → lowered_to k d s ≡ lowered_to (suc k) d s
  lowered-skip k h e =
      let same : new k ≡ lane_at s k = rw e (lowered_none d) in
      rw (mixed-skip new (lane_at s) k h same, add-one)

  skip : (n m : ℕ) → m + n ≤ 64 → ((i : ℕ) → m ≤ i → i < m + n → lane_at s i ≡ no_lane) → lowered_to m d s ≡ lowered_to (m + n) d s
  skip zero m h a = rw add-zero
  skip (suc n) m h a =
      rw add-suc (skip n m (omega arith) (λ i p q. a i p (omega arith)) ∙ lowered-skip (m + n) (omega arith) (a (m + n) (omega arith) (omega arith)))

  pub lowered-next : (n k : ℕ) → n ≤ k → k ≤ 64 → ((i : ℕ) → n ≤ i → i < k → lane_at s i ≡ no_lane) → lowered_to n d s ≡ lowered_to k d s
  lowered-next n k p q a =
      let e : n + (k - n) ≡ k = omega arith in
      skip (k - n) n (omega arith) (λ i x y. a i x (omega arith)) ∙ ap (λ (m : ℕ). lowered_to m d s) e

  pub lowered-all : (lowered_to 64 d s).lanes ≡ map (lowered d) s.lanes
  lowered-all = mixed-all new (lane_at s) ∙ sym (map-tab (lowered d) 64 (lane_at s)) ∙ ap (map (lowered d)) (tab-get_d s.lanes no_lane size)
