-- Laws of the states that the loops over the lanes go through: lanes added one by one, and lanes made idle one by one. Assumes nothing.
use mathlib.Core.Path.{◌≡◌, refl, sym, ap, ◌∙◌}
use Prim.Native.Nat.{ℕ, zero, suc, ◌+◌, ◌-◌, ◌≤◌, ◌<◌}
use mathlib.Core.List.{List, [], ◌∷◌, map}
use native.Mathlib.Nat.{add-zero, add-suc}
use native.Mathlib.Numerals.{add-one}
use native.Mathlib.Omega.{arith}
use lib.ListN.{length, set, get_or-map}
use Rattle.rules.specs.State.{Setting, Lane, State, no_setting, no_lane, setting_at, lane_at, setup_of}
use Rattle.rules.specs.Calls.{idle, fresh}
use Rattle.plan.proofs.Lists.{map-set}
use Rattle.table.specs.Means.{with_lane}
use Rattle.fresh.specs.Makes.{up_to, rested_to}
use Rattle.fresh.proofs.Mixed.{mixed-none, mixed-all, mixed-at, mixed-more, mixed-skip, tab-get_d, map-tab}

-- ---- lanes added one by one

module _ (gs : List Setting) where
  pub up_none : up_to 0 [] ≡ up_to 0 gs
  up_none = mixed-none (setting_at []) (λ i. no_setting) ∙ sym (mixed-none (setting_at gs) (λ i. no_setting))

  pub up_more : (k : ℕ) → k < 64 → with_lane (fresh (up_to k gs)) k (idle (setting_at gs k)) ≡ fresh (up_to (k + 1) gs)
  unfolding fresh
  up_more k h =
      let lanes : set (map idle (up_to k gs)) k (idle (setting_at gs k)) ≡ map idle (up_to (k + 1) gs) = sym (map-set idle (up_to k gs) k (setting_at gs k)) ∙ ap (map idle) (mixed-more (setting_at gs) (λ i. no_setting) k h) in
      rw lanes

  pub up-skip : (k : ℕ) → k < 64 → setting_at gs k ≡ no_setting → up_to k gs ≡ up_to (k + 1) gs
  up-skip k h e = mixed-skip (setting_at gs) (λ i. no_setting) k h e

  pub up_at : (k : ℕ) → k < 64 → (lane_at (fresh (up_to k gs)) k).given.weight ≡ 0
  unfolding fresh idle
  up_at k h =
      ap (λ (l : Lane). l.given.weight) (get_or-map idle (up_to k gs) k no_setting ∙ ap idle (mixed-at (setting_at gs) (λ i. no_setting) k no_setting h))

  pub up-all : length gs ≡ 64 → up_to 64 gs ≡ gs
  up-all e = mixed-all (setting_at gs) (λ i. no_setting) ∙ tab-get_d gs no_setting e

-- ---- lanes made idle one by one

module _ (s : State) (size : length s.lanes ≡ 64) where
  abbrev new : ℕ → Lane
  new i = idle (lane_at s i).given

  pub rested-none : rested_to 0 s ≡ s
  rested-none = rw (mixed-none new (lane_at s), tab-get_d s.lanes no_lane size)

  pub rested-at : (k : ℕ) → k < 64 → lane_at (rested_to k s) k ≡ lane_at s k
  rested-at k h = mixed-at new (lane_at s) k no_lane h

  pub rested-more : (k : ℕ) → k < 64 → with_lane (rested_to k s) k (idle (lane_at s k).given) ≡ rested_to (k + 1) s
  rested-more k h = rw (mixed-more new (lane_at s) k h)

  -- a lane that is not in the setup is idle with F = 0
  rested-skip : (k : ℕ) → k < 64 → lane_at s k ≡ no_lane → rested_to k s ≡ rested_to (suc k) s
  unfolding idle
  rested-skip k h e =
      let same : new k ≡ lane_at s k = rw e in
      rw (mixed-skip new (lane_at s) k h same, add-one)

  skip : (d n : ℕ) → n + d ≤ 64 → ((i : ℕ) → n ≤ i → i < n + d → lane_at s i ≡ no_lane) → rested_to n s ≡ rested_to (n + d) s
  skip zero n h a = rw add-zero
  skip (suc d) n h a =
      rw add-suc (skip d n (omega arith) (λ i p q. a i p (omega arith)) ∙ rested-skip (n + d) (omega arith) (a (n + d) (omega arith) (omega arith)))

  pub rested-next : (n k : ℕ) → n ≤ k → k ≤ 64 → ((i : ℕ) → n ≤ i → i < k → lane_at s i ≡ no_lane) → rested_to n s ≡ rested_to k s
  rested-next n k p q a =
      let e : n + (k - n) ≡ k = omega arith in
      skip (k - n) n (omega arith) (λ i x y. a i x (omega arith)) ∙ ap (λ (m : ℕ). rested_to m s) e

  pub rested-all : (rested_to 64 s).lanes ≡ map idle (setup_of s)
  rested-all =
      mixed-all new (lane_at s) ∙ sym (map-tab (λ (l : Lane). idle l.given) 64 (lane_at s)) ∙ ap (map (λ (l : Lane). idle l.given)) (tab-get_d s.lanes no_lane size) ∙ sym (twice s.lanes)
    where
      twice : (ls : List Lane) → map idle (map (λ (l : Lane). l.given) ls) ≡ map (λ (l : Lane). idle l.given) ls
      twice [] = refl
      twice (l ∷ ls) = ap (λ (x : List Lane). idle l.given ∷ x) (twice ls)
