-- What the shift of a put leaves alone, and K. Assumes nothing.
use Prim.Native.Nat.{ℕ, ◌+◌, ◌-◌, ◌*◌, ◌/◌, ◌≤◌, ◌<◌}
use native.Mathlib.Omega.{arith}
use mathlib.Core.Path.{◌≡◌, refl, ap, ◌∙◌}
use lib.Dec.{leb}
use lib.ListN.{length, length-map}
use Rattle.units.proofs.Round.{round-le, lt-round-slot, round-div}
use Rattle.units.proofs.Bools.{if-ind}
use Rattle.waiting.specs.Waiting.{Waiting, known, full}
use Rattle.rules.specs.State.{clock_far, clock_step, clock_kept, Rec, Setting, Lane, no_lane, State, lane_at}
use Rattle.rules.specs.Calls.{taken_off, lowered, lower_all, shifted}
use Rattle.rules.proofs.Lists.{get_d_map}
use Rattle.rules.proofs.Keep.{AllSound, Allowed}

pub lowered_none : (d : ℕ) → lowered d no_lane ≡ no_lane
unfolding lowered
lowered_none d =
    let z : 0 - d ≡ 0 = omega arith in
    simp z

pub lowered-at : (d : ℕ) (s : State) (k : ℕ) → lane_at (lower_all d s) k ≡ lowered d (lane_at s k)
unfolding lower_all
lowered-at d s k = get_d_map (lowered d) s.lanes k no_lane no_lane (lowered_none d)

module _ (s : State) where
  pub shifted-given : (k : ℕ) → (lane_at (shifted s) k).given ≡ (lane_at s k).given
  unfolding shifted lowered
  shifted-given k =
      if-ind (λ (x : State). (lane_at x k).given ≡ (lane_at s k).given) (leb clock_far s.clock) _ _
      (λ e. ap (λ (l : Lane). l.given) (lowered-at (taken_off s.clock) s k)) (λ e. refl)

  pub shifted-waiting : (k : ℕ) → (lane_at (shifted s) k).waiting ≡ (lane_at s k).waiting
  unfolding shifted lowered
  shifted-waiting k =
      if-ind (λ (x : State). (lane_at x k).waiting ≡ (lane_at s k).waiting) (leb clock_far s.clock) _ _
      (λ e. ap (λ (l : Lane). l.waiting) (lowered-at (taken_off s.clock) s k)) (λ e. refl)

  pub shifted-order : (shifted s).order ≡ s.order
  unfolding shifted lower_all
  shifted-order = if-ind (λ (x : State). x.order ≡ s.order) (leb clock_far s.clock) _ _ (λ e. refl) (λ e. refl)

  pub shifted-size : length (shifted s).lanes ≡ length s.lanes
  unfolding shifted lower_all
  shifted-size =
      if-ind (λ (x : State). length x.lanes ≡ length s.lanes) (leb clock_far s.clock) _ _ (λ e. length-map s.lanes (lowered (taken_off s.clock))) (λ e. refl)

  pub shifted-sound : AllSound s → AllSound (shifted s)
  shifted-sound w k = rw (shifted-given k, shifted-waiting k) (w k)

  -- a put is allowed after the shift if it was before
  pub shifted-allowed : (j : ℕ) (r : Rec) → Allowed s j r → Allowed (shifted s) j r
  shifted-allowed j r a = record {
    has = omega (arith, a.has, ap (λ (g : Setting). g.weight) (shifted-given j));
    train = ap (λ (w : Waiting). known w r.train) (shifted-waiting j) ∙ a.train;
    some_bytes = a.some_bytes;
    fits = omega (arith, a.fits, ap (λ (g : Setting). g.longest) (shifted-given j));
    room = ap (λ (w : Waiting). full w r.train) (shifted-waiting j) ∙ a.room;
  }

-- ---- K

module _ (v : ℕ) where
  -- it is a multiple of 2 ^ 31, and not above V - 2 ^ 33
  pub taken_off-is : taken_off v ≡ (v - clock_kept) / clock_step * clock_step
  unfolding taken_off
  taken_off-is = round-div clock_step (v - clock_kept)

  pub taken_off-le : clock_kept ≤ v → taken_off v + clock_kept ≤ v
  unfolding taken_off
  taken_off-le h = omega (arith, round-le clock_step (v - clock_kept))

  -- and it is the largest: what is left of V is below 2 ^ 33 + 2 ^ 31
  pub taken_off-most : v < taken_off v + clock_kept + clock_step
  unfolding taken_off
  taken_off-most = omega (arith, lt-round-slot clock_step (v - clock_kept) (omega arith))

  pub taken_off-largest : (m : ℕ) → m * clock_step + clock_kept ≤ v → m * clock_step ≤ taken_off v
  taken_off-largest m h = omega (arith, taken_off-is)
