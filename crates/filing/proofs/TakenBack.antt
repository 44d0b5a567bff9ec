-- A put that takes the clock back moves no lane to another list, and each group's start loses what the clock loses. Assumes nothing.
use Prim.Native.Nat.{ℕ, ◌+◌, ◌-◌, ◌*◌, ◌/◌, ◌%◌, ◌^◌, ◌≤◌}
use native.Mathlib.Omega.{arith}
use mathlib.Core.Path.{◌≡◌, refl, sym, ap, ◌∙◌}
use mathlib.Core.Bool.{Bool, true, false, ◌&&◌}
use mathlib.Core.Option.{Option, none, some}
use lib.Dec.{eqb}
use Rattle.rules.specs.State.{Lane, State, clock_far, clock_step, group, slot, holds, lane_at}
use Rattle.rules.specs.Calls.{taken_off, shifted}
use Rattle.rules.specs.Sets.{in_group, group_start}
use Rattle.rules.specs.Good.{Good}
use Rattle.rules.specs.TakeBack.{TakenOff, TakeBackExact}
use Rattle.rules.proofs.Further.{mapped, plus}
use Rattle.rules.proofs.FurtherSets.{start-further}
use Rattle.rules.proofs.Beside.{same_beside}
use Rattle.rules.proofs.BesideCalls.{shifted-beside}
use Rattle.rules.proofs.GoodShift.{small-lanes, good-above, sees, shifted-good, taken-off}
use Rattle.filing.specs.Filing.{sift, in_list, Lists, Agrees}
use Rattle.filing.proofs.Sift.{sift-ext}
use Rattle.filing.proofs.Back.{list-stays}

module _ (s : State) (good : Good s) (far : clock_far ≤ s.clock) (B : ℕ) where
  abbrev pub K : ℕ
  K = taken_off s.clock

  -- what is remembered of what was taken off
  abbrev pub B' : ℕ
  B' = (B + K) % 2 ^ 36

  off : TakenOff K s (shifted s)
  unfolding TakeBackExact
  off = taken-off s good far

  list_same : (g b k : ℕ) → in_list B' g b (lane_at (shifted s) k) ≡ in_list B g b (lane_at s k)
  unfolding in_list in_group slot
  list_same g b k = rw (off.given k, off.waiting k) (go (holds (lane_at s k)) refl)
    where
      l : Lane
      l = lane_at s k

      go : (h : Bool) → holds l ≡ h
          → (h && eqb (group l.given) g && eqb (((lane_at (shifted s) k).start + B') / 2 ^ group l.given % 32) b) ≡ (h && eqb (group l.given) g && eqb ((l.start + B) / 2 ^ group l.given % 32) b)
      go false e = refl
      go true e =
          let start : (lane_at (shifted s) k).start ≡ l.start - K = omega (arith, off.start k e) in
          let stays = list-stays l.start K B (group l.given) (omega (arith, off.start k e)) (small-lanes s good.setup k) in
          ap (λ (x : ℕ). true && eqb (group l.given) g && eqb ((x + B') / 2 ^ group l.given % 32) b) start
          ∙ ap (λ (x : ℕ). true && eqb (group l.given) g && eqb x b) stays

  start-same : (g : ℕ) → group_start s.lanes g ≡ mapped (plus K) (group_start (shifted s).lanes g)
  start-same g =
      let x = shifted-beside 0 s s (same_beside s) (good-above s good) in
      let is : x.0 * clock_step ≡ K = omega (arith, x.1.clock, off.clock) in
      start-further (x.0 * clock_step) 0 (shifted s).lanes s.lanes x.1.size (sees x.0 (shifted s) s x.1 (small-lanes (shifted s) (shifted-good s good).setup)) g
      ∙ ap (λ (d : ℕ). mapped (plus d) (group_start (shifted s).lanes g)) is

  same_start : (a b : Option ℕ) → mapped (plus K) a ≡ mapped (plus K) b → a ≡ b
  same_start none none e = refl
  same_start none (some y) e = let z : ◌≡◌ {A = ℕ} 0 1 = cc in absurd (omega arith)
  same_start (some x) none e = let z : ◌≡◌ {A = ℕ} 0 1 = cc in absurd (omega arith)
  same_start (some x) (some y) e = let q : x + K ≡ y + K = cc in ap some (omega (arith, q))

  -- a start is not below K, as it is K more than the start after it
  pub start-above : (lists : Lists) (starts : ℕ → Option ℕ) → Agrees B lists starts s → (g r : ℕ) → 16 ≤ g → g ≤ 31 → starts g ≡ some r → K ≤ r
  start-above lists starts ag g r lo hi e = go (group_start (shifted s).lanes g) (sym e ∙ ag.started g lo hi ∙ start-same g)
    where
      go : (o : Option ℕ) → some r ≡ mapped (plus K) o → K ≤ r
      go none q = let z : ◌≡◌ {A = ℕ} 0 1 = cc in absurd (omega arith)
      go (some y) q = let z : r ≡ y + K = cc in omega (arith, z)

  -- lists and starts agree with the state after it: the lists as they are, and starts that are K less
  pub shifted-agrees : (lists : Lists) (starts starts' : ℕ → Option ℕ) → ((g : ℕ) → 16 ≤ g → g ≤ 31 → starts g ≡ mapped (plus K) (starts' g))
      → Agrees B lists starts s → Agrees B' lists starts' (shifted s)
  shifted-agrees lists starts starts' less ag = record {
    filed = λ g b lo hi hb.
        ag.filed g b lo hi hb ∙ sift-ext (λ k. in_list B g b (lane_at s k)) (λ k. in_list B' g b (lane_at (shifted s) k)) s.order (λ k h. sym (list_same g b k))
        ∙ ap (sift (λ k. in_list B' g b (lane_at (shifted s) k))) (sym off.order);
    started = λ g lo hi. same_start (starts' g) (group_start (shifted s).lanes g) (sym (less g lo hi) ∙ ag.started g lo hi ∙ start-same g);
  }
