-- The figures of a setup: its greatest charge, 1,500, and the slots. Assumes nothing.
use Prim.Native.Nat.{ℕ, zero, suc, ◌*◌, ◌^◌, ◌≤◌, ◌<◌}
use native.Mathlib.Omega.{arith}
use native.Mathlib.Nat.{mul-le-mul_left}
use mathlib.Core.Path.{◌≡◌, ap, subst}
use mathlib.Core.Logic.{◌⊎◌, inl, inr}
use mathlib.Core.List.{List, [], ◌∷◌}
use Rattle.rules.specs.State.{Setting, no_setting, setting_at, State, charge, group, slot, lane_at, setup_of}
use Rattle.rules.specs.Setup.{InNumbers, Setup, framing_of, longest_charge, margin}
use Rattle.rules.proofs.Lane.{charge-le, group-most, slot-most}
use Rattle.rules.proofs.Bounds.{SetupOk}
use Rattle.rules.proofs.SameSetup.{setting-lane}

longest-le : (gs : List Setting) (k : ℕ) → charge (setting_at gs k) (setting_at gs k).longest ≤ longest_charge gs
unfolding longest_charge charge
longest-le [] k = omega arith
longest-le (g ∷ gs) zero = omega arith
longest-le (g ∷ gs) (suc k) = omega (arith, longest-le gs k)

-- the setup's own greatest charge
pub tight-ok : (gs : List Setting) → Setup gs → SetupOk (1024 * longest_charge gs) gs
tight-ok gs s = record { weights = s.total; short = λ k. mul-le-mul_left 1024 (longest-le gs k) }

-- no longest is over 1,500
pub longest-most : (gs : List Setting) → Setup gs → (k : ℕ) → (setting_at gs k).longest ≤ 1500
longest-most gs s k = go (setting_at gs k) (s.each k)
  where
    go : (g : Setting) → InNumbers g ⊎ (g ≡ no_setting) → g.longest ≤ 1500
    go g (inl h) = h.longest_high
    go g (inr e) = omega (arith, ap (λ (x : Setting). x.longest) e)

-- no lane's framing is over the line's
pub framing-le : (gs : List Setting) (k : ℕ) → (setting_at gs k).framing ≤ framing_of gs
unfolding framing_of
framing-le [] k = omega arith
framing-le (g ∷ gs) zero = omega arith
framing-le (g ∷ gs) (suc k) = omega (arith, framing-le gs k)

-- and where no lane's is over a number, the line's is not
pub framing-bound : (h : ℕ) (gs : List Setting) → ((k : ℕ) → (setting_at gs k).framing ≤ h) → framing_of gs ≤ h
unfolding framing_of
framing-bound h [] f = omega arith
framing-bound h (g ∷ gs) f = omega (arith, f 0, framing-bound h gs (λ k. f (suc k)))

-- lanes of one number, and absent ones that are not over it: that number is the line's
pub framed-by : (h : ℕ) (gs : List Setting) → ((k : ℕ) → (setting_at gs k).framing ≤ h) → ((k : ℕ) → 0 < (setting_at gs k).weight → (setting_at gs k).framing ≡ h)
    → (k : ℕ) → 0 < (setting_at gs k).weight → (setting_at gs k).framing ≡ framing_of gs
framed-by h gs most same k w = omega (arith, same k w, framing-le gs k, framing-bound h gs most)

pub framing-most : (gs : List Setting) → Setup gs → (k : ℕ) → (setting_at gs k).framing ≤ 64
framing-most gs s k = omega (arith, framing-le gs k, s.framing_high)

pub setup-ok : (gs : List Setting) → Setup gs → SetupOk (margin (framing_of gs)) gs
setup-ok gs s = record { weights = s.total; short = λ k. omega (arith, charge-le (setting_at gs k) (setting_at gs k).longest (longest-most gs s k), framing-le gs k) }

-- ---- the same of each lane of a state

module _ (s : State) (g : Setup (setup_of s)) (k : ℕ) where
  pub longest-at : (lane_at s k).given.longest ≤ 1500
  longest-at = subst (λ (x : Setting). x.longest ≤ 1500) (setting-lane s k) (longest-most (setup_of s) g k)

  pub framing-at : (lane_at s k).given.framing ≤ 64
  framing-at = subst (λ (x : Setting). x.framing ≤ 64) (setting-lane s k) (framing-most (setup_of s) g k)

  pub group_at : group (lane_at s k).given ≤ 31
  group_at = group-most (lane_at s k).given longest-at framing-at

  pub slot_at : slot (lane_at s k).given ≤ 2 ^ 31
  slot_at = slot-most (lane_at s k).given longest-at framing-at
