-- The lane fields of a plan.
--
--   by-lanes       a property of them, by the lanes that are there
--   fields-number, fields-weigh, fields-rise, fields_within, fields_fit, fields-formed   what they are, as many, in order, within the numbers
--   fields-size    their bytes
--
-- Assumes nothing.
use Prim.Native.Nat.{ℕ, suc, ◌+◌, ◌*◌, ◌≤◌, ◌<◌}
use mathlib.Core.Path.{◌≡◌, refl, sym, subst}
use mathlib.Core.Bool.{Bool, true, false}
use mathlib.Core.Logic.{⊎_elim}
use mathlib.Core.List.{List, [], ◌∷◌, ◌++◌}
use native.Mathlib.Omega.{arith}
use borrow.Author.Tests.{lt-ltb}
use lib.Dec.{ltb}
use lib.ListN.{length}
use Rattle.std.specs.Prelude.{if◌then◌else◌}
use Rattle.rules.specs.State.{Setting, no_setting, setting_at}
use Rattle.rules.specs.Setup.{InNumbers, weights}
use Rattle.plan.specs.Accepted.{LaneFields, Rising, LanesWithin, weighed, shared_behind, fields_of, there, present}
use Rattle.plan.specs.declared.parse.SetupField.{SetupField}
use Rattle.plan_writer.specs.Format.{bytes_of, all_formed}
use Rattle.plan_writer.specs.Write.{lane_fields_of, lane_fields, lanes_bytes, shareds, Fitting}
use Rattle.plan_writer.proofs.Laid.{AllFit}

-- ---- the first lane, there or not

pub fields-there : (k : ℕ) (g : Setting) (gs : List Setting) → 0 < g.weight → lane_fields k (g ∷ gs) ≡ lane_fields_of k g ∷ lane_fields (suc k) gs
unfolding lane_fields
fields-there k g gs h = simp (lt-ltb 0 g.weight h)

pub fields-skip : (k : ℕ) (g : Setting) (gs : List Setting) → g ≡ no_setting → lane_fields k (g ∷ gs) ≡ lane_fields (suc k) gs
unfolding lane_fields
fields-skip k g gs h = rw h

-- a property of the fields, by the lanes that are there, on a line with h framing bytes
module _ (h : ℕ) (P : ℕ → List Setting → List LaneFields → Type 0) (none : (k : ℕ) → P k [] [])
    (more : (k : ℕ) (g : Setting) (gs : List Setting) → InNumbers g → g.framing ≡ h → P (suc k) gs (lane_fields (suc k) gs) → P k (g ∷ gs) (lane_fields_of k g ∷ lane_fields (suc k) gs))
    (skip : (k : ℕ) (gs : List Setting) → P (suc k) gs (lane_fields (suc k) gs) → P k (no_setting ∷ gs) (lane_fields (suc k) gs)) where
  pub by-lanes : (k : ℕ) (gs : List Setting) → ((j : ℕ) → Fitting h (setting_at gs j)) → P k gs (lane_fields k gs)
  unfolding lane_fields
  by-lanes k [] f = none k
  by-lanes k (g ∷ gs) f =
      let rest = by-lanes (suc k) gs (λ j. f (suc j)) in
      ⊎_elim
      (λ (n : InNumbers g × (g.framing ≡ h)). subst (λ (ls : List LaneFields). P k (g ∷ gs) ls) (sym (fields-there k g gs n.0.weight_low)) (more k g gs n.0 n.1 rest))
      (λ (e : g ≡ no_setting). subst (λ (x : Setting). P k (x ∷ gs) (lane_fields k (x ∷ gs))) (sym e) (subst (λ (ls : List LaneFields). P k (no_setting ∷ gs) ls) (sym (fields-skip k no_setting gs refl)) (skip k gs rest)))
      (f 0)

pub present-most : (gs : List Setting) → present gs ≤ length gs
present-most [] = omega arith
present-most (g ∷ gs) = go (ltb 0 g.weight) (present-most gs)
  where
    go : (b : Bool) → present gs ≤ length gs → (if b then 1 else 0) + present gs ≤ length (g ∷ gs)
    go true h = omega arith
    go false h = omega arith

pub shareds-most : (gs : List Setting) → shareds gs ≤ length gs
shareds-most [] = omega arith
shareds-most (g ∷ gs) = go g.shared (shareds-most gs)
  where
    go : (b : Bool) → shareds gs ≤ length gs → (if b then 1 else 0) + shareds gs ≤ length (g ∷ gs)
    go true h = omega arith
    go false h = omega arith

one : (g : Setting) → InNumbers g → there g ≡ 1
one g n = rw (lt-ltb 0 g.weight n.weight_low)

module _ (line : ℕ) (gs : List Setting) (f : (j : ℕ) → Fitting line (setting_at gs j)) where
  pub fields-number : (k : ℕ) → length (lane_fields k gs) ≡ present gs
  fields-number k =
      by-lanes line (λ k gs ls. length ls ≡ present gs) (λ k. refl)
      (λ k g gs n _ h. omega (arith, one g n, h)) (λ k gs h. omega (arith, h)) k gs f

  pub fields-weigh : (k : ℕ) → weighed (lane_fields k gs) ≡ weights gs
  fields-weigh k =
      by-lanes line (λ k gs ls. weighed ls ≡ weights gs) (λ k. refl)
      (λ k g gs n _ h. omega (arith, h)) (λ k gs h. omega (arith, h)) k gs f

  -- lanes that weigh something are some
  pub lanes-some : weights gs ≤ 1024 * present gs
  lanes-some =
      by-lanes line (λ k gs ls. weights gs ≤ 1024 * present gs) (λ k. omega arith)
      (λ k g gs n _ h. omega (arith, one g n, n.weight_high, h)) (λ k gs h. omega (arith, h)) 0 gs f

  pub fields-rise : (low k : ℕ) → low ≤ k → Rising low (lane_fields k gs)
  unfolding Rising
  fields-rise low k h =
      by-lanes line (λ k gs ls. (low : ℕ) → low ≤ k → Rising low ls) (λ k low h. tt)
      (λ k g gs n _ r low h. (h, r (k + 1) (omega arith))) (λ k gs r low h. r low (omega arith)) k gs f low h

  pub fields_within : (k : ℕ) → k + length gs ≤ 64 → LanesWithin (lane_fields k gs)
  unfolding LanesWithin
  fields_within k h =
      by-lanes line (λ k gs ls. k + length gs ≤ 64 → LanesWithin ls) (λ k h. tt)
      (λ k g gs n _ r h. (record { number = omega arith; numbers = λ v h. record { weight_low = n.weight_low; weight_high = n.weight_high; longest_low = n.longest_low; longest_high = n.longest_high } }, r (omega arith))) (λ k gs r h. r (omega arith)) k gs f h

  pub fields_fit : (rest : List SetupField) → AllFit rest → (k : ℕ) → k + length gs ≤ 64 → AllFit (fields_of (lane_fields k gs) ++ rest)
  unfolding AllFit
  fields_fit rest a k h =
      by-lanes line (λ k gs ls. k + length gs ≤ 64 → AllFit (fields_of ls ++ rest)) (λ k h. a)
      (λ k g gs n _ r h. ((omega arith, omega (arith, n.weight_high), omega (arith, n.longest_high)), behind-fit g.shared k (fields_of (lane_fields (suc k) gs)) (omega arith) (r (omega arith)))) (λ k gs r h. r (omega arith)) k gs f h
    where
      behind-fit : (b : Bool) (k : ℕ) (fs : List SetupField) → k < 256 → AllFit (fs ++ rest) → AllFit ((shared_behind b k ++ fs) ++ rest)
      behind-fit true k fs h a = (h, a)
      behind-fit false k fs h a = a

  pub fields-formed : (rest : List SetupField) → all_formed rest ≡ true → (k : ℕ) → all_formed (fields_of (lane_fields k gs) ++ rest) ≡ true
  fields-formed rest a k =
      by-lanes line (λ k gs ls. all_formed (fields_of ls ++ rest) ≡ true) (λ k. a) (λ k g gs n _ r. behind-formed g.shared k (fields_of (lane_fields (suc k) gs)) r) (λ k gs r. r) k gs f
    where
      behind-formed : (b : Bool) (k : ℕ) (fs : List SetupField) → all_formed (fs ++ rest) ≡ true → all_formed ((shared_behind b k ++ fs) ++ rest) ≡ true
      behind-formed true k fs h = h
      behind-formed false k fs h = h

  -- eight bytes for each, and four for 0x12
  pub fields-size : (k : ℕ) → length (lanes_bytes k gs) ≡ 8 * present gs + 4 * shareds gs
  unfolding bytes_of
  fields-size k =
      by-lanes line (λ k gs ls. length (bytes_of (fields_of ls)) ≡ 8 * present gs + 4 * shareds gs) (λ k. refl)
      (λ k g gs n _ h. omega (arith, one g n, h, behind-size g.shared k (fields_of (lane_fields (suc k) gs)))) (λ k gs h. omega (arith, h)) k gs f
    where
      behind-size : (b : Bool) (k : ℕ) (fs : List SetupField) → length (bytes_of (shared_behind b k ++ fs)) ≡ 4 * (if b then 1 else 0) + length (bytes_of fs)
      behind-size true k fs = omega arith
      behind-size false k fs = omega arith
