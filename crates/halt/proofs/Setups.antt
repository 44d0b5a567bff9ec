-- When a setup is the halt's.
--
--   lane-last                one lane, by its numbers
--   by-four                  the first four lanes tell the whole setup: their weights are all that a setup may give
--   four-say                 so the test of the fourth, behind those of the first three, is the setup's
--   lane-says                the test of a plan's lane
--   judged-refused, -own, -other   the test of a setup's bytes
--
-- Assumes nothing.
use Prim.Native.Nat.{ℕ, zero, suc, ◌+◌, ◌≤◌, ◌<◌}
use native.Mathlib.Omega.{arith}
use mathlib.Core.Path.{◌≡◌, refl, sym, ap, subst, ◌∙◌}
use mathlib.Core.Bool.{Bool, true, false, not}
use mathlib.Core.Logic.{◌⊎◌, inl, inr}
use mathlib.Core.List.{List, [], ◌∷◌, map}
use lib.Dec.{eqb}
use lib.ListN.{length, get_or, get_or-replicate, get_or-map}
use lib.Seq.{ext_get_or}
use borrow.Author.Tests.{eqb-true, eqb-false}
use Rattle.rules.specs.State.{Setting, no_setting, setting_at}
use Rattle.rules.specs.Setup.{Setup, InNumbers, weights}
use Rattle.lane_test.specs.Says.{Says}
use Rattle.lane_test.proofs.Setting.{says-true, says-false}
use Rattle.good.proofs.Whole.{says-iff}
use Rattle.plan.specs.Read.{setting_of, settings, read_setup, setup_reply}
use Rattle.plan.specs.declared.Lane.{Lane}
use Rattle.plan.specs.declared.Reading.{Reading}
use Rattle.std.specs.Prelude.{Ok, Err}
use Rattle.rules.specs.declared.Refusal.{Refusal}
use Rattle.halt.specs.Halt.{halt_lane, halt_setup, OtherPlan, OwnPlan, Judged}

-- ---- one lane

abbrev setting : ℕ → ℕ → ℕ → Bool → Setting
setting w l h s = record { weight = w; longest = l; framing = h; shared = s }

pub lane-last : (w l h : ℕ) (s : Bool) (wanted : ℕ) → s ≡ false → w ≡ wanted → l ≡ 256 → Says (eqb h 0) (setting w l h s ≡ halt_lane wanted)
lane-last w l h s wanted e f g = go (eqb h 0) refl
  where
    go : (b : Bool) → eqb h 0 ≡ b → Says b (setting w l h s ≡ halt_lane wanted)
    go true q = rw (e, f, g, eqb-true h 0 q)
    go false q = λ same. eqb-false h 0 q (ap (λ (x : Setting). x.framing) same)

-- ---- the whole setup

abbrev rest : List Setting → List Setting
rest [] = []
rest (g ∷ gs) = gs

rest_at : (gs : List Setting) (k : ℕ) → setting_at gs (suc k) ≡ setting_at (rest gs) k
rest_at [] k = refl
rest_at (g ∷ gs) k = refl

rest-weights : (gs : List Setting) → weights gs ≡ (setting_at gs 0).weight + weights (rest gs)
rest-weights [] = refl
rest-weights (g ∷ gs) = refl

at_most : (gs : List Setting) (k : ℕ) → (setting_at gs k).weight ≤ weights gs
at_most [] k = omega arith
at_most (g ∷ gs) zero = omega arith
at_most (g ∷ gs) (suc k) = omega (arith, at_most gs k)

-- the four settings, and those behind them
pub record Four (gs : List Setting) : Type 0 where
  pub lane_0 : setting_at gs 0 ≡ halt_lane 512
  pub lane_1 : setting_at gs 1 ≡ halt_lane 256
  pub lane_2 : setting_at gs 2 ≡ halt_lane 128
  pub lane_3 : setting_at gs 3 ≡ halt_lane 128

pub halt-four : Four halt_setup
unfolding halt_setup
halt-four = record { lane_0 = refl; lane_1 = refl; lane_2 = refl; lane_3 = refl }

pub has-four : (gs : List Setting) → gs ≡ halt_setup → Four gs
has-four gs e = subst Four (sym e) halt-four

module _ (gs : List Setting) (s : Setup gs) (f : Four gs) where
  abbrev weigh : Setting → ℕ
  weigh g = g.weight

  light : (k : ℕ) → (setting_at gs (suc (suc (suc (suc k))))).weight ≡ 0
  light k =
      let a = gs in
      let b = rest a in
      let c = rest b in
      let d = rest c in
      let e = rest d in
      let at : (setting_at gs (suc (suc (suc (suc k))))).weight ≡ (setting_at e k).weight =
      ap weigh (rest_at a (suc (suc (suc k)))) ∙ ap weigh (rest_at b (suc (suc k))) ∙ ap weigh (rest_at c (suc k)) ∙ ap weigh (rest_at d k) in
      omega (
        arith,
        at,
        at_most e k,
        s.total,
        rest-weights a,
        rest-weights b,
        rest-weights c,
        rest-weights d,
        ap weigh f.lane_0,
        ap weigh f.lane_1,
        ap weigh f.lane_2,
        ap weigh f.lane_3,
        ap weigh (rest_at a 0),
        ap weigh (rest_at a 1),
        ap weigh (rest_at b 0),
        ap weigh (rest_at a 2),
        ap weigh (rest_at b 1),
        ap weigh (rest_at c 0),
      )

  absent : (k : ℕ) → (setting_at gs k).weight ≡ 0 → setting_at gs k ≡ no_setting
  absent k h = go (s.each k)
    where
      go : InNumbers (setting_at gs k) ⊎ (setting_at gs k ≡ no_setting) → setting_at gs k ≡ no_setting
      go (inl n) = absurd (omega (arith, n.weight_low, h))
      go (inr e) = e

  at : (k : ℕ) → k < 64 → setting_at gs k ≡ setting_at halt_setup k
  unfolding halt_setup
  at zero h = f.lane_0
  at (suc zero) h = f.lane_1
  at (suc (suc zero)) h = f.lane_2
  at (suc (suc (suc zero))) h = f.lane_3
  at (suc (suc (suc (suc k)))) h = absent (suc (suc (suc (suc k)))) (light k) ∙ sym (get_or-replicate 60 k no_setting no_setting (omega arith))

  size : length gs ≡ length halt_setup
  unfolding halt_setup
  size = s.size

  pub by-four : gs ≡ halt_setup
  by-four = ext_get_or no_setting gs halt_setup size (λ k h. at k (omega (arith, s.size, h)))

pub four-say : (gs : List Setting) → Setup gs → setting_at gs 0 ≡ halt_lane 512 → setting_at gs 1 ≡ halt_lane 256 → setting_at gs 2 ≡ halt_lane 128
    → (b : Bool) → Says b (setting_at gs 3 ≡ halt_lane 128) → Says b (gs ≡ halt_setup)
four-say gs s e f g b h = says-iff b (λ last. by-four gs s (record { lane_0 = e; lane_1 = f; lane_2 = g; lane_3 = last })) (λ all. (has-four gs all).lane_3) h

-- ---- a plan

module _ (lanes : List Lane) where
  abbrev none : Lane
  none = record { weight = 0; longest = 0; framing = 0; shared = false }

  pub lane-says : (k w : ℕ) (b : Bool) → Says b (setting_of (get_or lanes k none) ≡ halt_lane w) → Says b (setting_at (map setting_of lanes) k ≡ halt_lane w)
  lane-says k w b h =
      let at : setting_at (map setting_of lanes) k ≡ setting_of (get_or lanes k none) = get_or-map setting_of lanes k none in
      says-iff b (λ e. at ∙ e) (λ e. sym at ∙ e) h

pub judged-refused : (setup : List ℕ) (x : Refusal) → setup_reply (Err x) ≡ read_setup setup → Judged false (read_setup setup)
judged-refused setup x e = subst OwnPlan e tt

module _ (setup : List ℕ) (r : Reading) (e : setup_reply (Ok r) ≡ read_setup setup) where
  pub judged-own : settings r.plan ≡ halt_setup → Judged false (read_setup setup)
  judged-own h = subst OwnPlan e h

  pub judged-other : (settings r.plan ≡ halt_setup → ⊥) → Judged true (read_setup setup)
  judged-other h = subst OtherPlan e h

  -- by a test of its lanes
  pub judged-by : (b : Bool) → Says b (settings r.plan ≡ halt_setup) → Judged (not b) (read_setup setup)
  judged-by true h = judged-own (says-true true h refl)
  judged-by false h = judged-other (says-false false h refl)
