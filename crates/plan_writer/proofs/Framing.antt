-- The line's framing number: of a plan's lanes, of lanes that were placed, and of field 0x11.
--
--   unless-by      the number that is written is the one that is read; framing-size: its field's bytes; framing-none, framing-some: with 0 and without
--   framing-next   the number over a lane and those behind it
--   placed-line    lanes that were placed by one number or more have that number
--   fitting-line   a setup's lanes fit the line's number; line-setup: lanes that fit one number make it the line's
--
-- Assumes nothing.
use Prim.Native.Nat.{ℕ, zero, suc, ◌≤◌, ◌<◌}
use mathlib.Core.Path.{◌≡◌, refl, sym, ap}
use mathlib.Core.Bool.{Bool, true, false}
use mathlib.Core.Logic.{inl, inr, ⊎_elim}
use mathlib.Core.List.{List, [], ◌∷◌}
use mathlib.Core.Option.{Option, some, none}
use native.Mathlib.Omega.{arith}
use borrow.Author.Tests.{eqb-true, ne_eqb}
use lib.Dec.{eqb}
use lib.ListN.{length, set, length-set}
use Rattle.std.specs.Prelude.{if◌then◌else◌}
use Rattle.rules.specs.State.{Setting, no_setting, setting_at}
use Rattle.rules.specs.Setup.{InNumbers, Setup, framing_of}
use Rattle.plan.specs.Read.{no_lanes}
use Rattle.plan.specs.Accepted.{LaneFields, LanesWithin, given_by, placed_all, framed, framed_by}
use Rattle.plan.specs.declared.parse.SetupField.TheVariants.{Framing}
use Rattle.plan_writer.specs.Format.{field_bytes, bytes_of, all_formed}
use Rattle.plan_writer.specs.Write.{Either, Fitting, unless_zero, framing_size, framing_bytes}
use Rattle.plan_writer.proofs.Laid.{AllFit}

-- ---- field 0x11

module _ (h : ℕ) where
  unless-test : (b : Bool) → eqb h 0 ≡ b → framed_by (if b then none else some h) ≡ h
  unless-test true e = sym (eqb-true h 0 e)
  unless-test false e = refl

  pub unless-by : framed_by (unless_zero h) ≡ h
  unless-by = unless-test (eqb h 0) refl

  size-test : (b : Bool) → length (bytes_of (framed (if b then none else some h))) ≡ (if b then 0 else 4)
  unfolding bytes_of
  size-test true = refl
  size-test false = refl

  pub framing-size : length (framing_bytes h) ≡ framing_size h
  unfolding framing_bytes
  framing-size = size-test (eqb h 0)

  pub framing-none : h ≡ 0 → (framing_bytes h ≡ []) × (framing_size h ≡ 0)
  unfolding framing_bytes bytes_of
  framing-none e = (rw e, rw e)

  pub framing-some : (h ≡ 0 → ⊥) → (framing_bytes h ≡ field_bytes (Framing h)) × (framing_size h ≡ 4)
  unfolding framing_bytes bytes_of
  framing-some e = (rw (ne_eqb h 0 e), rw (ne_eqb h 0 e))

  pub framing-few : framing_size h ≤ 4
  framing-few = go (eqb h 0)
    where
      go : (b : Bool) → (if b then 0 else 4) ≤ 4
      go true = omega arith
      go false = omega arith

  pub framing-fits : h ≤ 64 → AllFit (framed (unless_zero h))
  unfolding AllFit
  framing-fits l = go (eqb h 0)
    where
      go : (b : Bool) → AllFit (framed (if b then none else some h))
      go true = tt
      go false = (omega arith, tt)

  pub framing-formed : all_formed (framed (unless_zero h)) ≡ true
  framing-formed = go (eqb h 0) refl
    where
      go : (b : Bool) → eqb h 0 ≡ b → all_formed (framed (if b then none else some h)) ≡ true
      go true e = refl
      go false e = simp e

-- a field that was read and is in the form is the one that is written
pub unless-back : (f : Option ℕ) → all_formed (framed f) ≡ true → unless_zero (framed_by f) ≡ f
unless-back none e = refl
unless-back (some h) e = go (eqb h 0) refl
  where
    go : (b : Bool) → eqb h 0 ≡ b → (if b then none else some h) ≡ some h
    go true z = absurd (let q : false ≡ true = simp z at e in let y : ◌≡◌ {A = ℕ} 0 1 = cc in omega arith)
    go false z = refl

-- ---- lanes that were placed

set-most : (gs : List Setting) (k h : ℕ) (g : Setting) → g.framing ≤ h → framing_of gs ≤ h → framing_of (set gs k g) ≤ h
unfolding framing_of
set-most [] k h g a b = b
set-most (x ∷ gs) zero h g a b = omega arith
set-most (x ∷ gs) (suc k) h g a b = omega (arith, set-most gs k h g a (omega arith))

set-least : (gs : List Setting) (k : ℕ) (g : Setting) → k < length gs → g.framing ≤ framing_of (set gs k g)
unfolding framing_of
set-least [] k g b = absurd (omega arith)
set-least (x ∷ gs) zero g b = omega arith
set-least (x ∷ gs) (suc k) g b = omega (arith, set-least gs k g (omega arith))

module _ (v h : ℕ) where
  placed-most : (gs : List Setting) (ls : List LaneFields) → framing_of gs ≤ h → framing_of (placed_all v h gs ls) ≤ h
  unfolding placed_all
  placed-most gs [] b = b
  placed-most gs (l ∷ ls) b = placed-most (set gs l.lane.lane (given_by v h l)) ls (set-most gs l.lane.lane h (given_by v h l) (omega arith) b)

  placed-least : (gs : List Setting) (ls : List LaneFields) → length gs ≡ 64 → LanesWithin ls → 1 ≤ length ls → h ≤ framing_of (placed_all v h gs ls)
  unfolding placed_all LanesWithin
  placed-least gs [] size w many = absurd (omega arith)
  placed-least gs (l ∷ []) size w many = set-least gs l.lane.lane (given_by v h l) (omega (arith, w.0.number))
  placed-least gs (l ∷ (m ∷ ls)) size w many =
      placed-least (set gs l.lane.lane (given_by v h l)) (m ∷ ls) (omega (arith, length-set gs l.lane.lane (given_by v h l))) w.1 (omega arith)

  pub placed-line : (ls : List LaneFields) → LanesWithin ls → 1 ≤ length ls → framing_of (placed_all v h no_lanes ls) ≡ h
  unfolding framing_of
  placed-line ls w many = omega (arith, placed-most no_lanes ls (omega arith), placed-least no_lanes ls refl w many)

-- ---- lanes that fit

pub fitting-line : (gs : List Setting) → Setup gs → (k : ℕ) → Fitting (framing_of gs) (setting_at gs k)
fitting-line gs s k = ⊎_elim (λ (n : InNumbers (setting_at gs k)). inl (n, s.framed k n.weight_low)) (λ (e : setting_at gs k ≡ no_setting). inr e) (s.each k)

pub fitting-each : (h : ℕ) (g : Setting) → Fitting h g → Either g
fitting-each h g f = ⊎_elim (λ (n : InNumbers g × (g.framing ≡ h)). inl n.0) (λ (e : g ≡ no_setting). inr e) f

pub fitting-framed : (h : ℕ) (g : Setting) → Fitting h g → 0 < g.weight → g.framing ≡ h
fitting-framed h g f w = ⊎_elim (λ (n : InNumbers g × (g.framing ≡ h)). n.1) (λ (e : g ≡ no_setting). absurd (omega (arith, w, ap (λ (x : Setting). x.weight) e))) f
