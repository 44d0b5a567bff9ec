-- A fresh table has the invariant, and the invariant gives the two bounds behind R15.8: S < V + 2s and V < R + 2s + M for a holding lane. Assumes nothing.
use Prim.Native.Nat.{ℕ, ◌+◌, ◌-◌, ◌*◌, ◌≤◌, ◌<◌}
use native.Mathlib.Omega.{arith}
use native.Mathlib.Nat.{le_refl, mul-le-mul_right}
use mathlib.Core.Path.{◌≡◌, refl, sym, ap, subst, ◌∙◌}
use mathlib.Core.Bool.{Bool, true, false, false≢true}
use mathlib.Core.List.{List, [], ◌∷◌, map}
use mathlib.Core.Option.{some}
use lib.ListN.{get_or}
use Rattle.units.proofs.Round.{lt-round-slot}
use Rattle.std.specs.Prelude.{if◌then◌else◌}
use Rattle.units.specs.Plain.{sum}
use Rattle.rules.specs.State.{Setting, no_setting, Lane, charge, slot, finish_r, some?, first_of, holds, no_lane}
use Rattle.waiting.proofs.Laws.{first-nothing, good-nothing}
use Rattle.rules.specs.Calls.{idle}
use Rattle.rules.proofs.Lists.{le-sum, get_d_map}
use Rattle.rules.proofs.Lane.{slot-pos}
use Rattle.rules.proofs.Claim.{from-due, claim, weight_of, Queued, LaneOk, Inv, in-range}
use Rattle.rules.proofs.Moves.{busy-first}

-- ---- a fresh table

-- what the proof asks of a setup: the weights' sum, and M
pub record SetupOk (M : ℕ) (gs : List Setting) : Type 0 where
  pub weights : sum (λ (g : Setting). g.weight) gs ≤ 1024
  pub short : (k : ℕ) → 1024 * charge (get_or gs k no_setting) (get_or gs k no_setting).longest ≤ M

fresh-weights : (gs : List Setting) → sum weight_of (map idle gs) ≡ sum (λ (g : Setting). g.weight) gs
unfolding idle
fresh-weights [] = refl
fresh-weights (g ∷ gs) = omega (arith, fresh-weights gs)

pub idle-free : (g : Setting) → holds (idle g) ≡ false
unfolding idle
idle-free g = ap some? (first-nothing g.shared)

idle-lane : (M : ℕ) (g : Setting) → 1024 * charge g g.longest ≤ M → (holds (idle g) ≡ true → ⊥) × LaneOk M 0 (idle g)
unfolding idle
idle-lane M g h = (λ t. false≢true (sym (idle-free g) ∙ t), record { queued = rw (first-nothing g.shared) tt; waiting = good-nothing g.longest g.shared; below = rw (first-nothing g.shared) (omega (arith, slot-pos g)); short = h })

pub idle-at : (gs : List Setting) (k : ℕ) → get_or (map idle gs) k no_lane ≡ idle (get_or gs k no_setting)
unfolding idle
idle-at gs k = get_d_map idle gs k no_setting no_lane refl

pub fresh-free : (gs : List Setting) (k : ℕ) → holds (get_or (map idle gs) k no_lane) ≡ false
fresh-free gs k = ap holds (idle-at gs k) ∙ idle-free (get_or gs k no_setting)

pub fresh-inv : (M : ℕ) (gs : List Setting) → SetupOk M gs → Inv M 0 (map idle gs)
fresh-inv M gs s = record {
  weights = omega (arith, fresh-weights gs, s.weights);
  ok = λ k. rw idle-at (idle-lane M (get_or gs k no_setting) (s.short k)).1;
  due = λ D k e h. absurd ((idle-lane M (get_or gs k no_setting) (s.short k)).0 (rw idle-at at e));
}

-- (U): a holding lane's start is below the clock plus two slots
pub upper : (M v : ℕ) (ls : List Lane) → Inv M v ls → (k : ℕ) → holds (get_or ls k no_lane) ≡ true → (get_or ls k no_lane).start < v + 2 * slot (get_or ls k no_lane).given
upper M v ls inv k e =
    let l : Lane = get_or ls k no_lane in
    subst (λ (b : Bool). (if b then l.start else l.finish) < v + 2 * slot l.given) e (inv.ok k).below

-- (L): the clock is below the rounded finish of each holding lane plus M
pub lower : (M v : ℕ) (ls : List Lane) → Inv M v ls → (k : ℕ) → holds (get_or ls k no_lane) ≡ true → v < finish_r (get_or ls k no_lane) + M
lower M v ls inv k e =
    let l : Lane = get_or ls k no_lane in
    let E : ℕ = finish_r l in
    let f = busy-first (first_of l) e in
    let q : Queued l.given l.start l.finish (some f.0) = subst (Queued l.given l.start l.finish) f.1 (inv.ok k).queued in
    omega (
      arith,
      inv.due E k e (le_refl E),
      le-sum (claim v E) ls no_lane k (in-range ls k q.0),
      ap (λ (x : ℕ). weight_of l * (E - x)) (from-due v E l e (le_refl E)),
      mul-le-mul_right (E - l.start) q.0,
      lt-round-slot (slot l.given) l.start (slot-pos l.given),
    )
