-- The loop of `write`, and what `begin` and `renew` leave. Assumes nothing.
use mathlib.Core.Path.{◌≡◌, refl, sym, ap, subst, ◌∙◌}
use mathlib.Core.Logic.{◌⊎◌, ⊎_elim}
use mathlib.Core.Bool.{false}
use Prim.Native.Nat.{ℕ, ◌+◌, ◌≤◌, ◌<◌}
use mathlib.Core.List.{List, []}
use native.Mathlib.Decide.{dec_lt}
use native.Mathlib.Nat.{pos_of_ne-zero}
use native.Mathlib.Omega.{arith}
use lib.ListN.{get_or, get_or-map, get_or-eq_default}
use Rattle.rules.specs.State.{Setting, State, lane_at, setup_of, setting_at, no_setting}
use Rattle.rules.specs.Setup.{InNumbers, Setup}
use Rattle.rules.specs.Calls.{idle, fresh}
use Rattle.rules.proofs.Figures.{framing-most}
use Rattle.slot_lists.specs.Lists.{list_at}
use Rattle.slot_lists.specs.Changes.{ListsEmptied}
use Rattle.filing.specs.Filing.{in_aRow}
use Rattle.table.specs.Layout.{Room, Now, cells, framing_word}
use Rattle.table.specs.Means.{state_of, meant, RowsFit, Sound, Leaves, with_lane, with_clock}
use Rattle.table.proofs.Stores.{length-cells}
use Rattle.table.proofs.Leave.{leaves-then}
use Rattle.table.proofs.Lists.{cells-around, empty-stays, past-rings, row-empty}
use Rattle.table.proofs.Footprint.{lanes-many}
use Rattle.fresh.specs.Makes.{Makes, lane_settings, FramedBy, up_to, rested_to}
use Rattle.plan.specs.Read.{setting_of}
use Rattle.plan.specs.declared.Lane as plan
use Rattle.fresh.proofs.States.{up_none, up_more, up-skip, up_at, up-all, rested-all}
use Rattle.fresh.proofs.Added.{begun, begun-state, begun-beside, begun-framing}

-- ---- write

pub makes-sound : (t₀ t : List ℕ) (gs : List Setting) → Room t → Makes t₀ t gs → Sound t
makes-sound t₀ t gs room m = record { room = room; beside = m.beside }

abbrev pub none : plan.Lane
none = record { weight = 0; longest = 0; framing = 0; shared = false }

module _ (lanes : List plan.Lane) (t₀ t : List ℕ) (k : ℕ) (hk : k < 64) (m : Makes t₀ t (up_to k (lane_settings lanes))) where
  at : setting_at (lane_settings lanes) k ≡ setting_of (get_or lanes k none)
  at = get_or-map setting_of lanes k none

  pub write-weight : (lane_at (meant t) k).given.weight ≡ 0
  write-weight = ap (λ (s : State). (lane_at s k).given.weight) m.state ∙ up_at (lane_settings lanes) k hk

  pub write-numbers : Setup (lane_settings lanes) → ((get_or lanes k none).weight ≡ 0 → ⊥) → InNumbers (setting_of (get_or lanes k none))
  write-numbers s ne =
      ⊎_elim
      (λ (n : InNumbers (setting_at (lane_settings lanes) k)). subst InNumbers at n)
      (λ (e : setting_at (lane_settings lanes) k ≡ no_setting). absurd (ne (ap (λ (g : Setting). g.weight) (sym at ∙ e))))
      (s.each k)

  pub write-more : (t' : List ℕ) → Leaves t t' (with_lane (meant t) k (idle (setting_of (get_or lanes k none)))) → Makes t₀ t' (up_to (k + 1) (lane_settings lanes))
  write-more t' l =
      let step : with_lane (meant t) k (idle (setting_of (get_or lanes k none))) ≡ fresh (up_to (k + 1) (lane_settings lanes)) = ap (λ (s : State). with_lane s k (idle (setting_of (get_or lanes k none)))) m.state ∙ ap (λ (g : Setting). with_lane (fresh (up_to k (lane_settings lanes))) k (idle g)) (sym at) ∙ up_more (lane_settings lanes) k hk in
      record { state = l.state ∙ step; beside = l.beside m.beside; empty = empty-stays t t' l.rest m.empty; rest = l.rest.past ∙ m.rest }

  pub write_skip : Setup (lane_settings lanes) → (get_or lanes k none).weight ≡ 0 → Makes t₀ t (up_to (k + 1) (lane_settings lanes))
  write_skip s e =
      let absent : setting_at (lane_settings lanes) k ≡ no_setting = ⊎_elim
      (λ (n : InNumbers (setting_at (lane_settings lanes) k)). absurd (omega (arith, n.weight_low, e, ap (λ (g : Setting). g.weight) at)))
      (λ (q : setting_at (lane_settings lanes) k ≡ no_setting). q)
      (s.each k) in
      record { state = m.state ∙ ap fresh (up-skip (lane_settings lanes) k hk absent); beside = m.beside; empty = m.empty; rest = m.rest }

-- ---- the line's framing bytes

module _ (lanes : List plan.Lane) (s : Setup (lane_settings lanes)) where
  lane-at : (k : ℕ) → setting_at (lane_settings lanes) k ≡ setting_of (get_or lanes k none)
  lane-at k = get_or-map setting_of lanes k none

  pub found-framing : (k : ℕ) → ((get_or lanes k none).weight ≡ 0 → ⊥) → FramedBy (get_or lanes k none).framing (lane_settings lanes)
  found-framing k ne j w =
      let here : 0 < (setting_at (lane_settings lanes) k).weight = omega (arith, ap (λ (g : Setting). g.weight) (lane-at k), pos_of_ne-zero ne) in
      s.framed j w ∙ sym (s.framed k here) ∙ ap (λ (g : Setting). g.framing) (lane-at k)

  pub weightless-at : (k : ℕ) → (get_or lanes k none).weight ≡ 0 → (setting_at (lane_settings lanes) k).weight ≡ 0
  weightless-at k e = ap (λ (g : Setting). g.weight) (lane-at k) ∙ e

  -- no lane has a weight, which no setup allows
  pub none-framing : ((k : ℕ) → k < 64 → (setting_at (lane_settings lanes) k).weight ≡ 0) → FramedBy 0 (lane_settings lanes)
  none-framing f j w =
      elim (dec_lt j 64) [
        | yes b ↦ absurd (omega (arith, f j b))
        | no b ↦ absurd (omega (arith, ap (λ (g : Setting). g.weight) (get_or-eq_default (lane_settings lanes) no_setting {n = j} (omega (arith, s.size)))))
      ]

  module _ (h : ℕ) (f : FramedBy h (lane_settings lanes)) (k : ℕ) (ne : (get_or lanes k none).weight ≡ 0 → ⊥) where
    abbrev framed : Setting
    framed = record { weight = (get_or lanes k none).weight; longest = (get_or lanes k none).longest; framing = h; shared = (get_or lanes k none).shared }

    weighs : 0 < (setting_at (lane_settings lanes) k).weight
    weighs = omega (arith, ap (λ (g : Setting). g.weight) (lane-at k), pos_of_ne-zero ne)

    same : setting_of (get_or lanes k none) ≡ framed
    same = ap (λ (x : ℕ). record { weight = (get_or lanes k none).weight; longest = (get_or lanes k none).longest; framing = x; shared = (get_or lanes k none).shared }) (sym (ap (λ (g : Setting). g.framing) (lane-at k)) ∙ f k weighs)

    pub framed-most : h ≤ 64
    framed-most = omega (arith, framing-most (lane_settings lanes) s k, f k weighs)

    module _ (t₀ t : List ℕ) (hk : k < 64) (m : Makes t₀ t (up_to k (lane_settings lanes))) where
      pub framed-numbers : InNumbers framed
      framed-numbers = subst InNumbers same (write-numbers lanes t₀ t k hk m s ne)

      pub framed-more : (t' : List ℕ) → Leaves t t' (with_lane (meant t) k (idle framed)) → Makes t₀ t' (up_to (k + 1) (lane_settings lanes))
      framed-more t' l = write-more lanes t₀ t k hk m t' (subst (λ (g : Setting). Leaves t t' (with_lane (meant t) k (idle g))) (sym same) l)

pub write-none : (lanes : List plan.Lane) (t₀ t : List ℕ) → Makes t₀ t (up_to 0 []) → Makes t t (up_to 0 (lane_settings lanes))
write-none lanes t₀ t m = record { state = m.state ∙ ap fresh (up_none (lane_settings lanes)); beside = m.beside; empty = m.empty; rest = refl }

pub write-all : (lanes : List plan.Lane) (t t₀ t' : List ℕ) (k : ℕ) → k ≡ 64 → Setup (lane_settings lanes) → Makes t t₀ (up_to 0 []) → Makes t₀ t' (up_to k (lane_settings lanes)) → Makes t t' (lane_settings lanes)
write-all lanes t t₀ t' k e s a b =
    record { state = b.state ∙ ap (λ (n : ℕ). fresh (up_to n (lane_settings lanes))) e ∙ ap fresh (up-all (lane_settings lanes) s.size); beside = b.beside; empty = b.empty; rest = b.rest ∙ a.rest }

-- ---- begin and renew: the last store empties the lists

pub emptied-state : (t t' : List ℕ) → ListsEmptied t t' → meant t' ≡ state_of (cells t) []
emptied-state t t' e = ap (λ (w : List ℕ). state_of w (in_aRow (list_at t'))) (cells-around t t' e.below e.rest) ∙ ap (state_of (cells t)) (row-empty t' e.empty)

pub begin-makes : (t u t' : List ℕ) (h : ℕ) → Now t u (begun (cells t) h (length-cells t)) → ListsEmptied u t' → Makes t t' (up_to 0 []) × (get_or (cells t') framing_word 0 ≡ h)
begin-makes t u t' h n e =
    let words = cells-around u t' e.below e.rest ∙ n.words in (
      record {
        state = emptied-state u t' e ∙ ap (λ (w : List ℕ). state_of w []) n.words ∙ begun-state (cells t) h (length-cells t);
        beside = subst RowsFit (sym words) (begun-beside (cells t) h (length-cells t));
        empty = e.empty;
        rest = past-rings u t' e.rest ∙ n.rest.past;
      },
      ap (λ (w : List ℕ). get_or w framing_word 0) words ∙ begun-framing (cells t) h (length-cells t),
    )

abbrev with_no_order : State → State
with_no_order s = record { clock = s.clock; lanes = s.lanes; order = [] }

no-order : (t : List ℕ) → state_of (cells t) [] ≡ with_no_order (meant t)
unfolding state_of
no-order t = refl

pub renew-makes : (t t₁ t₂ t' : List ℕ) → Sound t → Leaves t t₁ (rested_to 64 (meant t)) → Leaves t₁ t₂ (with_clock (meant t₁) 0) → ListsEmptied t₂ t' → Makes t t' (setup_of (meant t))
unfolding fresh
renew-makes t t₁ t₂ t' s a b e =
    let c = leaves-then a b in
    record {
      state = emptied-state t₂ t' e ∙ no-order t₂ ∙ ap with_no_order (b.state ∙ ap (λ (s : State). with_clock s 0) a.state) ∙ rw (rested-all (meant t) (lanes-many t));
      beside = subst RowsFit (sym (cells-around t₂ t' e.below e.rest)) (c.beside s.beside);
      empty = e.empty;
      rest = past-rings t₂ t' e.rest ∙ c.rest.past;
    }
