-- Whether trains share a lane, by the table.
--
--   weighed-small, row_shared   a lane of the setup has a row, which says it
--   encodes-setup, kept-setup   the setup that a table means, by the state that it encodes; no call changes it
--   line-told                   the line that is written after a call
--
-- Assumes nothing.
use Prim.Native.Nat.{ℕ, ◌<◌}
use native.Mathlib.Omega.{arith}
use native.Mathlib.Decide.{dec_lt}
use mathlib.Core.Path.{◌≡◌, ap, subst, ◌∙◌}
use mathlib.Core.List.{List}
use Rattle.rules.specs.State.{Setting, Lane, State, setting_at, lane_at, setup_of}
use Rattle.rules.specs.Calls.{Call, step}
use Rattle.rules.specs.Reads.{reads}
use Rattle.rules.specs.declared.Answer.{Answer}
use Rattle.std.specs.Prelude.{Result}
use Rattle.rules.specs.declared.Refusal.{Refusal}
use Rattle.rules.proofs.SameSetup.{setting-lane, same_setup}
use Rattle.table.specs.Layout.{cells, row_at}
use Rattle.table.specs.Means.{meant}
use Rattle.table.specs.Encodes.{Encodes}
use Rattle.table.proofs.Footprint.{lane-is}
use Rattle.table.proofs.Rows.{given-row, weight-present}
use Rattle.engine.proofs.RowIs.{far-lane}
use Rattle.lines.specs.Line.{Line}
use Rattle.answers.specs.Lines.{line_by}

module _ (t : List ℕ) (k : ℕ) where
  lane-shared : (setting_at (setup_of (meant t)) k).shared ≡ (lane_at (meant t) k).given.shared
  lane-shared = ap (λ (g : Setting). g.shared) (setting-lane (meant t) k)

  lane-weighs : 0 < (setting_at (setup_of (meant t)) k).weight → 0 < (lane_at (meant t) k).given.weight
  lane-weighs h = subst (λ (g : Setting). 0 < g.weight) (setting-lane (meant t) k) h

  pub weighed-small : 0 < (setting_at (setup_of (meant t)) k).weight → k < 64
  weighed-small h = elim (dec_lt k 64) [
    | yes s ↦ s
    | no s ↦ absurd (omega (arith, lane-weighs h, ap (λ (l : Lane). l.given.weight) (far-lane t k (omega arith))))
  ]

  pub row_shared : 0 < (setting_at (setup_of (meant t)) k).weight → (setting_at (setup_of (meant t)) k).shared ≡ (row_at (cells t) k).shared
  row_shared h =
      let small = weighed-small h in
      lane-shared
      ∙ ap (λ (l : Lane). l.given.shared) (lane-is (cells t) _ k small)
      ∙ ap (λ (g : Setting). g.shared) (given-row (cells t) k (weight-present (cells t) _ k small (lane-weighs h)))

-- the setup that a table means, by a state that it encodes
pub encodes-setup : (t : List ℕ) (s : State) → Encodes t s → setup_of (meant t) ≡ setup_of s
encodes-setup t s e = ap (λ (ls : List Lane). setup_of (record { clock = 0; lanes = ls; order = s.order })) e.alike.lanes

pub kept-setup : (t t' : List ℕ) (c : Call) → Encodes t' (step (meant t) c).state → setup_of (meant t') ≡ setup_of (meant t)
kept-setup t t' c e = encodes-setup t' (step (meant t) c).state e ∙ same_setup (meant t) c

-- a line that is written by the table after the call is the one by the setup before it
pub line-told : (t t' : List ℕ) (c : Call) (x : Result Answer Refusal) {a a' : List ℕ} {at next : ℕ} → Encodes t' (step (meant t) c).state
    → reads x ≡ (step (meant t) c).reply → Line a a' at (line_by (setup_of (meant t')) (reads x)) next
    → Line a a' at (line_by (setup_of (meant t)) (step (meant t) c).reply) next
line-told t t' c x {a} {a'} {at} {next} e says l =
    subst (λ (y : List ℕ). Line a a' at y next) (ap (λ (gs : List Setting). line_by gs (reads x)) (kept-setup t t' c e) ∙ ap (line_by (setup_of (meant t))) says) l
