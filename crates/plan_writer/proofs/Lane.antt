-- One lane of a plan, tested; the loop of `line_framing`, and the count of `shared_lanes`.
--
--   tells-no       a test that answers no
--   is-there, is-absent, absent-lane, last-test   what the numbers of a lane that fits are, and the tests of `lane_within`
--   Line           the greatest framing number so far, with that of the lanes behind; line-none, line-more, line_same, line-all
--   shares-counted  how many lanes are shared, counted
--
-- Assumes nothing.
use Prim.Native.Nat.{ℕ, ◌+◌, ◌≤◌, ◌<◌, max}
use mathlib.Core.Path.{◌≡◌, refl, sym, ap, ◌∙◌}
use mathlib.Core.Bool.{Bool, true, false, not, cond}
use mathlib.Core.Logic.{inl, inr, ⊎_elim}
use mathlib.Core.List.{List, map}
use native.Mathlib.Numerals.{add-one}
use native.Mathlib.Omega.{arith}
use borrow.Author.Tests.{eqb-true, eqb-false, not-true, not-false}
use lib.Dec.{eqb}
use lib.ListN.{length, drop, get_or, drop_of_length-le, length-map}
use Rattle.std.specs.Prelude.{if◌then◌else◌, count_by}
use Rattle.std.proofs.lemmas.List.Recursion.{is_count_by}
use Rattle.rules.specs.State.{Setting, no_setting}
use Rattle.rules.specs.Setup.{InNumbers, framing_of}
use Rattle.plan.specs.Read.{setting_of}
use Rattle.plan.specs.declared.Lane as plan
use Rattle.plan_writer.specs.Write.{numbered, Either, Fitting, Tells, shareds}
use Rattle.plan_writer.proofs.Framing.{fitting-each, fitting-framed}
use Rattle.plan_writer.proofs.Numbered.{numbered-size, numbered-all, none, lane-next}

-- ---- one lane

pub false-true : {A : Type 0} → false ≡ true → A
false-true h = absurd (let z : ◌≡◌ {A = ℕ} 0 1 = cc in omega arith)

pub tells-no : {P : Type 0} → (P → ⊥) → Tells false P
tells-no n = record { yes = λ e. false-true e; no = λ e p. n p }

pub there-either : (g : Setting) → (g.weight ≡ 0 → ⊥) → Either g → InNumbers g
there-either g w p = ⊎_elim (λ (n : InNumbers g). n) (λ (q : g ≡ no_setting). absurd (w (ap (λ (x : Setting). x.weight) q))) p

pub absent-either : (g : Setting) → g.weight ≡ 0 → Either g → g ≡ no_setting
absent-either g w p = ⊎_elim (λ (n : InNumbers g). absurd (omega (arith, n.weight_low, w))) (λ (q : g ≡ no_setting). q) p

module _ (h : ℕ) (g : Setting) where
  pub is-absent : g.weight ≡ 0 → Fitting h g → g ≡ no_setting
  is-absent w p = absent-either g w (fitting-each h g p)

  -- a lane that is there is in the numbers
  pub is-there : (g.weight ≡ 0 → ⊥) → Fitting h g → InNumbers g × (g.framing ≡ h)
  is-there w p = (there-either g w (fitting-each h g p), fitting-framed h g p (omega (arith, w)))

  pub absent-lane : g.weight ≡ 0 → g.longest ≡ 0 → g.framing ≡ 0 → Tells (not g.shared) (Fitting h g)
  absent-lane w l f = record {
    yes = λ e.
        let all-zero : g ≡ no_setting =
        ap (λ (x : ℕ). record { weight = x; longest = g.longest; framing = g.framing; shared = g.shared }) w
        ∙ ap (λ (x : ℕ). record { weight = 0; longest = x; framing = g.framing; shared = g.shared }) l
        ∙ ap (λ (x : ℕ). record { weight = 0; longest = 0; framing = x; shared = g.shared }) f
        ∙ ap (λ (b : Bool). record { weight = 0; longest = 0; framing = 0; shared = b }) (not-true g.shared e) in
        inr all-zero;
    no = λ e p. false-true (sym (ap (λ (x : Setting). x.shared) (is-absent w p)) ∙ not-false g.shared e);
  }

  pub last-test : (g.weight ≡ 0 → ⊥) → g.weight ≤ 1024 → 64 ≤ g.longest → g.longest ≤ 1500 → Tells (eqb g.framing h) (Fitting h g)
  last-test w a l m = record {
    yes = λ e. inl (record { weight_low = omega (arith, w); weight_high = a; longest_low = l; longest_high = m }, eqb-true g.framing h e);
    no = λ e p. eqb-false g.framing h e (is-there w p).1;
  }

-- ---- the greatest framing number

abbrev pub lanes_of : List plan.Lane → List Setting
lanes_of lanes = numbered (map setting_of lanes)

pub record Line (lanes : List plan.Lane) (k h : ℕ) : Type 0 where
  pub low : k ≤ 64
  pub most : max h (framing_of (drop k (lanes_of lanes))) ≡ framing_of (lanes_of lanes)

pub line-none : (lanes : List plan.Lane) → Line lanes 0 0
line-none lanes = record { low = omega arith; most = omega arith }

module _ (lanes : List plan.Lane) (k h : ℕ) (so : Line lanes k h) where
  module _ (l : k < 64) where
    abbrev here : Setting
    here = setting_of (get_or lanes k none)

    framing-next : framing_of (drop k (lanes_of lanes)) ≡ max here.framing (framing_of (drop (k + 1) (lanes_of lanes)))
    unfolding framing_of
    framing-next = ap framing_of (lane-next lanes k l) ∙ ap (λ (i : ℕ). max here.framing (framing_of (drop i (lanes_of lanes)))) (sym (add-one k))

    pub line-more : h < here.framing → Line lanes (k + 1) here.framing
    line-more b = record { low = omega arith; most = omega (arith, framing-next, so.most) }

    pub line_same : here.framing ≤ h → Line lanes (k + 1) h
    line_same b = record { low = omega arith; most = omega (arith, framing-next, so.most) }

  pub line-all : 64 ≤ k → h ≡ framing_of (lanes_of lanes)
  unfolding framing_of
  line-all done = omega (arith, so.most, ap framing_of (drop_of_length-le (lanes_of lanes) {i = k} (omega (arith, numbered-size (map setting_of lanes), done))))

-- ---- how many lanes are shared

one_more : (b : Bool) (n : ℕ) → (if b then 1 else 0) + n ≡ cond b (1 + n) n
one_more true n = refl
one_more false n = omega arith

shares_each : (lanes : List plan.Lane) → shareds (map setting_of lanes) ≡ count_by (λ (l : plan.Lane). l.shared) lanes
shares_each = is_count_by (λ (ls : List plan.Lane). shareds (map setting_of ls)) (λ (l : plan.Lane). l.shared) refl (λ l ls. one_more l.shared (shareds (map setting_of ls)))

-- counted as the code counts, over a plan of 64 lanes
pub shares-counted : (lanes : List plan.Lane) → length lanes ≡ 64 → count_by (λ (l : plan.Lane). l.shared) lanes ≡ shareds (lanes_of lanes)
shares-counted lanes size = sym (ap shareds (numbered-all (map setting_of lanes) (length-map lanes setting_of ∙ size)) ∙ shares_each lanes)
