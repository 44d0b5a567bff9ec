-- The loop of `within`.
--
--   So         the lanes below k fit the line's framing number h, and the sums so far are theirs
--   so-none, so-more, so-skip, so-all   before the loop, after a lane that is there or is not, and after all
--
-- Assumes nothing.
use Prim.Native.Nat.{ℕ, suc, ◌+◌, ◌*◌, ◌≤◌, ◌<◌}
use mathlib.Core.Path.{◌≡◌, sym, ap, subst, ◌∙◌}
use mathlib.Core.Bool.{true}
use mathlib.Core.Logic.{inr}
use mathlib.Core.List.{List, [], map}
use native.Mathlib.Numerals.{add-one}
use native.Mathlib.Decide.{dec_le}
use native.Mathlib.Omega.{arith}
use borrow.Author.Tests.{lt-ltb, le-ltb, eqb-true, eqb-false}
use lib.Dec.{eqb}
use lib.ListN.{drop, get_or, get_or-eq_default, drop_of_length-le}
use Rattle.rules.specs.State.{Setting, no_setting, setting_at}
use Rattle.rules.specs.Setup.{weights, framing_of}
use Rattle.plan.specs.Judge.{known_format}
use Rattle.plan.specs.Read.{setting_of}
use Rattle.plan.specs.Accepted.{there, present}
use Rattle.plan.specs.declared.Lane as plan
use Rattle.plan_writer.specs.Write.{Fitting, Within, Tells}
use Rattle.plan_writer.proofs.Framing.{fitting-each, fitting-framed, fitting-line}
use Rattle.plan_writer.proofs.Numbered.{numbered-size, none, lane-at, lane-next}
use Rattle.plan_writer.proofs.Lane.{lanes_of, is-there}

pub record So (lanes : List plan.Lane) (h k total some : ℕ) : Type 0 where
  pub low : k ≤ 64
  pub each : (j : ℕ) → j < k → Fitting h (setting_at (lanes_of lanes) j)
  pub weigh : total + weights (drop k (lanes_of lanes)) ≡ weights (lanes_of lanes)
  pub count : some + present (drop k (lanes_of lanes)) ≡ present (lanes_of lanes)
  pub small : total ≤ 1024 * k
  pub few : some ≤ k

pub so-none : (lanes : List plan.Lane) (h : ℕ) → So lanes h 0 0 0
so-none lanes h = record { low = omega arith; each = λ j l. absurd (omega (arith, l)); weigh = omega arith; count = omega arith; small = omega arith; few = omega arith }

module _ (lanes : List plan.Lane) (h : ℕ) (line : h ≡ framing_of (lanes_of lanes)) where
  abbrev gs : List Setting
  gs = lanes_of lanes

  fits_line : {v n : ℕ} → Within (record { format = v; lanes = gs; count = n }) → (k : ℕ) → Fitting h (setting_at gs k)
  fits_line w k = subst (λ (x : ℕ). Fitting x (setting_at gs k)) (sym line) (fitting-line gs w.setup k)

  -- a line with more than 64
  pub line-over : 64 < h → (v n : ℕ) → Within (record { format = v; lanes = gs; count = n }) → ⊥
  line-over b v n w = omega (arith, w.setup.framing_high, line)

  module _ (k total some : ℕ) (so : So lanes h k total some) where
    module _ (l : k < 64) where
      abbrev g : Setting
      g = setting_of (get_or lanes k none)

      pub so-outside : (Fitting h g → ⊥) → (v n : ℕ) → Within (record { format = v; lanes = gs; count = n }) → ⊥
      so-outside out v n w = out (subst (Fitting h) (lane-at lanes k l) (fits_line w k))

      module _ (ok : Fitting h g) where
        more-each : (j : ℕ) → j < k + 1 → Fitting h (setting_at gs j)
        more-each j q =
            elim (dec_le (suc j) k) [
              | yes b ↦ so.each j b
              | no b ↦ let e : k ≡ j = omega arith in subst (λ (i : ℕ). Fitting h (setting_at gs i)) e (subst (Fitting h) (sym (lane-at lanes k l)) ok)
            ]

        weights-next : weights (drop k gs) ≡ g.weight + weights (drop (k + 1) gs)
        weights-next = ap weights (lane-next lanes k l) ∙ ap (λ (i : ℕ). g.weight + weights (drop i gs)) (sym (add-one k))

        present-next : present (drop k gs) ≡ there g + present (drop (k + 1) gs)
        present-next = ap present (lane-next lanes k l) ∙ ap (λ (i : ℕ). there g + present (drop i gs)) (sym (add-one k))

        pub so-more : (g.weight ≡ 0 → ⊥) → So lanes h (k + 1) (total + g.weight) (some + 1)
        so-more w =
            let n = (is-there h g w ok).0 in
            let one : there g ≡ 1 = rw (lt-ltb 0 g.weight n.weight_low) in
            record {
              low = omega arith;
              each = more-each;
              weigh = omega (arith, weights-next, so.weigh);
              count = omega (arith, present-next, so.count, one);
              small = omega (arith, so.small, n.weight_high);
              few = omega (arith, so.few);
            }

        pub so-skip : g.weight ≡ 0 → So lanes h (k + 1) total some
        so-skip w =
            let zero-there : there g ≡ 0 = rw (le-ltb 0 g.weight (omega (arith, w))) in
            record {
              low = omega arith;
              each = more-each;
              weigh = omega (arith, weights-next, so.weigh, w);
              count = omega (arith, present-next, so.count, zero-there);
              small = omega (arith, so.small);
              few = omega (arith, so.few);
            }

    module _ (done : 64 ≤ k) where
      none_left : drop k gs ≡ []
      none_left = drop_of_length-le gs {i = k} (omega (arith, numbered-size (map setting_of lanes), done))

      total-is : weights gs ≡ total
      total-is = omega (arith, so.weigh, ap weights none_left)

      some_is : present gs ≡ some
      some_is = omega (arith, so.count, ap present none_left)

      every : (j : ℕ) → Fitting h (setting_at gs j)
      every j =
          elim (dec_le (suc j) 64) [
            | yes b ↦ so.each j (omega (arith, b, done))
            | no b ↦ inr (get_or-eq_default gs no_setting (omega (arith, b, numbered-size (map setting_of lanes))))
          ]

      pub so-all : (v n : ℕ) → known_format v ≡ true → h ≤ 64 → (total ≡ 0 → ⊥) → total ≤ 1024 → Tells (eqb some n) (Within (record { format = v; lanes = gs; count = n }))
      so-all v n f m p q = record {
        yes = λ e. record {
          format = f;
          setup = record {
            size = numbered-size (map setting_of lanes);
            each = λ j. fitting-each h (setting_at gs j) (every j);
            some_lane = omega (arith, total-is, p);
            total = omega (arith, total-is, q);
            framing_high = omega (arith, line, m);
            framed = λ j w. fitting-framed h (setting_at gs j) (every j) w ∙ line;
          };
          count = some_is ∙ eqb-true some n e;
        };
        no = λ e w. eqb-false some n e (sym some_is ∙ w.count);
      }

      pub so-zero : total ≡ 0 → (v n : ℕ) → Within (record { format = v; lanes = gs; count = n }) → ⊥
      so-zero z v n w = omega (arith, total-is, w.setup.some_lane, z)

      pub so-over : 1024 < total → (v n : ℕ) → Within (record { format = v; lanes = gs; count = n }) → ⊥
      so-over z v n w = omega (arith, total-is, w.setup.total, z)
