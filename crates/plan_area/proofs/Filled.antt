-- The loop of `plan_in`.
--
--   Filled   the lanes below k are those of the area, as a plan has them, and so many of them are there
--   fill_none, fill_more, fill-all   before the loop, after a lane, and after all
--
-- Assumes nothing.
use Prim.Native.Nat.{ℕ, suc, ◌+◌, ◌≤◌, ◌<◌}
use mathlib.Core.Path.{◌≡◌, sym, ap, subst, ◌∙◌}
use mathlib.Core.List.{List, map}
use native.Mathlib.Numerals.{add-one}
use native.Mathlib.Decide.{dec_le}
use native.Mathlib.Omega.{arith}
use borrow.Author.Tests.{lt-ltb, le-ltb}
use lib.ListN.{length, drop, set, length-set, length-replicate, drop_of_length-le}
use lib.Seq.{ext_get_or, drop-cons, get_or-set_same, get_or-set_other}
use Rattle.words.proofs.Runs.{length-tab, get_d-tab}
use Rattle.rules.specs.State.{Setting, no_setting, setting_at}
use Rattle.plan.specs.Read.{setting_of, no_lanes}
use Rattle.plan.specs.Accepted.{there, present}
use Rattle.plan.specs.declared.Lane as plan
use Rattle.plan.proofs.Lists.{map-set}
use Rattle.plan_writer.specs.Write.{Planned, numbered}
use Rattle.plan_writer.proofs.Numbered.{numbered-size, numbered-at}
use Rattle.plan_area.specs.Area.{format_in, lane_in, lanes_in, narrowed}
use Rattle.plan_area.proofs.Narrow.{narrowed_lanes, had_of}

pub record Filled (a : List ℕ) (lanes : List plan.Lane) (count k : ℕ) : Type 0 where
  pub low : k ≤ 64
  pub size : length (map setting_of lanes) ≡ 64
  pub each : (j : ℕ) → j < k → setting_at (map setting_of lanes) j ≡ narrowed (lane_in a j)
  pub seen : count + present (drop k (lanes_in a)) ≡ present (lanes_in a)
  pub few : count ≤ k

pub fill_none : (a : List ℕ) (lanes : List plan.Lane) → map setting_of lanes ≡ no_lanes → Filled a lanes 0 0
fill_none a lanes e = record {
  low = omega arith;
  size = ap length e ∙ length-replicate 64 no_setting;
  each = λ j h. absurd (omega (arith, h));
  seen = omega arith;
  few = omega arith;
}

module _ (a : List ℕ) (lanes : List plan.Lane) (count k : ℕ) (so : Filled a lanes count k) where
  module _ (l : k < 64) (x : plan.Lane) (is : setting_of x ≡ narrowed (lane_in a k)) where
    size-more : length (map setting_of (set lanes k x)) ≡ 64
    size-more = ap length (map-set setting_of lanes k x) ∙ length-set (map setting_of lanes) k (setting_of x) ∙ so.size

    each_more : (j : ℕ) → j < k + 1 → setting_at (map setting_of (set lanes k x)) j ≡ narrowed (lane_in a j)
    each_more j h =
        ap (λ (gs : List Setting). setting_at gs j) (map-set setting_of lanes k x)
        ∙ elim (dec_le (suc j) k) [
          | yes b ↦ get_or-set_other (map setting_of lanes) k j (setting_of x) no_setting (λ e. omega (arith, e, b)) ∙ so.each j b
          | no b ↦
              let e : k ≡ j = omega arith in
              subst (λ (i : ℕ). setting_at (set (map setting_of lanes) k (setting_of x)) i ≡ narrowed (lane_in a i)) e
              (get_or-set_same (map setting_of lanes) k (setting_of x) no_setting (omega (arith, so.size, l)) ∙ is)
        ]

    present-next : present (drop k (lanes_in a)) ≡ there (setting_of x) + present (drop (k + 1) (lanes_in a))
    present-next =
        ap present (drop-cons (lanes_in a) k no_setting (omega (arith, l, length-tab 64 (lane_in a))))
        ∙ ap (λ (g : Setting). there g + present (drop (suc k) (lanes_in a))) (get_d-tab 64 k (lane_in a) no_setting l)
        ∙ ap (λ (g : Setting). there g + present (drop (suc k) (lanes_in a))) (sym is)
        ∙ ap (λ (i : ℕ). there (setting_of x) + present (drop i (lanes_in a))) (sym (add-one k))

    pub fill_more : (x.weight ≡ 0 → ⊥) → Filled a (set lanes k x) (count + 1) (k + 1)
    fill_more w =
        let one : there (setting_of x) ≡ 1 = rw (lt-ltb 0 x.weight (omega (arith, w))) in
        record { low = omega arith; size = size-more; each = each_more; seen = omega (arith, present-next, so.seen, one); few = omega (arith, so.few) }

    pub fill-skip : x.weight ≡ 0 → Filled a (set lanes k x) count (k + 1)
    fill-skip w =
        let none : there (setting_of x) ≡ 0 = rw (le-ltb 0 x.weight (omega (arith, w))) in
        record { low = omega arith; size = size-more; each = each_more; seen = omega (arith, present-next, so.seen, none); few = omega (arith, so.few) }

  pub fill-all : 64 ≤ k → (v : ℕ) → v ≡ format_in a → ◌≡◌ {A = Planned} (record { format = v; lanes = numbered (map setting_of lanes); count = count }) (had_of a)
  fill-all done v format-is =
      let gs = map setting_of lanes in
      let lanes-are : numbered gs ≡ narrowed_lanes a =
      ext_get_or no_setting (numbered gs) (narrowed_lanes a) (numbered-size gs ∙ sym (length-tab 64 (λ k. narrowed (lane_in a k))))
      (λ i h. let b : i < 64 = omega (arith, h, numbered-size gs) in numbered-at gs i b ∙ so.each i (omega (arith, b, done)) ∙ sym (get_d-tab 64 i (λ k. narrowed (lane_in a k)) no_setting b)) in
      let left : present (drop k (lanes_in a)) ≡ 0 = ap present (drop_of_length-le (lanes_in a) {i = k} (omega (arith, length-tab 64 (lane_in a), done))) in
      let count_is : count ≡ present (lanes_in a) = omega (arith, so.seen, left) in
      ap (λ (x : ℕ). record { format = x; lanes = numbered gs; count = count }) format-is
      ∙ ap (λ (x : List Setting). record { format = format_in a; lanes = x; count = count }) lanes-are
      ∙ ap (λ (n : ℕ). record { format = format_in a; lanes = narrowed_lanes a; count = n }) count_is
