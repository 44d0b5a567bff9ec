-- Whether any lane holds a record, by the word of the groups that have lanes. Assumes nothing.
use mathlib.Core.Path.{◌≡◌, refl, sym, ap, subst, ◌∙◌}
use mathlib.Core.Bool.{Bool, true, false, not, false≢true}
use mathlib.Core.List.{List}
use mathlib.Core.Option.{some}
use Prim.Native.Nat.{ℕ}
use native.Mathlib.Omega.{arith}
use borrow.Author.Tests.{eqb-true, eqb-false}
use lib.Count.{count_trailing_zeros}
use lib.Dec.{eqb}
use lib.Pow.{pow_pos}
use Rattle.units.proofs.Bools.{not-passed}
use Rattle.words.specs.Bits.{bit}
use Rattle.words.specs.Words.{word_at}
use Rattle.words.proofs.Bits.{low-set, bit-above}
use Rattle.rules.specs.State.{lane_at, any_holds}
use Rattle.rules.specs.Sets.{in_group, group_start}
use Rattle.rules.proofs.GroupRule.{in_group_lem, group-low}
use Rattle.rules.proofs.Live.{some_holds, holds-some}
use Rattle.rules.proofs.Lowest.{LowOf, LowestOf}
use Rattle.slot_lists.specs.Lists.{groups_at, start_word, start_at}
use Rattle.slot_lists.proofs.Laws.{start-on, start-off}
use Rattle.filing.proofs.Slots.{group-in}
use Rattle.filing.proofs.LeastStart.{none_held}
use Rattle.table.specs.Means.{meant}
use Rattle.paged.specs.Settles.{Filed}

module _ (t : List ℕ) (f : Filed t) where
  nobody : groups_at t ≡ 0 → any_holds (meant t).lanes ≡ false
  nobody z =
      not-passed (any_holds (meant t).lanes) (λ q.
      let w = some_holds (meant t).lanes q in
      false≢true (sym (none_held (meant t) (start_at t) f.listed.agrees.started (group-in (meant t) f.setup f.waiting) (λ i lo hi. start-off t i (λ one. omega (arith, one, ap (bit i) z, bit-above i 0 (pow_pos i)))) w.0) ∙ w.1))

  somebody : (groups_at t ≡ 0 → ⊥) → any_holds (meant t).lanes ≡ true
  somebody ne =
      let m = groups_at t in
      let g = count_trailing_zeros 64 m in
      let one : bit g m ≡ 1 = (low-set 64 m (omega (arith, ne)) (omega (arith, f.listed.solid.high))).0 in
      let bounds = f.listed.solid.groups g one in
      let start : group_start (meant t).lanes g ≡ some (word_at t (start_word g)) = sym (f.listed.agrees.started g bounds.0 bounds.1) ∙ start-on t g one in
      let lead : LowestOf (in_group g) (meant t).lanes (word_at t (start_word g)) = subst (LowOf (in_group g) (meant t).lanes) start (group-low (meant t).lanes g) in
      holds-some (meant t).lanes lead.at (in_group_lem g (lane_at (meant t) lead.at) lead.is).0

  pub held-is : (w : ℕ) → w ≡ groups_at t → not (eqb w 0) ≡ any_holds (meant t).lanes
  held-is w e = go (eqb w 0) refl
    where
      go : (b : Bool) → eqb w 0 ≡ b → not b ≡ any_holds (meant t).lanes
      go true q = sym (nobody (sym e ∙ eqb-true w 0 q))
      go false q = sym (somebody (λ z. eqb-false w 0 q (e ∙ z)))
