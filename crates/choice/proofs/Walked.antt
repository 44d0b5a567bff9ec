-- The sweep as the code walks it: by the set bits of the word of the groups that hold records, from the highest down. Assumes nothing.
use Prim.Native.Nat.{ℕ, zero, suc, ◌^◌, ◌≤◌, ◌<◌}
use native.Mathlib.Nat.{eq-or-lt_of_le, two-pow-succ}
use native.Mathlib.Omega.{arith}
use mathlib.Core.Path.{◌≡◌, refl, sym, subst, ◌∙◌}
use mathlib.Core.Bool.{true, false, false≢true}
use mathlib.Core.Logic.{⊎_elim}
use mathlib.Core.List.{List}
use mathlib.Core.Option.{Option, none, some}
use Rattle.words.specs.Bits.{Highest}
use Rattle.units.specs.Plain.{word_of}
use Rattle.rules.specs.State.{Lane}
use Rattle.rules.specs.Sets.{groups, group_start, held_start, group_holds}
use Rattle.choice.specs.Sweep.{swept}
use Rattle.choice.specs.declared.Sweep.{Sweep}
use Rattle.choice.proofs.Walk.{highest-at, none-set}
use Rattle.choice.proofs.Sweeps.{Swept, swept-skip, swept-group}

module _ (v : ℕ) (ls : List Lane) where
  no_start : (i : ℕ) → group_holds ls i ≡ false → group_start ls i ≡ none
  unfolding group_holds held_start
  no_start i e = go (group_start ls i) e
    where
      go : (o : Option ℕ) → held_start o ≡ false → o ≡ none
      go none e = refl
      go (some r) e = absurd (false≢true (sym e))

  -- from n down to i, where none of the groups between holds records
  swept-down : (i n : ℕ) (a : Sweep) → i ≤ n → ((k : ℕ) → i ≤ k → k < n → group_holds ls k ≡ false) → Swept v ls n a → Swept v ls i a
  swept-down i zero a le e h = subst (λ (k : ℕ). Swept v ls k a) (omega arith) h
  swept-down i (suc n) a le e h = ⊎_elim
      (λ (z : i ≡ suc n). subst (λ (k : ℕ). Swept v ls k a) (sym z) h)
      (λ (z : i < suc n). swept-down i n a (omega arith) (λ k p q. e k p (omega arith)) (swept-skip v ls n a (no_start n (e n (omega arith) (omega arith))) h))
      (eq-or-lt_of_le le)

  -- the groups from n on are swept, and what is left is the word of the holding groups below n
  pub record Walked (left : ℕ) (a : Sweep) : Type 0 where
    pub n : ℕ
    pub few : n ≤ groups
    pub left_is : left ≡ word_of (group_holds ls) n
    pub done : Swept v ls n a

  -- the highest set bit is the next group that holds records
  pub record Next (i rest : ℕ) (a : Sweep) : Type 0 where
    pub small : i < groups
    pub is : group_holds ls i ≡ true
    pub rest_is : rest ≡ word_of (group_holds ls) i
    pub done : Swept v ls (suc i) a

  pub walk-next : {left i rest : ℕ} (a : Sweep) → Highest left i rest → Walked left a → Next i rest a
  walk-next {left} {i} a b w =
      let h = highest-at (group_holds ls) w.n i (omega (arith, w.left_is, b.is)) (omega (arith, w.left_is, b.is, b.below, two-pow-succ i)) in
      record {
        small = omega (arith, h.below, w.few);
        is = h.is;
        rest_is = omega (arith, h.rest, w.left_is, b.is);
        done = swept-down (suc i) w.n a h.below (λ k p q. h.none_above k p q) w.done;
      }

  -- that group swept, and its bit taken from what is left
  pub walk-on : {i rest : ℕ} (r : ℕ) (a : Sweep) → Next i rest a → group_start ls i ≡ some r → r < 2 ^ 63 → Walked rest (swept r v i a)
  walk-on {i} r a x start early = record {
    n = i;
    few = omega (arith, x.small);
    left_is = x.rest_is;
    done = swept-group v ls i a r x.small start early x.done;
  }

  -- no bit left: all groups are swept
  pub walk_end : (left : ℕ) (a : Sweep) → left ≡ 0 → Walked left a → Swept v ls 0 a
  walk_end left a e w = swept-down 0 w.n a (omega arith) (λ k p q. none-set (group_holds ls) w.n (sym w.left_is ∙ e) k q) w.done
