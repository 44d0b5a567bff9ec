-- The stored word of the groups, and their stored starts, are those of the lanes. Assumes nothing.
use Prim.Native.Nat.{ℕ, ◌^◌, ◌≤◌}
use native.Mathlib.Decide.{dec_lt}
use native.Mathlib.Omega.{arith}
use mathlib.Core.Path.{◌≡◌, refl, sym, ap, subst, ◌∙◌}
use mathlib.Core.Bool.{true, false≢true}
use mathlib.Core.Logic.{⊎_elim}
use mathlib.Core.List.{List}
use mathlib.Core.Option.{Option, none, some}
use lib.Pow.{pow_mono}
use Rattle.units.specs.Plain.{word_of, count}
use Rattle.units.proofs.Bools.{not-passed}
use Rattle.words.specs.Bits.{bit}
use Rattle.words.specs.Words.{word_at}
use Rattle.words.proofs.Bits.{bits-same, bit-above}
use Rattle.words.proofs.Runs.{eq-or-ne}
use Rattle.rules.specs.State.{Lane, lane_at}
use Rattle.rules.specs.Sets.{groups, in_group, group_start, held_start, group_holds}
use Rattle.rules.proofs.Word.{word_lt, word-bit}
use Rattle.rules.proofs.Lowest.{LowOf, LowestOf}
use Rattle.rules.proofs.GroupRule.{in_group_lem, group-low}
use Rattle.slot_lists.specs.Lists.{groups_at, start_word}
use Rattle.slot_lists.proofs.Bits.{bit-two}
use Rattle.slot_lists.proofs.Laws.{start-on, start-some}
use Rattle.filing.proofs.Slots.{group-held}
use Rattle.table.specs.Means.{meant}
use Rattle.choice.specs.Known.{Known}

module _ (t : List ℕ) (known : Known t) where
  abbrev ls : List Lane
  ls = (meant t).lanes

  -- a group that has a start has its number
  bounds : (i r : ℕ) → group_start ls i ≡ some r → (16 ≤ i) × (i ≤ 31)
  bounds i r e =
      let lead : LowestOf (in_group i) ls r = subst (LowOf (in_group i) ls) e (group-low ls i) in
      let b = in_group_lem i (lane_at (meant t) lead.at) lead.is in
      let g = group-held (meant t) known.good lead.at b.0 in
      (omega (arith, g.0, b.1), omega (arith, g.1, b.1))

  started : (i : ℕ) → group_holds ls i ≡ true → (r : ℕ) × (group_start ls i ≡ some r)
  unfolding group_holds held_start
  started i h = go (group_start ls i) refl h
    where
      go : (o : Option ℕ) → group_start ls i ≡ o → held_start o ≡ true → (r : ℕ) × (group_start ls i ≡ some r)
      go none e q = absurd (false≢true q)
      go (some r) e q = (r, e)

  marked : (i : ℕ) → group_holds ls i ≡ true → bit i (groups_at t) ≡ 1
  marked i h =
      let s = started i h in
      let b = bounds i s.0 s.1 in
      (start-some t i s.0 (known.listed.agrees.started i b.0 b.1 ∙ s.1)).0

  -- the stored start of a group that is marked
  pub stored-start : (i : ℕ) → bit i (groups_at t) ≡ 1 → group_start ls i ≡ some (word_at t (start_word i))
  stored-start i e = let b = known.listed.solid.groups i e in sym (known.listed.agrees.started i b.0 b.1) ∙ start-on t i e

  holds-there : (i : ℕ) → bit i (groups_at t) ≡ 1 → group_holds ls i ≡ true
  unfolding group_holds held_start
  holds-there i e = ap held_start (stored-start i e)

  pub start-there : (i : ℕ) → group_holds ls i ≡ true → group_start ls i ≡ some (word_at t (start_word i))
  start-there i h = stored-start i (marked i h)

  bit_is : (i : ℕ) → bit i (groups_at t) ≡ count (group_holds ls i)
  bit_is i =
      ⊎_elim
      (λ (e : bit i (groups_at t) ≡ 1). e ∙ sym (ap count (holds-there i e)))
      (λ (ne : bit i (groups_at t) ≡ 1 → ⊥). bit-two i (groups_at t) ne ∙ sym (ap count (not-passed (group_holds ls i) (λ h. ne (marked i h)))))
      (eq-or-ne (bit i (groups_at t)) 1)

  pub held_word : groups_at t ≡ word_of (group_holds ls) groups
  held_word =
      bits-same 32 (groups_at t) (word_of (group_holds ls) groups) known.listed.solid.high (word_lt (group_holds ls) groups)
      (λ i.
      elim (dec_lt i 32) [
        | yes h ↦ bit_is i ∙ sym (word-bit (group_holds ls) groups i h)
        | no h ↦
            let wide : 2 ^ 32 ≤ 2 ^ i = pow_mono {i = 32} {j = i} (omega arith) in
            bit-above i (groups_at t) (omega (arith, known.listed.solid.high)) ∙ sym (bit-above i (word_of (group_holds ls) groups) (omega (arith, word_lt (group_holds ls) groups)))
      ])
