-- The groups' word walked by its set bits. Assumes nothing.
--
--   Walked   a pass that has met the groups below n, whatever it tells of them
use mathlib.Core.Path.{◌≡◌, sym, ap, subst, ◌∙◌}
use mathlib.Core.Option.{none, some}
use mathlib.Core.List.{List}
use Prim.Native.Nat.{ℕ, ◌+◌, ◌≤◌, ◌<◌}
use native.Mathlib.Omega.{arith}
use Rattle.words.specs.Bits.{bit, Lowest}
use Rattle.words.specs.Words.{word_at}
use Rattle.words.proofs.Walk.{Left, left-all, none_left, next-on, next-present, none_between as no-bit-between, left-after}
use Rattle.slot_lists.specs.Lists.{groups_at, start_word, start_at, Solid}
use Rattle.slot_lists.proofs.Laws.{start-on, start-off}

no-start : (t : List ℕ) (i : ℕ) → bit i (groups_at t) ≡ 0 → start_at t i ≡ none
no-start t i z = start-off t i (λ one. omega (arith, one, z))

pub record Walked (t : List ℕ) (left : ℕ) (Told : ℕ → Type 0) : Type 0 where
  pub n : ℕ
  pub rest : Left (groups_at t) left n
  pub told : Told n

pub walked_none : {t : List ℕ} {left : ℕ} {Told : ℕ → Type 0} → left ≡ groups_at t → Told 0 → Walked t left Told
walked_none {t} e told = record { n = 0; rest = subst (λ (x : ℕ). Left (groups_at t) x 0) (sym e) (left-all (groups_at t)); told = told }

module _ {t : List ℕ} {left : ℕ} {Told : ℕ → Type 0} (w : Walked t left Told) where
  -- no group is left
  pub no_more : left ≡ 0 → (i : ℕ) → w.n ≤ i → i < 64 → start_at t i ≡ none
  no_more z i x y = no-start t i (none_left w.rest z i x)

  -- the next group
  module _ {k left' : ℕ} (b : Lowest left k left') where
    pub group-bounds : Solid t → (16 ≤ k) × (k ≤ 31)
    group-bounds s = s.groups k (next-present w.rest b)

    pub group-start : {x : ℕ} → x ≡ word_at t (start_word k) → start_at t k ≡ some x
    group-start e = start-on t k (next-present w.rest b) ∙ ap some (sym e)

    pub group-on : w.n ≤ k
    group-on = next-on w.rest b

    pub none_between : (i : ℕ) → w.n ≤ i → i < k → start_at t i ≡ none
    none_between i x y = no-start t i (no-bit-between w.rest b i x y)

    pub walked_on : {Told' : ℕ → Type 0} → Told' (k + 1) → Walked t left' Told'
    walked_on told = record { n = k + 1; rest = left-after w.rest b; told = told }
