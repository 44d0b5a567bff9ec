-- The end of a slice, lent to a call and back. Assumes nothing.
--
--   tail_all       what is lent of it from a on is all from a on
--   lent-tail      back again, the bytes from a on are those that the call left; lent-front: the bytes before a are as they were
--   bytes-before   bytes with the same front have the same bytes there; word-before: and the same words
use Prim.Native.Nat.{ℕ, ◌+◌, ◌-◌, ◌*◌, ◌≤◌, ◌<◌}
use mathlib.Core.Path.{◌≡◌, sym, ap, ◌∙◌}
use mathlib.Core.List.{List, [], ◌++◌, append-nil}
use native.Mathlib.Omega.{arith}
use lib.ListN.{length, take, drop, get_or, length-drop, drop_of_length-le}
use lib.Seq.{take_all, drop_at, length-take-le, get_or-take}
use borrow.Rule.Slice.PartMut.{put_mid, take_put}
use Rattle.words.specs.Words.{le_val, word_at}
use Rattle.words.proofs.Runs.{reads-ext}

module _ (a : ℕ) (xs : List ℕ) where
  pub tail_all : take (length xs - a) (drop a xs) ≡ drop a xs
  tail_all = take_all (length xs - a) (drop a xs) (omega (arith, length-drop a xs))

  none-behind : drop (length xs - a) (drop a xs) ≡ []
  none-behind = drop_of_length-le (drop a xs) {i = length xs - a} (omega (arith, length-drop a xs))

  module _ (ys : List ℕ) (h : a ≤ length xs) where
    pub lent-tail : drop a (put_mid a (length xs - a) xs ys) ≡ ys
    lent-tail = drop_at (take a xs) _ a (length-take-le a xs h) ∙ ap (λ (l : List ℕ). ys ++ l) none-behind ∙ append-nil ys

    pub lent-front : take a (put_mid a (length xs - a) xs ys) ≡ take a xs
    lent-front = take_put a (length xs - a) xs ys h

module _ (a : ℕ) (t u : List ℕ) (same : take a u ≡ take a t) where
  pub bytes-before : (i : ℕ) → i < a → get_or u i 0 ≡ get_or t i 0
  bytes-before i h = sym (get_or-take a u i 0 h) ∙ ap (λ (l : List ℕ). get_or l i 0) same ∙ get_or-take a t i 0 h

  pub word-before : (j : ℕ) → j * 8 + 8 ≤ a → word_at u j ≡ word_at t j
  unfolding word_at
  word-before j h = ap le_val (reads-ext t u (j * 8) 8 (λ i p q. bytes-before i (omega arith)))
