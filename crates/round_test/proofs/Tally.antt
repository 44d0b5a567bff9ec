-- The tally of the trains' numbers, train after train. Assumes nothing.
use Prim.Native.Nat.{ℕ, ◌+◌, ◌*◌, ◌%◌, ◌^◌, ◌≤◌, ◌<◌, min}
use native.Mathlib.Numerals.{add-one}
use native.Mathlib.Omega.{arith}
use mathlib.Core.Path.{◌≡◌, refl, sym, ap, subst, ◌∙◌}
use mathlib.Core.List.{[], ◌∷◌}
use lib.Dec.{eqb}
use lib.Pow.{pow_mono}
use borrow.Author.Count.{below_more}
use Rattle.units.specs.Plain.{times}
use Rattle.units.proofs.Lists.{same_or}
use Rattle.words.specs.Bits.{bit}
use Rattle.turns.specs.Turns.{head_of, deficit_of, place_in_train, fours}
use Rattle.round_test.specs.Shared.{Says, below, HoldsSome, holding, covering, SoundTrain, Wanted, Tallied}
use Rattle.round_test.proofs.Answers.{says-eqb}
use Rattle.round_test.proofs.Sums.{one_same, one-other, bit-power, bit-power-other, bit-low}
use Rattle.round_test.proofs.Marks.{word, below-most, word_small, word-bit, word-is}

-- the bit of the train in turn
turn-bit : (turn k : ℕ) → k < 8 → bit k (2 ^ turn % 256) ≡ times k (turn ∷ [])
turn-bit turn k h =
    bit-low (2 ^ turn) k h
    ∙ same_or turn k
    (λ e. ap (λ (x : ℕ). bit x (2 ^ turn)) (sym e) ∙ bit-power turn ∙ omega (arith, one_same turn k e))
    (λ n. bit-power-other turn k n ∙ omega (arith, one-other turn k n))

module _ (L : ℕ) (ts lens : ℕ → ℕ) where
  abbrev len : ℕ → ℕ
  len k = lens (place_in_train k (head_of (ts k)))

  abbrev h : ℕ → ℕ
  h k = holding (ts k)

  abbrev o : ℕ → ℕ
  o k = covering (ts k) (len k)

  h-most : (k : ℕ) → h k ≤ 1
  h-most k = omega arith

  o-most : (k : ℕ) → o k ≤ 1
  o-most k = omega arith

  pub record Tallying (tally k : ℕ) : Type 0 where
    pub within : k ≤ 8
    pub sound : (i : ℕ) → i < k → SoundTrain L (ts i) (len i)
    pub is : tally ≡ word h k + 256 * below h k + 4096 * word o k

  pub tallying-none : Tallying 0 0
  unfolding below
  tallying-none = record { within = omega arith; sound = λ i l. absurd (omega arith); is = refl }

  module _ (tally k : ℕ) (c : Tallying tally k) (lt : k < 8) where
    pub one-small : 2 ^ k ≤ 128
    one-small = pow_mono {i = k} {j = 7} (omega arith)

    pub small : tally < 2 ^ 21
    small = omega (arith, c.is, word_small h h-most k, word_small o o-most k, below-most h h-most k, one-small)

    more : SoundTrain L (ts k) (len k) → (next : ℕ) → next ≡ tally + h k * 2 ^ k + 256 * h k + 4096 * (o k * 2 ^ k) → Tallying next (k + 1)
    unfolding below
    more s next e =
        record {
          within = omega arith;
          sound = below_more (λ i. SoundTrain L (ts i) (len i)) k c.sound s;
          is = omega (arith, e, c.is) ∙ ap (λ (n : ℕ). word h n + 256 * below h n + 4096 * word o n) (sym (add-one k));
        }

    -- what one train adds, by what it holds and covers
    adds : (x y next : ℕ) → h k ≡ x → o k ≡ y → next ≡ tally + x * 2 ^ k + 256 * x + 4096 * (y * 2 ^ k) → next ≡ tally + h k * 2 ^ k + 256 * h k + 4096 * (o k * 2 ^ k)
    adds x y next p q e = rw (p, q) e

    module _ (train : ℕ) (is : train ≡ ts k) where
      abbrev len_read : ℕ
      len_read = lens (place_in_train k (head_of train))

      same_len : len_read ≡ len k
      same_len = ap (λ (x : ℕ). lens (place_in_train k (head_of x))) is

      pub head-only : train < 8 → 1 ≤ len k → Tallying tally (k + 1)
      head-only s b =
          more (λ p. absurd (omega (arith, is, s)), λ p. absurd (omega (arith, is, s, b))) tally
          (adds 0 0 tally (omega (arith, is, s)) (omega (arith, is, s, b)) (omega arith))

      pub waits : HoldsSome train → (len_read ≤ deficit_of train → ⊥) → Tallying (tally + (2 ^ k + 256)) (k + 1)
      waits b n =
          let d : deficit_of train < len_read = omega (arith, n) in
          more (λ p. subst HoldsSome is b, λ p. absurd (omega (arith, p, d, same_len, is))) (tally + (2 ^ k + 256))
          (adds 1 0 (tally + (2 ^ k + 256)) (omega (arith, is, b.0)) (omega (arith, is, d, same_len)) (omega arith))

      pub covers : HoldsSome train → len_read ≤ deficit_of train → deficit_of train < 2 * L → Tallying (tally + (2 ^ k + 256) + 4096 * 2 ^ k) (k + 1)
      covers b l u =
          more (λ p. subst HoldsSome is b, λ p. omega (arith, u, is)) (tally + (2 ^ k + 256) + 4096 * 2 ^ k)
          (adds 1 1 (tally + (2 ^ k + 256) + 4096 * 2 ^ k) (omega (arith, is, b.0)) (omega (arith, is, l, same_len)) (omega arith))

      module _ (order named : ℕ) where
        pub not-head : (HoldsSome train → ⊥) → 8 ≤ train → Tallied L ts lens order named → ⊥
        not-head n b a = n (subst HoldsSome (sym is) ((a.each k lt).0 (omega (arith, is, b))))

        pub too_much : len_read ≤ deficit_of train → 2 * L ≤ deficit_of train → Tallied L ts lens order named → ⊥
        too_much l u a = omega (arith, (a.each k lt).1 (omega (arith, l, same_len, is)), u, is)

  pub tally-says : (tally k order named wanted : ℕ) → Tallying tally k → 8 ≤ k → named ≤ 8 → Wanted order named wanted → Says (eqb tally wanted) (Tallied L ts lens order named)
  tally-says tally k order named wanted c end few w =
      says-eqb (Tallied L ts lens order named) tally wanted
      (λ e. record { each = λ i l. c.sound i (omega arith); names = names e; number = number e; turn = turn e })
      (λ a. omega (arith, total, w.is, word-is h h-most w.names w.seen.small (λ i l. a.names i l ∙ sym (w.seen.bits i l)), a.number, word-is o o-most (2 ^ (order % 16) % 256) (omega arith) (λ i l. a.turn i l ∙ sym (turn-bit (order % 16) i l))))
    where
      total : tally ≡ word h 8 + 256 * below h 8 + 4096 * word o 8
      total = let eight : k ≡ 8 = omega (arith, c.within) in c.is ∙ ap (λ (n : ℕ). word h n + 256 * below h n + 4096 * word o n) eight

      number : tally ≡ wanted → below h 8 ≡ named
      number e = omega (arith, e, total, w.is, w.seen.small, word_small h h-most 8, below-most h h-most 8)

      named-word : tally ≡ wanted → word h 8 ≡ w.names
      named-word e = omega (arith, e, total, w.is, w.seen.small, word_small h h-most 8, below-most h h-most 8)

      turn-word : tally ≡ wanted → word o 8 ≡ 2 ^ (order % 16) % 256
      turn-word e = omega (arith, e, total, w.is, w.seen.small, word_small h h-most 8, below-most h h-most 8)

      names : tally ≡ wanted → (i : ℕ) → i < 8 → h i ≡ min 1 (times i (fours 8 order))
      names e i l = sym (word-bit h h-most 8 i l) ∙ ap (bit i) (named-word e) ∙ w.seen.bits i l

      turn : tally ≡ wanted → (i : ℕ) → i < 8 → o i ≡ times i (order % 16 ∷ [])
      turn e i l = sym (word-bit o o-most 8 i l) ∙ ap (bit i) (turn-word e) ∙ turn-bit (order % 16) i l
