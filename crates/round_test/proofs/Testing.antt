-- The test of a shared lane: the lane is good exactly if its trains' numbers make the tally of its round. Assumes nothing.
use Prim.Native.Nat.{ℕ, zero, suc, ◌%◌, ◌≤◌, ◌<◌}
use native.Mathlib.Omega.{arith}
use native.Mathlib.Decide.{dec_lt}
use mathlib.Core.Path.{◌≡◌, refl, sym, ap, subst, ◌∙◌}
use mathlib.Core.Bool.{Bool, true, false}
use mathlib.Core.List.{[], ◌∷◌}
use lib.Dec.{eqb}
use lib.ListN.{length}
use borrow.Author.Tests.{eqb-true, eqb-false}
use Rattle.units.specs.Plain.{times}
use Rattle.turns.specs.Turns.{head_of, deficit_of, place_in_train, fours, named_of, order_of, round_of, turn_of, Ordered}
use Rattle.turns.proofs.Round.{length-fours, round-cons}
use Rattle.round_test.specs.Shared.{LengthsFit, TrainFine, below, held_below, holding, covering, SoundTrain, Tallied, SharedGood}
use Rattle.round_test.proofs.Sums.{one_same, one-other, le_below, named-all, exact, no_other}
use Rattle.round_test.proofs.Fill.{filled, filled-times, filled-turn, filled_none}
use Rattle.round_test.proofs.Lane.{all-good, good-all, named_once, named-known, good-held}

-- ---- one train

module _ (L t length : ℕ) (some : 1 ≤ length) where
  fine-holding : (n : ℕ) (turn : Bool) → n ≤ 1 → TrainFine L n turn t length → n ≡ holding t
  unfolding TrainFine
  fine-holding zero turn h f = omega (arith, f)
  fine-holding (suc n) true h f = omega (arith, h, f.0)
  fine-holding (suc n) false h f = omega (arith, h, f.0)

  fine-sound : (n : ℕ) (turn : Bool) → TrainFine L n turn t length → SoundTrain L t length
  unfolding TrainFine
  fine-sound zero turn f = (λ p. absurd (omega (arith, p, f)), λ p. absurd (omega (arith, p, f)))
  fine-sound (suc n) true f = (λ p. (f.0, f.1), λ p. f.3)
  fine-sound (suc n) false f = (λ p. (f.0, f.1), λ p. absurd (omega (arith, p, f.2)))

  fine-covers : (n : ℕ) → 0 < n → TrainFine L n true t length → covering t length ≡ 1
  unfolding TrainFine
  fine-covers zero h f = absurd (omega arith)
  fine-covers (suc n) h f = omega (arith, f.2)

  fine-waits : (n : ℕ) → TrainFine L n false t length → covering t length ≡ 0
  unfolding TrainFine
  fine-waits zero f = omega (arith, f)
  fine-waits (suc n) f = omega (arith, f.2)

  -- and back
  fine-made : (turn : Bool) → SoundTrain L t length → 8 ≤ t → (turn ≡ true → covering t length ≡ 1) → (turn ≡ false → covering t length ≡ 0) → TrainFine L 1 turn t length
  unfolding TrainFine
  fine-made true s h c w = let l : length ≤ deficit_of t = omega (arith, c refl) in ((s.0 h).0, (s.0 h).1, l, s.1 l)
  fine-made false s h c w = ((s.0 h).0, (s.0 h).1, omega (arith, w refl))

-- ---- the lane

some_or_none : (P : Type 0) (n : ℕ) → (n ≡ 0 → P) → ((m : ℕ) → n ≡ suc m → P) → P
some_or_none P zero f g = f refl
some_or_none P (suc m) f g = g m refl

module _ (L r count : ℕ) (ts lens : ℕ → ℕ) (o : Ordered r) (some_bytes : (p : ℕ) → 1 ≤ lens p) (fit : LengthsFit L lens) where
  abbrev len : ℕ → ℕ
  len k = lens (place_in_train k (head_of (ts k)))

  abbrev Matches : Type 0
  Matches = Tallied L ts lens (filled r o) (named_of r)

  long : length (round_of r) ≡ named_of r
  unfolding round_of
  long = length-fours (named_of r) (order_of r)

  none_named : named_of r ≡ 0 → (k : ℕ) → times k (round_of r) ≡ 0
  unfolding round_of fours
  none_named z k = ap (λ (n : ℕ). times k (fours n (order_of r))) z

  module _ (a : Matches) where
    least : (k : ℕ) → k < 8 → holding (ts k) ≤ times k (round_of r)
    least k h = omega (arith, a.names k h, filled-times r o k h)

    is : (k : ℕ) → k < 8 → holding (ts k) ≡ times k (round_of r)
    is = exact (round_of r) (λ k. holding (ts k)) least (a.number ∙ sym long)

    fine : (k : ℕ) → k < 8 → TrainFine L (times k (round_of r)) (eqb (turn_of r) k) (ts k) (len k)
    unfolding TrainFine
    fine k h =
        elim (dec_lt (ts k) 8) [
          | yes p ↦ let none : 0 ≡ times k (round_of r) = omega (arith, is k h, p) in subst (λ (n : ℕ). TrainFine L n (eqb (turn_of r) k) (ts k) (len k)) none p
          | no p ↦
              let once : 1 ≡ times k (round_of r) = omega (arith, is k h, p) in
              subst (λ (n : ℕ). TrainFine L n (eqb (turn_of r) k) (ts k) (len k)) once
              (some_or_none (TrainFine L 1 (eqb (turn_of r) k) (ts k) (len k)) (named_of r)
              (λ z. absurd (omega (arith, once, none_named z k)))
              (λ m e.
              let turn : covering (ts k) (len k) ≡ times k (turn_of r ∷ []) = a.turn k h ∙ ap (λ (x : ℕ). times k (x ∷ [])) (filled-turn r o m e) in
              fine-made L (ts k) (len k) (some_bytes (place_in_train k (head_of (ts k)))) (eqb (turn_of r) k) (a.each k h) (omega (arith, p))
              (λ q. turn ∙ omega (arith, one_same (turn_of r) k (eqb-true (turn_of r) k q)))
              (λ q. turn ∙ omega (arith, one-other (turn_of r) k (eqb-false (turn_of r) k q)))))
        ]

    pub tallied-good : held_below ts 8 ≡ count → SharedGood L ts lens r count
    tallied-good =
        all-good L r count ts lens o some_bytes fit fine (λ k h. omega (arith, is k h))
        (no_other (round_of r) (λ k. holding (ts k)) least (a.number ∙ sym long))

  module _ (g : SharedGood L ts lens r count) where
    each : (k : ℕ) → k < 8 → TrainFine L (times k (round_of r)) (eqb (turn_of r) k) (ts k) (len k)
    each = good-all L r count ts lens o some_bytes fit g

    once : (k : ℕ) → times k (round_of r) ≤ 1
    once = named_once L r count ts lens o some_bytes fit g

    held_to : (k : ℕ) → k < 8 → times k (round_of r) ≡ holding (ts k)
    held_to k h = fine-holding L (ts k) (len k) (some_bytes (place_in_train k (head_of (ts k)))) (times k (round_of r)) (eqb (turn_of r) k) (once k) (each k h)

    number : below (λ k. holding (ts k)) 8 ≡ named_of r
    number =
        omega (
          arith,
          le_below (λ k. holding (ts k)) (λ k. times k (round_of r)) 8 (λ k h. omega (arith, held_to k h)),
          le_below (λ k. times k (round_of r)) (λ k. holding (ts k)) 8 (λ k h. omega (arith, held_to k h)),
        )
        ∙ named-all (round_of r) (named-known L r count ts lens o some_bytes fit g)
        ∙ long

    in_turn : (m : ℕ) → named_of r ≡ suc m → (k : ℕ) → turn_of r ≡ k → 0 < times k (round_of r)
    in_turn m e k q = rw (round-cons r m o e) (omega (arith, one_same (turn_of r) k q))

    turn : (k : ℕ) → k < 8 → covering (ts k) (len k) ≡ times k (filled r o % 16 ∷ [])
    unfolding TrainFine
    turn k h =
        some_or_none (covering (ts k) (len k) ≡ times k (filled r o % 16 ∷ [])) (named_of r)
        (λ z.
        let none : ts k < 8 = omega (arith, held_to k h, none_named z k) in
        omega (arith, none, some_bytes (place_in_train k (head_of (ts k))), ap (λ (x : ℕ). times k (x ∷ [])) (filled_none r o z), one-other 15 k (λ e. omega (arith, e))))
        (λ m e. by m e (eqb (turn_of r) k) refl ∙ ap (λ (x : ℕ). times k (x ∷ [])) (sym (filled-turn r o m e)))
      where
        by : (m : ℕ) → named_of r ≡ suc m → (b : Bool) → eqb (turn_of r) k ≡ b → covering (ts k) (len k) ≡ times k (turn_of r ∷ [])
        by m e true q =
            let is = eqb-true (turn_of r) k q in
            fine-covers L (ts k) (len k) (some_bytes (place_in_train k (head_of (ts k)))) (times k (round_of r)) (in_turn m e k is)
            (subst (λ (b : Bool). TrainFine L (times k (round_of r)) b (ts k) (len k)) q (each k h))
            ∙ omega (arith, one_same (turn_of r) k is)
        by m e false q =
            fine-waits L (ts k) (len k) (some_bytes (place_in_train k (head_of (ts k)))) (times k (round_of r))
            (subst (λ (b : Bool). TrainFine L (times k (round_of r)) b (ts k) (len k)) q (each k h))
            ∙ omega (arith, one-other (turn_of r) k (eqb-false (turn_of r) k q))

    pub good-tallied : Matches
    good-tallied =
        record {
          each = λ k h. fine-sound L (ts k) (len k) (some_bytes (place_in_train k (head_of (ts k)))) (times k (round_of r)) (eqb (turn_of r) k) (each k h);
          names = λ k h. omega (arith, held_to k h, once k, filled-times r o k h);
          number = number;
          turn = turn;
        }

    pub good-count : held_below ts 8 ≡ count
    good-count = good-held L r count ts lens o some_bytes fit g
