-- A record more for a train. Assumes nothing.
use Prim.Native.Nat.{ℕ, zero, suc, ◌+◌, ◌-◌, ◌*◌, ◌%◌, ◌^◌, ◌≤◌, ◌<◌}
use native.Mathlib.Omega.{arith}
use mathlib.Core.Path.{◌≡◌, refl, sym, ap, ◌∙◌}
use mathlib.Core.Bool.{Bool, true, false}
use mathlib.Core.List.{List, [], ◌∷◌, ◌++◌}
use lib.ListN.{get_or, set}
use lib.Seq.{set-set, get_or-set_same}
use Rattle.std.specs.Prelude.{if◌then◌else◌}
use Rattle.rounds.specs.Round.{BareRec, Train, Shared, no_train, queued?, train_holds, train_at, raised, added, join, shared_put, begin}
use Rattle.turns.specs.Turns.{head_of, count_of, place_in_train, train_ring, train_of, trains_of, shared_of, fours, named_of, order_of, round_of, Ordered, Light, with, Puts}
use Rattle.turns.proofs.Round.{round-made, ordered-made, ordered-joined, round-joined}
use Rattle.turns.proofs.Train.{parts, ring-none, ring-cons, train-more, train-raised, trains-with, train-is, length-trains}

-- a count that is not 0
positive : ℕ → Bool
positive zero = false
positive (suc c) = true

some-ring : (at : ℕ → BareRec) (k h c : ℕ) → queued? (train_ring at k h c) ≡ positive c
unfolding positive
some-ring at k h zero = ap queued? (ring-none at k h)
some-ring at k h (suc c) = ap queued? (ring-cons at k h c)

module _ (L t r k : ℕ) (hk : k < 8) (light : Light t) (room : count_of t < 8) (o : Ordered r) (short : L ≤ 1500) where
  pub more-small : t + 8 < 2 ^ 20
  more-small = omega (arith, parts t, light.1)

  module _ (at : ℕ → BareRec) (ts : ℕ → ℕ) (is : ts k ≡ t) where
    abbrev new : BareRec
    new = at (place_in_train k (head_of t + count_of t))

    abbrev lane : Shared
    lane = shared_of at ts r

    holds-is : train_holds lane k ≡ positive (count_of t)
    unfolding shared_of train_of
    holds-is = ap (λ (x : Train). queued? x.queue) (train-is ts at k hk) ∙ rw is (some-ring at k (head_of t) (count_of t))

    added_is : set (trains_of at ts) k (added (train_at lane k) new) ≡ trains_of at (with ts k (t + 8))
    unfolding shared_of
    added_is =
        ap (λ (x : Train). set (trains_of at ts) k (added x new)) (train-is ts at k hk ∙ ap (train_of at k) is)
        ∙ sym (trains-with ts at k (t + 8) hk ∙ ap (set (trains_of at ts) k) (train-more at k t room))

    put-by : (b : Bool) → train_holds lane k ≡ b
        → shared_put L lane k new ≡ (if b then record { trains = trains_of at (with ts k (t + 8)); round = round_of r } else join L (trains_of at (with ts k (t + 8))) (round_of r) k)
    unfolding shared_put shared_of
    put-by b e = rw (e, added_is)

    -- the train held records: nothing else changes
    more-lane : 0 < count_of t → shared_of at (with ts k (t + 8)) r ≡ shared_put L lane k new
    unfolding shared_of positive
    more-lane q = sym (put-by true (holds-is ∙ ap positive is-suc))
      where
        is-suc : count_of t ≡ suc (count_of t - 1)
        is-suc = omega arith

    idle : count_of t ≡ 0 → train_holds lane k ≡ false
    unfolding positive
    idle z = holds-is ∙ ap positive z

    -- the lane was empty: the train's turn begins
    first_lane : count_of t ≡ 0 → named_of r ≡ 0 → shared_of at (with ts k (t + 8 + 128 * L)) (2 ^ 32 + k) ≡ shared_put L lane k new
    unfolding shared_of join begin fours round_of
    first_lane z e =
        let one : k % 16 ≡ k = omega arith in
        let number : 2 ^ 32 + k ≡ k + 2 ^ 32 * 1 = omega arith in
        let round_is : round_of (2 ^ 32 + k) ≡ k ∷ [] = ap round_of number ∙ round-made k 1 (omega arith) (omega arith) ∙ ap (λ (i : ℕ). i ∷ []) one in
        let empty-is : round_of r ≡ [] = ap (λ (n : ℕ). fours n (order_of r)) e in
        let trains-are : trains_of at (with ts k (t + 8 + 128 * L)) ≡ set (trains_of at (with ts k (t + 8))) k (raised L (get_or (trains_of at (with ts k (t + 8))) k no_train)) =
        trains-with ts at k (t + 8 + 128 * L) hk
        ∙ ap (set (trains_of at ts) k) (train-raised at k (t + 8) L)
        ∙ sym (ap (λ (x : List Train). set x k (raised L (get_or x k no_train))) (trains-with ts at k (t + 8) hk)
        ∙ ap (λ (x : Train). set (set (trains_of at ts) k (train_of at k (t + 8))) k (raised L x)) (get_or-set_same (trains_of at ts) k (train_of at k (t + 8)) no_train (omega (arith, length-trains ts at)))
        ∙ set-set (trains_of at ts) k (train_of at k (t + 8)) (raised L (train_of at k (t + 8)))) in
        ap (λ (x : List Train). record { trains = x; round = round_of (2 ^ 32 + k) }) trains-are
        ∙ ap (λ (x : List ℕ). record { trains = set (trains_of at (with ts k (t + 8))) k (raised L (get_or (trains_of at (with ts k (t + 8))) k no_train)); round = x }) round_is
        ∙ sym (put-by false (idle z) ∙ ap (λ (x : List ℕ). join L (trains_of at (with ts k (t + 8))) x k) empty-is)

    -- others hold records: the train joins the end of the round
    joins-lane : count_of t ≡ 0 → 0 < named_of r → named_of r < 8 → shared_of at (with ts k (t + 8)) (r + 2 ^ 32 + k * 16 ^ named_of r) ≡ shared_put L lane k new
    unfolding shared_of join fours round_of
    joins-lane z some-named few =
        ap (λ (x : List ℕ). record { trains = trains_of at (with ts k (t + 8)); round = x }) (round-joined r k o few hk)
        ∙ sym (put-by false (idle z) ∙ joined (named_of r) refl)
      where
        joined : (n : ℕ) → named_of r ≡ n → join L (trains_of at (with ts k (t + 8))) (round_of r) k ≡ record { trains = trains_of at (with ts k (t + 8)); round = round_of r ++ (k ∷ []) }
        joined zero e = absurd (omega arith)
        joined (suc n) e = rw e

  -- ---- in the code's own terms

  pub puts-more : 0 < count_of t → Puts L t r k (record { train = t + 8; round = r; begins = false })
  puts-more q = record { lane = λ at ts is. more-lane at ts is q; ordered = o; small = omega (arith, more-small) }

  pub puts_first : count_of t ≡ 0 → named_of r ≡ 0 → Puts L t r k (record { train = t + 8 + 128 * L; round = 2 ^ 32 + k; begins = false })
  puts_first z e =
      let number : 2 ^ 32 + k ≡ k + 2 ^ 32 * 1 = omega arith in
      record { lane = λ at ts is. first_lane at ts is z e; ordered = rw number (ordered-made k 1 (omega arith) (omega arith)); small = omega (arith, more-small) }

  pub puts-joins : (w : ℕ) → w ≡ 16 ^ named_of r → count_of t ≡ 0 → 0 < named_of r → named_of r < 8 → Puts L t r k (record { train = t + 8; round = r + 2 ^ 32 + k * w; begins = false })
  puts-joins w q z some-named few =
      rw q (record { lane = λ at ts is. joins-lane at ts is z some-named few; ordered = ordered-joined r k o few hk; small = omega (arith, more-small) })
