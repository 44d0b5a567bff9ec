-- The numbers of a lane's trains once its first record is handed out. Assumes nothing.
use mathlib.Core.Path.{◌≡◌, refl, sym, ap, subst, ◌∙◌}
use mathlib.Core.Bool.{Bool, true, false}
use mathlib.Core.Logic.{⊎_elim}
use Prim.Native.Nat.{ℕ, ◌+◌, ◌*◌, ◌^◌, ◌≤◌, ◌<◌}
use mathlib.Core.List.{List}
use native.Mathlib.Omega.{arith}
use lib.ListN.{length}
use Rattle.words.proofs.Runs.{eq-or-ne}
use Rattle.rounds.specs.Round.{shared_hand_out}
use Rattle.turns.specs.Turns as turns
use Rattle.turns.specs.Turns.{head_of, turn_of, shared_of, with, turn_begun, Light, HandsOutTurn}
use Rattle.turns.specs.declared.Change.{Change}
use Rattle.turns.proofs.Train.{with-same, with-other, shared_same}
use Rattle.table.specs.Layout.{CELLS, round_at, place_in_lane, entry_at, train_number, put_train}
use Rattle.table.specs.Means.{rec_of, rec_at, shared_at}
use Rattle.queue.proofs.Trains.{light-small, numbers-put, places-train, round-train, both, both-size, both-numbers, both-round, both-place}

module _ (w : List ℕ) (k L n next : ℕ) (c : Change) (hk : k < 64) (size : length w ≡ CELLS) (short : L ≤ 1500)
    (turn : turn_of (round_at w k) < 8) (light : (i : ℕ) → i < 8 → Light (train_number w k i))
    (first-length : (rec_at w k (turns.place_in_train (turn_of (round_at w k)) (head_of (train_number w k (turn_of (round_at w k)))))).len ≡ n)
    (next-length : (rec_at w k (turns.place_in_train (turn_of (round_at w k)) (head_of (train_number w k (turn_of (round_at w k))) + 1))).len ≡ next)
    (hands : HandsOutTurn (train_number w k (turn_of (round_at w k))) (round_at w k) n next c) where
  abbrev j : ℕ
  j = turn_of (round_at w k)

  abbrev ts : ℕ → ℕ
  ts = with (train_number w k) j c.train

  abbrev pub handed : List ℕ
  handed = both w k j c.train c.round hk turn size (omega (arith, hands.small))

  handed-size : length handed ≡ CELLS
  handed-size = both-size w k j c.train c.round hk turn size (omega (arith, hands.small))

  handed-numbers : (i : ℕ) → i < 8 → train_number handed k i ≡ ts i
  handed-numbers = both-numbers w k j c.train c.round hk turn size (omega (arith, hands.small))

  handed-round : round_at handed k ≡ c.round
  handed-round = both-round w k j c.train c.round hk turn size (omega (arith, hands.small))

  ts-small : (i : ℕ) → i < 8 → ts i < 2 ^ 20
  ts-small i hi =
      ⊎_elim
      (λ (e : i ≡ j). subst (λ (x : ℕ). ts x < 2 ^ 20) (sym e) (omega (arith, hands.small, with-same (train_number w k) j c.train)))
      (λ (ne : i ≡ j → ⊥). omega (arith, with-other (train_number w k) j c.train i ne, light-small (train_number w k i) (light i hi)))
      (eq-or-ne i j)

  -- a turn that begins finds a small number
  pub begins-small : (i m : ℕ) → i < 8 → m ≡ train_number handed k i → m + 128 * L < 2 ^ 32
  begins-small i m hi e = omega (arith, handed-numbers i hi, ts-small i hi)

  same-records : (u : List ℕ) → ((i : ℕ) → entry_at u (place_in_lane k i) ≡ entry_at w (place_in_lane k i)) → (q : ℕ) → q < 64 → rec_at u k q ≡ rec_at w k q
  unfolding rec_at
  same-records u h q b = ap rec_of (h q)

  -- words with these numbers are those of the lane after it
  left : (b : Bool) → c.begins ≡ b → (u : List ℕ) → ((i : ℕ) → entry_at u (place_in_lane k i) ≡ entry_at w (place_in_lane k i)) → round_at u k ≡ c.round
      → ((i : ℕ) → i < 8 → train_number u k i ≡ turn_begun L b ts c.round i) → shared_at u k ≡ shared_hand_out L (shared_at w k)
  unfolding shared_at
  left b q u places round numbers =
      shared_same (rec_at u k) (rec_at w k) (train_number u k) (turn_begun L b ts c.round) (round_at u k) (same-records u places) numbers
      ∙ ap (shared_of (rec_at w k) (turn_begun L b ts c.round)) round
      ∙ ap (λ (x : Bool). shared_of (rec_at w k) (turn_begun L x ts c.round) c.round) (sym q)
      ∙ hands.lane L (rec_at w k) (train_number w k) refl first-length next-length

  pub handed-shared : c.begins ≡ false → shared_at handed k ≡ shared_hand_out L (shared_at w k)
  unfolding turn_begun
  handed-shared q = left false q handed (both-place w k j c.train c.round hk turn size (omega (arith, hands.small))) handed-round handed-numbers

  module _ (i m : ℕ) (begins : c.begins ≡ true) (ei : i ≡ turn_of c.round) (em : m ≡ train_number handed k i) where
    hi : i < 8
    hi = omega (arith, hands.turn begins)

    abbrev pub begun-words : List ℕ
    begun-words = put_train handed k i (m + 128 * L)

    number_is : m + 128 * L ≡ ts (turn_of c.round) + 128 * L
    number_is = ap (λ (x : ℕ). x + 128 * L) (em ∙ handed-numbers i hi ∙ ap ts ei)

    begun-numbers : (x : ℕ) → x < 8 → train_number begun-words k x ≡ turn_begun L true ts c.round x
    unfolding turn_begun
    begun-numbers x hx =
        numbers-put handed k hk handed-size i (m + 128 * L) hi (begins-small i m hi em) ts handed-numbers x hx
        ∙ ap (λ (y : ℕ). with ts y (m + 128 * L) x) ei
        ∙ ap (λ (y : ℕ). with ts (turn_of c.round) y x) number_is

    pub begun-place : (x : ℕ) → entry_at begun-words (place_in_lane k x) ≡ entry_at w (place_in_lane k x)
    begun-place x = places-train handed k hk handed-size i (m + 128 * L) x hi ∙ both-place w k j c.train c.round hk turn size (omega (arith, hands.small)) x

    pub begun-round : round_at begun-words k ≡ c.round
    begun-round = round-train handed k hk handed-size i (m + 128 * L) hi ∙ handed-round

    pub begun-shared : shared_at begun-words k ≡ shared_hand_out L (shared_at w k)
    begun-shared = left true begins begun-words begun-place begun-round begun-numbers
