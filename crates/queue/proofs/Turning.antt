-- What `turn` reads, and its stores. Assumes nothing.
use mathlib.Core.Path.{◌≡◌, sym, ap, subst, ◌∙◌}
use mathlib.Core.Bool.{true, false}
use Prim.Native.Nat.{ℕ, ◌+◌, ◌*◌, ◌^◌, ◌≤◌, ◌<◌}
use mathlib.Core.List.{List}
use native.Mathlib.Omega.{arith}
use lib.ListN.{length, set}
use Rattle.turns.specs.Turns as turns
use Rattle.turns.specs.Turns.{head_of, count_of, deficit_of, named_of, turn_of, Ordered, NamesTrains, Light, HandsOutTurn}
use Rattle.turns.specs.declared.Change.{Change}
use Rattle.turns.proofs.Good.{good-known, good-light, turn-known, turn-count, turn-covers}
use Rattle.table.specs.Layout.{CELLS, Now, cells, place_in_lane, round_word, round_at, entry_at, train_number, put_train}
use Rattle.table.specs.Means.{rec_at, shared_at}
use Rattle.table.specs.declared.Entry.{Entry}
use Rattle.table.proofs.Stores.{length-cells}
use Rattle.table.proofs.Untouched.{outside-train, rows-train}
use Rattle.queue.specs.Queue.{QueueMoved, Chosen, Turned}
use Rattle.queue.proofs.Trains.{both-outside, both-rows, both-round, both-place}
use Rattle.queue.proofs.Handed.{handed, handed-shared, begins-small, begun-place, begun-round, begun-shared}
use Rattle.queue.proofs.Moves.{moved-now, moved_then}

-- ---- what `turn` reads

module _ (w : List ℕ) (k : ℕ) where
  pub hands-of : (n next : ℕ) (c : Change) (r m : ℕ) → r ≡ round_at w k → m ≡ train_number w k (turn_of r) → HandsOutTurn m r n next c → HandsOutTurn (train_number w k (turn_of (round_at w k))) (round_at w k) n next c
  hands-of n next c r m er em h = subst (λ (y : ℕ). HandsOutTurn (train_number w k (turn_of y)) y n next c) er (subst (λ (y : ℕ). HandsOutTurn y r n next c) em h)

  pub next_of : (r m : ℕ) (e : Entry) (p : ℕ) → r ≡ round_at w k → m ≡ train_number w k (turn_of r) → e ≡ entry_at w (place_in_lane k p) → p ≡ turns.place_in_train (turn_of r) (head_of m + 1)
      → (rec_at w k (turns.place_in_train (turn_of (round_at w k)) (head_of (train_number w k (turn_of (round_at w k))) + 1))).len ≡ e.length.0
  unfolding rec_at
  next_of r m e p er em ee ep =
      sym (ap (λ (x : Entry). x.length.0) (ee ∙ ap (λ (y : ℕ). entry_at w (place_in_lane k y)) (ep ∙ ap (λ (y : ℕ). turns.place_in_train (turn_of r) (head_of y + 1)) em ∙ ap (λ (y : ℕ). turns.place_in_train (turn_of y) (head_of (train_number w k (turn_of y)) + 1)) er)))

  pub hand-ready : (L n r m : ℕ) → Chosen w k L n → L ≤ 1500 → r ≡ round_at w k → m ≡ train_number w k (turn_of r)
      → Light m × (0 < count_of m) × (n ≤ deficit_of m) × Ordered r × NamesTrains r × (0 < named_of r)
  unfolding shared_at
  hand-ready L n r m ch short er em =
      let at = rec_at w k in
      let ts = train_number w k in
      let R = round_at w k in
      let g = ch.good in
      let m-is : m ≡ ts (turn_of R) = em ∙ ap (λ (y : ℕ). ts (turn_of y)) er in
      let below = turn-known L R at ts g ch.ordered ch.named in
      let covers : n ≤ deficit_of (ts (turn_of R)) = omega (arith, ch.length, turn-covers L R at ts g ch.ordered ch.named) in
      (subst Light (sym m-is) (good-light L R at ts g short (turn_of R) below), subst (λ (y : ℕ). 0 < count_of y) (sym m-is) (turn-count L R at ts g ch.ordered ch.named), subst (λ (y : ℕ). n ≤ deficit_of y) (sym m-is) covers, subst Ordered (sym er) ch.ordered, subst NamesTrains (sym er) (good-known L R at ts g), subst (λ (y : ℕ). 0 < named_of y) (sym er) ch.named)

pub both-now : (t t₁ : List ℕ) (k r n v : ℕ) → r ≡ round_at (cells t) k → Now t t₁ (set (put_train (cells t) k (turn_of r) n) (round_word k) v) → Now t t₁ (set (put_train (cells t) k (turn_of (round_at (cells t) k)) n) (round_word k) v)
both-now t t₁ k r n v e a = subst (λ (y : ℕ). Now t t₁ (set (put_train (cells t) k (turn_of y) n) (round_word k) v)) e a

-- ---- the stores of `turn`

module _ (t t₁ : List ℕ) (k L n next : ℕ) (c : Change) (hk : k < 64) (short : L ≤ 1500) (ch : Chosen (cells t) k L n)
    (next-length : (rec_at (cells t) k (turns.place_in_train (turn_of (round_at (cells t) k)) (head_of (train_number (cells t) k (turn_of (round_at (cells t) k))) + 1))).len ≡ next)
    (hands : HandsOutTurn (train_number (cells t) k (turn_of (round_at (cells t) k))) (round_at (cells t) k) n next c) where
  abbrev w : List ℕ
  w = cells t

  abbrev size : length w ≡ CELLS
  size = length-cells t

  pub turn_below : turn_of (round_at w k) < 8
  unfolding shared_at
  turn_below = turn-known L (round_at w k) (rec_at w k) (train_number w k) ch.good ch.ordered ch.named

  pub lights : (i : ℕ) → i < 8 → Light (train_number w k i)
  unfolding shared_at
  lights = good-light L (round_at w k) (rec_at w k) (train_number w k) ch.good short

  abbrev u : List ℕ
  u = handed w k L n next c hk size short turn_below lights ch.length next-length hands

  moved-both : Now t t₁ u → QueueMoved t t₁ k
  moved-both a = moved-now t t₁ u k a (both-outside w k (turn_of (round_at w k)) c.train c.round hk turn_below size (omega (arith, hands.small))) (both-rows w k (turn_of (round_at w k)) c.train c.round hk turn_below size (omega (arith, hands.small)))

  pub turned_same : Now t t₁ u → c.begins ≡ false → Turned t t₁ k L
  turned_same a q =
      record {
        moved = moved-both a;
        places = λ i. ap (λ (x : List ℕ). entry_at x (place_in_lane k i)) a.words ∙ both-place w k (turn_of (round_at w k)) c.train c.round hk turn_below size (omega (arith, hands.small)) i;
        shared = ap (λ (x : List ℕ). shared_at x k) a.words ∙ handed-shared w k L n next c hk size short turn_below lights ch.length next-length hands q;
        ordered = rw (a.words, both-round w k (turn_of (round_at w k)) c.train c.round hk turn_below size (omega (arith, hands.small))) hands.ordered;
      }

  module _ (a : Now t t₁ u) (i m : ℕ) (begins : c.begins ≡ true) (ei : i ≡ turn_of c.round) (em : m ≡ train_number (cells t₁) k i) where
    number : m ≡ train_number u k i
    number = em ∙ ap (λ (x : List ℕ). train_number x k i) a.words

    pub turned-fits : m + 128 * L < 2 ^ 32
    turned-fits = begins-small w k L n next c hk size short turn_below lights ch.length next-length hands i m (omega (arith, hands.turn begins)) number

    pub turned-begun : (t₂ : List ℕ) → Now t₁ t₂ (put_train (cells t₁) k i (m + 128 * L)) → Turned t t₂ k L
    turned-begun t₂ b =
        let words : cells t₂ ≡ put_train u k i (m + 128 * L) = b.words ∙ ap (λ (x : List ℕ). put_train x k i (m + 128 * L)) a.words in
        record {
          moved = moved_then (moved-both a) (moved-now t₁ t₂ _ k b (outside-train (cells t₁) k i (m + 128 * L) (omega (arith, hands.turn begins))) (rows-train (cells t₁) k i (m + 128 * L)));
          places = λ x. ap (λ (y : List ℕ). entry_at y (place_in_lane k x)) words ∙ begun-place w k L n next c hk size short turn_below lights ch.length next-length hands i m begins ei number x;
          shared = ap (λ (x : List ℕ). shared_at x k) words ∙ begun-shared w k L n next c hk size short turn_below lights ch.length next-length hands i m begins ei number;
          ordered = rw (words, begun-round w k L n next c hk size short turn_below lights ch.length next-length hands i m begins ei number) hands.ordered;
        }
