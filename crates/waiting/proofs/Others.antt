-- What the rules know of two trains a and b of one lane while a holds records: what is sent of b is no more than a figure of what waits tells, and that has a range
-- (rounds/proofs/Others.antt). Assumes nothing.
use Prim.Native.Nat.{ℕ, zero, suc, ◌+◌, ◌*◌, ◌≤◌, ◌<◌}
use native.Mathlib.Omega.{arith}
use mathlib.Core.Path.{◌≡◌, refl, sym, ap, ◌∙◌}
use mathlib.Core.Bool.{true, false, false≢true}
use mathlib.Core.List.{List, [], ◌∷◌}
use mathlib.Core.Option.{Option, some}
use lib.Dec.{eqb}
use borrow.Author.Tests.{ne_eqb}
use Rattle.rounds.specs.Round as round
use Rattle.rounds.specs.Round.{TrainItem, queued?}
use Rattle.rounds.specs.Runs.{item_of_train, bytes}
use Rattle.rounds.proofs.Figure as figure
use Rattle.rounds.proofs.Figure.{worth, of_train-bytes}
use Rattle.rounds.proofs.Under.{hand-under, put_under}
use Rattle.rounds.proofs.Others.{range-any}
use Rattle.rounds.specs.Good.{Lengths}
use Rattle.waiting.specs.Waiting.{Rec, bare, Waiting, plain, shared, is_shared, first, enter, hand_out, queue_of, GoodWaiting}
use Rattle.waiting.proofs.Laws.{moved, item-some}
use Rattle.waiting.proofs.Sharing.{first-train}

unfoldable pub up_of : ℕ → ℕ → ℕ → Waiting → ℕ
up_of L a b (plain q) = 0
up_of L a b (shared s) = figure.up L a b s

unfoldable pub down_of : ℕ → ℕ → ℕ → Waiting → ℕ
down_of L a b (plain q) = 0
down_of L a b (shared s) = figure.down L a b s

-- the train holds a record
abbrev pub Has : ℕ → Waiting → Type 0
Has a w = queued? (queue_of w a) ≡ true

-- x bytes of a and y of b are sent as w becomes u
abbrev pub Under : ℕ → ℕ → ℕ → Waiting → Waiting → ℕ → ℕ → Type 0
Under L a b w u x y = y + down_of L a b u + up_of L a b w ≤ x + up_of L a b u + down_of L a b w

-- in a lane that is not shared that is train 0
has-zero : (a : ℕ) (q : List round.BareRec) → Has a (plain q) → a ≡ 0
unfolding queue_of
has-zero zero q h = refl
has-zero (suc a) q h = absurd (false≢true h)

module _ (L a b : ℕ) (apart : a ≡ b → ⊥) where
  pub under-enter : (w : Waiting) (r : Rec) → GoodWaiting L w → Has a w → Under L a b w (enter L w r) 0 0
  unfolding up_of down_of enter queue_of GoodWaiting
  under-enter (plain q) r g h = omega arith
  under-enter (shared s) r g h = put_under L a b apart s r.train (bare r) g h

  pub under-hand : (w : Waiting) (x : Rec) → GoodWaiting L w → first w ≡ some x → Has a w → Has a (hand_out L w)
      → Under L a b w (hand_out L w) (worth (eqb x.train a) x.len) (worth (eqb x.train b) x.len)
  unfolding up_of down_of hand_out queue_of GoodWaiting is_shared item_of_train
  under-hand (plain q) x g e h h' =
      let none_of : worth (eqb x.train b) x.len ≡ 0 = simp (ne_eqb x.train b (λ p. apart (has-zero a q h ∙ sym (first-train (plain q) x refl e) ∙ p))) in
      omega (arith, none_of)
  under-hand (shared s) x g e h h' =
      let i = item-some (round.shared_first s) x e in
      omega (
        arith,
        hand-under L a b apart s g h h',
        ap (λ (o : Option TrainItem). bytes (item_of_train a o)) i ∙ of-bytes a x,
        ap (λ (o : Option TrainItem). bytes (item_of_train b o)) i ∙ of-bytes b x,
      )
    where
      of-bytes : (t : ℕ) (x : Rec) → bytes (item_of_train t (some (moved x))) ≡ worth (eqb x.train t) x.len
      of-bytes t x = of_train-bytes t x.train (bare x)

  pub under-range : (w : Waiting) → GoodWaiting L w → Has a w → (down_of L a b w < up_of L a b w + L) × (up_of L a b w < down_of L a b w + 2 * L)
  unfolding up_of down_of queue_of GoodWaiting
  under-range (plain q) g h = let l = some-length a q h g.1 in (omega arith, omega arith)
    where
      some-length : (a : ℕ) (q : List round.BareRec) → Has a (plain q) → Lengths L q → 1 ≤ L
      some-length a [] h l = absurd (false≢true (sym (none-there a) ∙ h))
        where
          none-there : (a : ℕ) → queued? (queue_of (plain []) a) ≡ false
          none-there zero = refl
          none-there (suc a) = refl
      some-length a (r ∷ rs) h l = omega (arith, l.0, l.1)
  under-range (shared s) g h = range-any L a b apart s g h
