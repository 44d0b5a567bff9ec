-- What any other train of a shared lane is sent while one holds records throughout: the bytes of that one and three times the lane's longest, less 2. No operation
-- lets the bytes of the other outgrow the figure (`step-under`), and the figure lies between 1 - 2L and L - 1 (`range-any`); so no turns are counted. Assumes nothing.
use Prim.Native.Nat.{ℕ, ◌+◌, ◌<◌, ◌*◌, ◌≤◌}
use native.Mathlib.Omega.{arith}
use mathlib.Core.Path.{◌≡◌, refl, sym, ap, ◌∙◌, subst}
use mathlib.Core.Bool.{Bool, true, false, false≢true}
use mathlib.Core.List.{List, [], ◌∷◌, ◌++◌, append-nil}
use borrow.Author.Tests.{ne_eqb, eqb-true}
use Rattle.units.specs.Plain.{times}
use Rattle.units.proofs.Bools.{if-ind}
use Rattle.rounds.specs.Round.{BareRec, Shared, queued?, train_at, in_turn, train_holds}
use Rattle.rounds.specs.Good.{Deficit, GoodShared, Lengths}
use Rattle.rounds.specs.Runs.{item_of_train, bytes, Op, put_op, take_op, allows, shared_step, sent, shared_after, train_sent, Even, Others}
use Rattle.rounds.proofs.KeepHand.{named-holds}
use Rattle.rounds.proofs.Keep.{step-good, after-good}
use Rattle.rounds.proofs.Figure.{Size, Under, ahead, deficit_of, down, ranged, size, some-length, up}
use Rattle.rounds.proofs.Under.{hand-under, put_under}

pub bytes-append : (xs ys : List BareRec) → bytes (xs ++ ys) ≡ bytes xs + bytes ys
bytes-append [] ys = omega arith
bytes-append (x ∷ xs) ys = omega (arith, bytes-append xs ys)

module _ (L a b : ℕ) (apart : a ≡ b → ⊥) where
  step-under : (s : Shared) (o : Op) → GoodShared L s → train_holds s a ≡ true → train_holds (shared_step L s o) a ≡ true
      → Under L a b s (shared_step L s o) (bytes (item_of_train a (sent s o))) (bytes (item_of_train b (sent s o)))
  unfolding shared_step sent item_of_train
  step-under s (put_op k r) g h h' = if-ind (λ (u : Shared). Under L a b s u 0 0) (allows L s k r) _ _ (λ e. put_under L a b apart s k r g h) (λ e. omega arith)
  step-under s take_op g h h' = hand-under L a b apart s g h h'

  -- ---- the figure's range, also where b holds nothing

  size-any : (turn : Bool) (d : ℕ) (q : List BareRec) → 1 ≤ L → (turn ≡ true → queued? q ≡ true) → Lengths L q → Deficit L turn d q → Size L turn d
  size-any true d q h t l e = size L true d q (t refl) l e
  size-any false d [] h t l e = omega arith
  size-any false d (r ∷ rs) h t l e = size L false d (r ∷ rs) refl l e

  pub range-any : (s : Shared) → GoodShared L s → train_holds s a ≡ true → (down L a b s < up L a b s + L) × (up L a b s < down L a b s + 2 * L)
  unfolding ahead
  range-any s g h =
      ranged L (deficit_of s.trains a) (deficit_of s.trains b) (in_turn a s.round) (in_turn b s.round) (ahead a b s.round)
      (size L (in_turn a s.round) (train_at s a).deficit (train_at s a).queue h (g.each a).lengths (g.each a).deficit)
      (size-any (in_turn b s.round) (train_at s b).deficit (train_at s b).queue (some-length L (train_at s a).queue h (g.each a).lengths)
      (λ t. named-holds (g.each b) (named s.round t)) (g.each b).lengths (g.each b).deficit)
      (turn-a s.round) (turn-b s.round)
    where
      named : (ks : List ℕ) → in_turn b ks ≡ true → 0 < times b ks
      named [] e = absurd (false≢true e)
      named (k ∷ ks) e = simp e (omega arith)

      turn-a : (ks : List ℕ) → in_turn a ks ≡ true → ahead a b ks ≡ true
      turn-a [] e = absurd (false≢true e)
      turn-a (k ∷ ks) e = simp e

      turn-b : (ks : List ℕ) → in_turn b ks ≡ true → ahead a b ks ≡ false
      turn-b [] e = refl
      turn-b (k ∷ ks) e = simp (ne_eqb k a (λ q. apart (sym q ∙ eqb-true k b e)), e)

  run-under : (s : Shared) (os : List Op) → GoodShared L s → ((p q : List Op) → p ++ q ≡ os → train_holds (shared_after L s p) a ≡ true)
      → Under L a b s (shared_after L s os) (bytes (train_sent L a s os)) (bytes (train_sent L b s os))
  unfolding shared_after train_sent
  run-under s [] g h = omega arith
  run-under s (o ∷ os) g h =
      let s' = shared_step L s o in
      omega (
        arith,
        step-under s o g (h [] (o ∷ os) refl) (h (o ∷ []) os refl),
        run-under s' os (step-good L s o g) (λ p q e. h (o ∷ p) q (ap (λ (x : List Op). o ∷ x) e)),
        bytes-append (item_of_train a (sent s o)) (train_sent L a s' os),
        bytes-append (item_of_train b (sent s o)) (train_sent L b s' os),
      )

pub after-append : (L : ℕ) (s : Shared) (a b : List Op) → shared_after L s (a ++ b) ≡ shared_after L (shared_after L s a) b
unfolding shared_after
after-append L s [] b = refl
after-append L s (c ∷ cs) b = after-append L (shared_step L s c) cs b

pub others : (L : ℕ) → Others L
unfolding Others shared_after
others L s g past stretch a b apart h =
    let u = shared_after L s past in
    let held : (p q : List Op) → p ++ q ≡ stretch → train_holds (shared_after L u p) a ≡ true = λ p q e. subst (λ (x : Shared). train_holds x a ≡ true) (after-append L s past p) (h p q e) in
    let start = range-any L a b apart u (after-good L s past g) (held [] stretch refl) in
    let end = range-any L a b apart (shared_after L u stretch) (after-good L u stretch (after-good L s past g)) (held stretch [] (append-nil stretch)) in
    let l = run-under L a b apart u stretch (after-good L s past g) held in
    omega arith

-- two trains that both hold records: each of them is the one that does
pub even : (L : ℕ) → Even L
unfolding Even Others
even L s g past stretch a b apart h = others L s g past stretch b a (λ e. apart (sym e)) (λ p q e. (h p q e).1)
