-- Every operation keeps a good lane good, and a lane in which a train holds a record has a chosen one.
-- Between two turns no train is in turn: `Between` says what is good then, and `begin-good` that the next turn makes the lane good. Assumes nothing.
use Prim.Native.Nat.{ℕ, ◌≤◌, ◌<◌}
use native.Mathlib.Omega.{arith}
use mathlib.Core.Path.{◌≡◌, refl, sym, subst, ◌∙◌}
use mathlib.Core.Bool.{Bool, true, false, ◌&&◌, false≢true}
use mathlib.Core.List.{List, [], ◌∷◌, ◌++◌}
use lib.Dec.{leb, ltb}
use lib.ListN.{length, get_or, set, length-set, length-append}
use borrow.Author.Tests.{eq-eqb, ne_eqb, leb-true, ltb-true}
use Rattle.units.specs.Plain.{times}
use Rattle.units.proofs.Bools.{if-ind, and_parts}
use Rattle.units.proofs.Lists.{set_cases, times-append}
use Rattle.rounds.specs.Round.{BareRec, Train, Shared, train_count, train_depth, no_train, queued?, train_at, train_holds, in_turn, added, join, shared_put}
use Rattle.rounds.specs.Good.{Lengths, Deficit, GoodTrain, GoodShared}
use Rattle.rounds.specs.Runs.{Op, put_op, take_op, allows, shared_step, shared_after}
pub use Rattle.rounds.proofs.KeepHand.{hand-out-good}
use Rattle.rounds.proofs.KeepHand.{begin-good}

-- ---- put

-- what an accepted put has
pub record Allowed (L : ℕ) (s : Shared) (k : ℕ) (r : BareRec) : Type 0 where
  pub train : k < train_count
  pub some_bytes : 1 ≤ r.len
  pub fits : r.len ≤ L
  pub room : length (train_at s k).queue < train_depth

pub allows-is : (L : ℕ) (s : Shared) (k : ℕ) (r : BareRec) → allows L s k r ≡ true → Allowed L s k r
unfolding allows
allows-is L s k r e =
    let c = and_parts (ltb k train_count && leb 1 r.len && leb r.len L) (ltb (length (train_at s k).queue) train_depth) e in
    let b = and_parts (ltb k train_count && leb 1 r.len) (leb r.len L) c.0 in
    let a = and_parts (ltb k train_count) (leb 1 r.len) b.0 in
    record { train = ltb-true k train_count a.0; some_bytes = leb-true 1 r.len a.1; fits = leb-true r.len L b.1; room = ltb-true (length (train_at s k).queue) train_depth c.1 }

pub added-lengths : (L : ℕ) (q : List BareRec) (r : BareRec) → 1 ≤ r.len → r.len ≤ L → Lengths L q → Lengths L (q ++ (r ∷ []))
added-lengths L [] r a b l = (a, b, tt)
added-lengths L (x ∷ xs) r a b l = (l.0, l.1, added-lengths L xs r a b l.2)

-- a train that holds records keeps its deficit; one that starts has none
added-deficit : (L : ℕ) (turn : Bool) (d : ℕ) (q : List BareRec) (r : BareRec) → 1 ≤ r.len → (queued? q ≡ false → turn ≡ false) → Deficit L turn d q → Deficit L turn d (q ++ (r ∷ []))
added-deficit L true d [] r a f h = absurd (false≢true (sym (f refl)))
added-deficit L false d [] r a f h = omega arith
added-deficit L true d (x ∷ xs) r a f h = h
added-deficit L false d (x ∷ xs) r a f h = h

added-holds : (q : List BareRec) (r : BareRec) → queued? (q ++ (r ∷ [])) ≡ true
added-holds [] r = refl
added-holds (x ∷ xs) r = refl

module _ (L : ℕ) (s : Shared) (good : GoodShared L s) (k : ℕ) (r : BareRec) (ok : Allowed L s k r) where
  abbrev t : Train
  t = train_at s k

  -- the train with one record more, named as a holding train is
  added-good : (turn : Bool) → Deficit L turn t.deficit t.queue → (queued? t.queue ≡ false → turn ≡ false) → GoodTrain L turn 1 (added t r)
  unfolding added
  added-good turn d f = record {
    room = simp length-append (omega (arith, ok.room));
    lengths = added-lengths L t.queue r ok.some_bytes ok.fits (good.each k).lengths;
    deficit = added-deficit L turn t.deficit t.queue r ok.some_bytes f d;
    named_once = simp (added-holds t.queue r);
  }

  inside : k < length s.trains
  inside = omega (arith, good.size, ok.train)

  -- it held records: the round stays
  more-good : train_holds s k ≡ true → GoodShared L (record { trains = set s.trains k (added t r); round = s.round })
  more-good e = record {
    size = length-set s.trains k (added t r) ∙ good.size;
    each = λ j. set_cases (GoodTrain L (in_turn j s.round) (times j s.round)) s.trains k j (added t r) no_train inside
        (λ q. rw (← q) (subst (λ (x : ℕ). GoodTrain L (in_turn k s.round) x (added t r)) (sym ((good.each k).named_once ∙ simp e)) (added-good (in_turn k s.round) (good.each k).deficit (λ f. absurd (false≢true (sym f ∙ e))))))
        (λ n. good.each j);
  }

  -- it starts: it joins the end of the round. `turn` says who is in turn.
  starts-each : (turn : ℕ → Bool) (ks : List ℕ) → train_holds s k ≡ false → turn k ≡ false → ((j : ℕ) → GoodTrain L (turn j) (times j ks) (train_at s j))
      → (j : ℕ) → GoodTrain L (turn j) (times j (ks ++ (k ∷ []))) (get_or (set s.trains k (added t r)) j no_train)
  starts-each turn ks e off g j =
      set_cases (GoodTrain L (turn j) (times j (ks ++ (k ∷ [])))) s.trains k j (added t r) no_train inside
      (λ q. rw (← q) (subst (λ (x : ℕ). GoodTrain L (turn k) x (added t r)) (once) (added-good (turn k) (g k).deficit (λ f. off))))
      (λ n. subst (λ (x : ℕ). GoodTrain L (turn j) x (train_at s j)) (sym (times-append j ks (k ∷ []) ∙ simp (ne_eqb k j n) (omega arith))) (g j))
    where
      once : 1 ≡ times k (ks ++ (k ∷ []))
      once = simp (times-append, eq-eqb k k refl) (omega (arith, simp e at (g k).named_once))

  pub put-good : GoodShared L (shared_put L s k r)
  unfolding shared_put join
  put-good =
      if-ind (GoodShared L) (train_holds s k) _ _ more-good
      (λ e. go e s.round good.each)
    where
      go : train_holds s k ≡ false → (ks : List ℕ) → ((j : ℕ) → GoodTrain L (in_turn j ks) (times j ks) (train_at s j)) → GoodShared L (join L (set s.trains k (added t r)) ks k)
      go e [] g = begin-good L (set s.trains k (added t r)) (k ∷ [])
          (record { size = length-set s.trains k (added t r) ∙ good.size; each = starts-each (λ j. false) [] e refl g })
      go e (i ∷ is) g =
          let none-k : times k (i ∷ is) ≡ 0 = (g k).named_once ∙ simp e in
          record {
            size = length-set s.trains k (added t r) ∙ good.size;
            each = starts-each (λ j. in_turn j (i ∷ is)) (i ∷ is) e (ne_eqb i k (λ q. absurd (omega (arith, simp (eq-eqb i k q) at none-k)))) g;
          }

-- ---- every operation

pub step-good : (L : ℕ) (s : Shared) (o : Op) → GoodShared L s → GoodShared L (shared_step L s o)
unfolding shared_step
step-good L s (put_op k r) g = if-ind (GoodShared L) (allows L s k r) _ _ (λ e. put-good L s g k r (allows-is L s k r e)) (λ e. g)
step-good L s take_op g = hand-out-good L s g

pub after-good : (L : ℕ) (s : Shared) (os : List Op) → GoodShared L s → GoodShared L (shared_after L s os)
unfolding shared_after
after-good L s [] g = g
after-good L s (o ∷ os) g = after-good L (shared_step L s o) os (step-good L s o g)
