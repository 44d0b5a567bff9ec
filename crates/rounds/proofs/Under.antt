-- A record handed out and one put, while a holds records: what is sent of b is no more than the figure tells. A train that empties drops its deficit and comes back
-- behind; both can only lower what it is sent. Assumes nothing.
use Prim.Native.Nat.{ℕ, ◌+◌, ◌-◌, ◌<◌, ◌≤◌}
use native.Mathlib.Omega.{arith}
use mathlib.Core.Path.{◌≡◌, refl, sym, ap, ◌∙◌, subst}
use mathlib.Core.Bool.{Bool, true, false, false≢true}
use mathlib.Core.List.{List, [], ◌∷◌, ◌++◌}
use lib.Dec.{leb, eqb}
use lib.ListN.{length, get_or, set, length-set}
use borrow.Author.Tests.{eq-eqb, ne_eqb}
use Rattle.std.specs.Prelude.{if◌then◌else◌}
use Rattle.units.specs.Plain.{times}
use Rattle.units.proofs.Bools.{if-ind}
use Rattle.units.proofs.Lists.{same_or, set_cases, times-append, set_keeps}
use Rattle.rounds.specs.Round.{BareRec, Train, Shared, no_train, queued?, train_at, first_of_train, hand_of, train_holds, first_in_turn, shared_first, added, join, shared_put, hand_in, shared_hand_out}
use Rattle.rounds.specs.Good.{Deficit, GoodShared}
use Rattle.rounds.specs.Runs.{item_of_train, bytes}
use Rattle.rounds.proofs.KeepHand.{held-inside, named-holds, turn_holds, turn-once}
use Rattle.rounds.proofs.Order.{begin-queue}
use Rattle.rounds.proofs.Figure.{Inside, Under, ahead, ahead-end, alone, before, begin-level, deficit_of, of_train-bytes, worth}

module _ (L a b : ℕ) (apart : a ≡ b → ⊥) (ts : List Train) (k : ℕ) (ks : List ℕ) (good : GoodShared L (record { trains = ts; round = k ∷ ks }))
    (has-a : queued? (get_or ts a no_train).queue ≡ true)
  where
    inside : k < length ts
    inside = held-inside ts k (turn_holds L ts k ks good)

    later : (k ≡ a → ⊥) → 0 < times a ks
    later n = omega (arith, simp (ne_eqb k a n, has-a) at (good.each a).named_once)

    none_of : k ≡ b → times b ks ≡ 0
    none_of e = ap (λ (x : ℕ). times x ks) (sym e) ∙ turn-once L ts k ks good

    turned : worth (eqb k b) L + worth (ahead a b (k ∷ ks)) L ≤ worth (ahead a b (ks ++ (k ∷ []))) L + worth (eqb k a) L
    unfolding ahead
    turned =
        same_or k a
        (λ e. simp (eq-eqb k a e, ne_eqb k b (λ q. apart (sym e ∙ q))) (omega arith))
        (λ m. same_or k b
        (λ e. simp (before a b k ks (none_of e) (later m), ne_eqb k a m, eq-eqb k b e) (omega arith))
        (λ o. simp (ahead-end a b k ks m, ne_eqb k a m, ne_eqb k b o) (omega arith)))

    next-inside : (t : Train) (js : List ℕ) → ((j : ℕ) → 0 < times j js → 0 < times j (k ∷ ks)) → Inside (set ts k t) js
    next-inside t [] h = tt
    next-inside t (i ∷ is) h = rw (length-set ts k t) (held-inside ts i (named-holds (good.each i) (h i (simp (eq-eqb i i refl) (omega arith)))))

    hand-of-under : (d : ℕ) (q : List BareRec) → deficit_of ts k ≡ d → Deficit L true d q → queued? q ≡ true → queued? (train_at (hand_of L ts k ks d q) a).queue ≡ true
        → Under L a b (record { trains = ts; round = k ∷ ks }) (hand_of L ts k ks d q) (bytes (item_of_train a (first_of_train k q))) (bytes (item_of_train b (first_of_train k q)))
    unfolding hand_of first_of_train item_of_train ahead
    hand-of-under d [] ed h e ka = absurd (false≢true e)
    hand-of-under d (r ∷ []) ed h e ka =
        rw (of_train-bytes a k r, of_train-bytes b k r)
        (same_or k b
        (λ eb. omega (
          arith,
          begin-level L a b (set ts k no_train) ks (next-inside no_train ks (λ j p. omega arith)),
          kept a not_a,
          out eb,
          h.0,
        ))
        (λ nb. omega (
          arith,
          begin-level L a b (set ts k no_train) ks (next-inside no_train ks (λ j p. omega arith)),
          kept a not_a,
          kept b nb,
          kept-order nb,
        )))
      where
        not_a : k ≡ a → ⊥
        not_a q =
            false≢true (sym (rw (begin-queue L (set ts k no_train) ks a) (set_cases (λ (m : Train). queued? m.queue ≡ false) ts k a no_train no_train inside (λ _. refl) (λ n. absurd (n q)))) ∙ ka)

        kept : (j : ℕ) → (k ≡ j → ⊥) → (deficit_of (set ts k no_train) j ≡ deficit_of ts j) × (worth (eqb k j) r.len ≡ 0) × (worth (eqb k j) L ≡ 0)
        kept j n = (
          set_cases (λ (m : Train). m.deficit ≡ deficit_of ts j) ts k j no_train no_train inside (λ q. absurd (n q)) (λ _. refl),
          simp (ne_eqb k j n),
          simp (ne_eqb k j n),
        )

        kept-order : (k ≡ b → ⊥) → worth (ahead a b (k ∷ ks)) L ≡ worth (ahead a b ks) L
        kept-order nb = simp (ne_eqb k a not_a, ne_eqb k b nb)

        -- b empties: it leaves at least the record's length of deficit, and a comes before it
        out : k ≡ b → (deficit_of (set ts k no_train) b ≡ 0) × (deficit_of ts b ≡ d) × (worth (eqb k b) r.len ≡ r.len) × (worth (eqb k b) L ≡ L)
            × (worth (ahead a b (k ∷ ks)) L ≡ 0) × (worth (ahead a b ks) L ≡ L)
        out eb = (
          set_cases (λ (m : Train). m.deficit ≡ 0) ts k b no_train no_train inside (λ _. refl) (λ n. absurd (n eb)),
          ap (deficit_of ts) (sym eb) ∙ ed,
          simp (eq-eqb k b eb),
          simp (eq-eqb k b eb),
          simp (ne_eqb k a not_a, eq-eqb k b eb),
          simp (alone a b ks (none_of eb) (later not_a)),
        )
    hand-of-under d (r ∷ r' ∷ rs) ed h e ka =
        rw (of_train-bytes a k r, of_train-bytes b k r)
        (if-ind (λ (u : Shared). Under L a b (record { trains = ts; round = k ∷ ks }) u (worth (eqb k a) r.len) (worth (eqb k b) r.len)) (leb r'.len (d - r.len)) _ _
        (λ c. omega (arith, dropped a, dropped b))
        (λ c. omega (
          arith,
          dropped a,
          dropped b,
          turned,
          begin-level L a b (set ts k left) (ks ++ (k ∷ [])) (next-inside left (ks ++ (k ∷ [])) (λ j p. omega (arith, times-append j ks (k ∷ [])))),
        )))
      where
        left : Train
        left = record { deficit = d - r.len; queue = r' ∷ rs }

        dropped : (j : ℕ) → worth (eqb k j) r.len + deficit_of (set ts k left) j ≡ deficit_of ts j
        dropped j =
            set_cases (λ (m : Train). worth (eqb k j) r.len + m.deficit ≡ deficit_of ts j) ts k j left no_train inside
            (λ q. rw (← q, eq-eqb k k refl) (omega (arith, h.0, ed))) (λ n. rw (ne_eqb k j n) (omega arith))

module _ (L a b : ℕ) (apart : a ≡ b → ⊥) where
  pub hand-under : (s : Shared) → GoodShared L s → train_holds s a ≡ true → train_holds (shared_hand_out L s) a ≡ true → Under L a b s (shared_hand_out L s) (bytes (item_of_train a (shared_first s))) (bytes (item_of_train b (shared_first s)))
  unfolding shared_hand_out hand_in shared_first first_in_turn item_of_train
  hand-under s g h h' = go s.trains s.round g h h'
    where
      go : (ts : List Train) (ks : List ℕ) → GoodShared L (record { trains = ts; round = ks }) → queued? (get_or ts a no_train).queue ≡ true
          → queued? (train_at (hand_in L ts ks) a).queue ≡ true
          → Under L a b (record { trains = ts; round = ks }) (hand_in L ts ks) (bytes (item_of_train a (first_in_turn ts ks))) (bytes (item_of_train b (first_in_turn ts ks)))
      go ts [] g ha ka = omega arith
      go ts (k ∷ ks) g ha ka =
          hand-of-under L a b apart ts k ks g ha (get_or ts k no_train).deficit (get_or ts k no_train).queue refl
          (subst (λ (t : Bool). Deficit L t (get_or ts k no_train).deficit (get_or ts k no_train).queue) (eq-eqb k k refl) (g.each k).deficit)
          (turn_holds L ts k ks g) ka

  pub put_under : (s : Shared) (k : ℕ) (r : BareRec) → GoodShared L s → train_holds s a ≡ true → Under L a b s (shared_put L s k r) 0 0
  unfolding shared_put join added
  put_under s k r g h =
      if-ind (λ (u : Shared). Under L a b s u 0 0) (train_holds s k) _ _
      (λ e. omega (arith, same a, same b)) (λ e. go e s.round (g.each a).named_once)
    where
      ts' : List Train
      ts' = set s.trains k (added (train_at s k) r)

      same : (j : ℕ) → deficit_of ts' j ≡ deficit_of s.trains j
      same j = set_keeps (λ (t : Train). t.deficit) s.trains k j (added (train_at s k) r) no_train refl

      go : train_holds s k ≡ false → (ks : List ℕ) → times a ks ≡ (if train_holds s a then 1 else 0) → Under L a b (record { trains = s.trains; round = ks }) (join L ts' ks k) 0 0
      go e [] n = absurd (omega (arith, simp h at n))
      go e (i ∷ is) n =
          omega (
            arith,
            same a,
            same b,
            ap (λ (x : Bool). worth x L) (ahead-end a b k (i ∷ is) (λ q. false≢true (sym e ∙ ap (λ (x : ℕ). train_holds s x) q ∙ h))),
          )
