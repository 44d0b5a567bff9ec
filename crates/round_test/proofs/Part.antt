-- The lengths of a lane's places, read from the word on where they begin. Assumes nothing.
use Prim.Native.Nat.{ℕ, zero, suc, ◌+◌, ◌*◌, ◌/◌, ◌%◌}
use native.Mathlib.Nat.{add-suc}
use native.Mathlib.Omega.{arith}
use mathlib.Core.Path.{◌≡◌, refl, sym, ap, subst, ◌∙◌}
use mathlib.Core.Bool.{Bool}
use mathlib.Core.List.{List, ◌∷◌}
use lib.ListN.{drop, get_or}
use lib.Seq.{get_or-drop}
use Rattle.words.specs.Runs.{elements_from}
use Rattle.words.specs.Words.{le_val, word_at}
use Rattle.digits.specs.Digits.{digit}
use Rattle.turns.specs.Turns.{head_of, place_in_train, named_of, Ordered}
use Rattle.round_test.specs.Shared.{Says, numbers_at, lengths_at, LengthsFit, held_below, SoundTrain, covering, Tallied, SharedGood}
use Rattle.round_test.proofs.Answers.{says-as}
use Rattle.round_test.proofs.Fill.{filled}
use Rattle.round_test.proofs.Testing.{tallied-good, good-tallied}

reads-drop : (t : List ℕ) (n a m : ℕ) → elements_from (drop n t) a m ≡ elements_from t (n + a) m
reads-drop t n a zero = refl
reads-drop t n a (suc m) =
    ap (λ (x : ℕ). x ∷ elements_from (drop n t) (suc a) m) (get_or-drop n t a 0)
    ∙ ap (λ (l : List ℕ). get_or t (n + a) 0 ∷ l) (reads-drop t n (suc a) m ∙ ap (λ (b : ℕ). elements_from t b m) (add-suc n a))

word-drop : (t : List ℕ) (m j : ℕ) → word_at (drop (m * 8) t) j ≡ word_at t (m + j)
unfolding word_at
word-drop t m j =
    let place : m * 8 + j * 8 ≡ (m + j) * 8 = omega arith in
    ap le_val (reads-drop t (m * 8) (j * 8) 8 ∙ ap (λ (a : ℕ). elements_from t a 8) place)

lengths-part : (t : List ℕ) (lengths p : ℕ) → lengths_at (drop (lengths / 4 * 8) t) (lengths % 4) p ≡ lengths_at t lengths p
lengths-part t lengths p =
    let there : lengths / 4 + (lengths % 4 + p) / 4 ≡ (lengths + p) / 4 = omega arith in
    let same : (lengths % 4 + p) % 4 ≡ (lengths + p) % 4 = omega arith in
    ap (λ (w : ℕ). digit 16 ((lengths % 4 + p) % 4) w + 1) (word-drop t (lengths / 4) ((lengths % 4 + p) / 4) ∙ ap (word_at t) there)
    ∙ ap (λ (d : ℕ). digit 16 d (word_at t ((lengths + p) / 4)) + 1) same

-- a tally does not depend on where its lengths are read
tallied-as : (L : ℕ) (ts lens lens' : ℕ → ℕ) (order named : ℕ) → ((p : ℕ) → lens p ≡ lens' p) → Tallied L ts lens order named → Tallied L ts lens' order named
tallied-as L ts lens lens' order named same a =
    record {
      each = λ k h. subst (SoundTrain L (ts k)) (same (place_in_train k (head_of (ts k)))) (a.each k h);
      names = a.names;
      number = a.number;
      turn = λ k h. ap (covering (ts k)) (sym (same (place_in_train k (head_of (ts k))))) ∙ a.turn k h;
    }

pub lane-says : (b : Bool) (L r count trains lengths order : ℕ) (t u : List ℕ) (o : Ordered r) → LengthsFit L (lengths_at t lengths) → u ≡ drop (lengths / 4 * 8) t → order ≡ filled r o
    → held_below (numbers_at t trains) 8 ≡ count → Says b (Tallied L (numbers_at t trains) (lengths_at u (lengths % 4)) order (named_of r)) → Says b (SharedGood L (numbers_at t trains) (lengths_at t lengths) r count)
lane-says b L r count trains lengths order t u o fit part is held s =
    says-as b s
    (λ a. tallied-good L r count ts lens o (λ p. omega arith) fit (tallied-as L ts read lens (filled r o) (named_of r) same (subst (λ (x : ℕ). Tallied L ts read x (named_of r)) is a)) held)
    (λ g. subst (λ (x : ℕ). Tallied L ts read x (named_of r)) (sym is) (tallied-as L ts lens read (filled r o) (named_of r) (λ p. sym (same p)) (good-tallied L r count ts lens o (λ p. omega arith) fit g)))
  where
    ts : ℕ → ℕ
    ts = numbers_at t trains

    lens : ℕ → ℕ
    lens = lengths_at t lengths

    read : ℕ → ℕ
    read = lengths_at u (lengths % 4)

    same : (p : ℕ) → read p ≡ lens p
    same p = ap (λ (v : List ℕ). lengths_at v (lengths % 4) p) part ∙ lengths-part t lengths p
