-- The boards that calls make from the empty board are the makeable ones.
--
-- That calls make no other is `keeps`. That they make each goes in two steps. A board with no free line below a used one is the board without its last line,
-- after a join, or a join and a leave (`filled`). A board with a free line is the one with a train there that is on no other line and has left, after a clear
-- (`holes`). Assumes nothing.
use Prim.Native.Nat.{ℕ, zero, suc, ◌+◌, ◌-◌, ◌≤◌, ◌<◌}
use native.Mathlib.Omega.{arith}
use mathlib.Core.Path.{◌≡◌, refl, sym, ap, subst, ◌∙◌}
use mathlib.Core.Bool.{Bool, true, false, false≢true}
use mathlib.Core.Logic.{inr, ⊎_elim}
use mathlib.Core.List.{List, [], ◌∷◌, ◌++◌}
use mathlib.Core.Option.{Option, none, some}
use lib.Dec.{ltb}
use lib.ListN.{length, set, length-set}
use lib.Seq.{set-set, set-get_or, ext_get_or}
use borrow.Author.Tests.{eq-eqb, lt-ltb}
use Rattle.words.proofs.Runs.{eq-or-ne}
use Rattle.desk.specs.Board.{Handover, Board, empty_board, line_at, is_of, is_free, train_line, lowest, Fine, Makeable}
use Rattle.desk.specs.Calls.{BoardCall, enter_record, clear, known_kind, record_judged, record_refusal, target, board_step, board_after, Sayable, AllSayable, MadeBoard}
use Rattle.desk.specs.Claims.{ExactlyMade}
use Rattle.desk.proofs.First.{first-is, first-none}
use Rattle.desk.proofs.Lines.{beyond, used-below, of-made, held, line_same, line_other, place_is_lem, target-old, target-new}
use Rattle.desk.proofs.Keep.{keep-set, keep-free, empty-line, empty-makeable, after-keeps}
use Rattle.desk.proofs.Fresh.{fresh}

-- ---- one call more

after-append : (b : Board) (cs ds : List BoardCall) → board_after b (cs ++ ds) ≡ board_after (board_after b cs) ds
unfolding board_after
after-append b [] ds = refl
after-append b (c ∷ cs) ds = after-append (board_step b c).board cs ds

sayable-append : (cs : List BoardCall) (c : BoardCall) → AllSayable cs → Sayable c → AllSayable (cs ++ c ∷ [])
unfolding AllSayable
sayable-append [] c s h = (h, tt)
sayable-append (d ∷ cs) c s h = (s.0, sayable-append cs c s.1 h)

more : (b : Board) (c : BoardCall) → MadeBoard b → Sayable c → MadeBoard (board_step b c).board
unfolding board_after
more b c m h = record {
  calls = m.calls ++ c ∷ [];
  sayable = sayable-append m.calls c m.sayable h;
  makes = after-append empty_board m.calls (c ∷ []) ∙ ap (λ x. (board_step x c).board) m.makes;
}

more-to : (b b' : Board) (c : BoardCall) → MadeBoard b → Sayable c → (board_step b c).board ≡ b' → MadeBoard b'
more-to b b' c m h e = subst MadeBoard e (more b c m h)

-- ---- what three calls do

pub refusal_is : (b : Board) (r : Handover) (x : Option Handover) (f : Bool) → known_kind r.kind ≡ true → line_at b (train_line r.train b) ≡ x → ltb (lowest b) (length b) ≡ f → record_refusal b r ≡ record_judged x f r
unfolding record_refusal
refusal_is b r x f k e q = rw (k, e, q)

accepted : (b : Board) (r : Handover) (k : ℕ) → record_refusal b r ≡ none → target b r ≡ k → (board_step b (enter_record r)).board ≡ set b k (some r)
unfolding board_step
accepted b r k e t = rw (e, t)

known-one : (n : ℕ) → n ≡ 1 → known_kind n ≡ true
known-one n e = rw e

known_two : (n : ℕ) → n ≡ 2 → known_kind n ≡ true
known_two n e = rw e

joins : (b : Board) (r : Handover) (k : ℕ) → r.kind ≡ 1 → ((j : ℕ) → is_of r.train (line_at b j) ≡ false) → lowest b ≡ k → k < length b → (board_step b (enter_record r)).board ≡ set b k (some r)
joins b r k one off low h =
    let p : train_line r.train b ≡ length b = first-none (is_of r.train) b none off in
    let j : record_judged none true r ≡ none = rw (eq-eqb r.kind 1 one) in
    let e : record_refusal b r ≡ none = refusal_is b r none true (known-one r.kind one) (beyond b (train_line r.train b) (omega arith)) (lt-ltb (lowest b) (length b) (omega arith)) ∙ j in
    accepted b r k e (target-new b r (omega arith) ∙ low)

leave-follows : (o r : Handover) (f : Bool) → o.kind ≡ 1 → r.kind ≡ 2 → r.cell ≡ o.cell → o.sequence < 4294967295 → r.sequence ≡ o.sequence + 1 → record_judged (some o) f r ≡ none
leave-follows o r f one two cell top next =
    rw (lt-ltb o.sequence 4294967295 top, eq-eqb r.sequence (o.sequence + 1) next, eq-eqb r.kind 2 two, eq-eqb o.kind 1 one, eq-eqb r.cell o.cell cell)

leaves : (b : Board) (o r : Handover) (k : ℕ) → train_line r.train b ≡ k → line_at b k ≡ some o → o.kind ≡ 1 → r.kind ≡ 2 → r.cell ≡ o.cell → o.sequence < 4294967295 → r.sequence ≡ o.sequence + 1
    → (board_step b (enter_record r)).board ≡ set b k (some r)
leaves b o r k p l one two cell top next =
    let e : record_refusal b r ≡ none = refusal_is b r (some o) (ltb (lowest b) (length b)) (known_two r.kind two) (ap (line_at b) p ∙ l) refl ∙ leave-follows o r (ltb (lowest b) (length b)) one two cell top next in
    accepted b r k e (target-old b r (rw p (used-below b k o l)) ∙ p)

clears : (b : Board) (o : Handover) (t k : ℕ) → train_line t b ≡ k → line_at b k ≡ some o → o.kind ≡ 2 → (board_step b (clear t)).board ≡ set b k none
unfolding board_step
clears b o t k p l two = rw (p, l, two)

-- ---- boards with no free line below a used one

back : (b : Board) (k : ℕ) (x y : Option Handover) → line_at b k ≡ y → set (set b k x) k y ≡ b
back b k x y e = set-set b k x y ∙ ap (λ z. set b k z) (sym e) ∙ set-get_or b k none

-- the last line of such a board, put back by calls
last_line : (b : Board) (k : ℕ) (r : Handover) → Makeable b → k < length b → line_at b k ≡ some r → ((j : ℕ) → j < k → is_free (line_at b j) ≡ false)
    → MadeBoard (set b k none) → MadeBoard b
unfolding Sayable
last_line b k r m h e full made = ⊎_elim joined gone f.kind
  where
    f : Fine r
    f = m.fine k r e

    below₀ : k < length (set b k none)
    below₀ = rw length-set h

    low : lowest (set b k none) ≡ k
    low = first-is is_free (set b k none) none k (rw length-set h) (rw (line_same b k none h)) (λ i q. rw (line_other b k i none (omega arith)) (full i q))

    off : (j : ℕ) → is_of r.train (line_at (set b k none) j) ≡ false
    off j = ⊎_elim
        (λ (q : j ≡ k). rw (q, line_same b k none h))
        (λ (n : j ≡ k → ⊥). rw (line_other b k j none n) (no (is_of r.train (line_at b j)) refl n))
        (eq-or-ne j k)
      where
        no : (v : Bool) → is_of r.train (line_at b j) ≡ v → (j ≡ k → ⊥) → v ≡ false
        no true q n = absurd (n (m.once j k r.train q (of-made (line_at b k) r r.train e refl)))
        no false q n = refl

    joined : r.kind ≡ 1 → MadeBoard b
    joined one = more-to (set b k none) b (enter_record r) made f.carried (joins (set b k none) r k one off low below₀ ∙ back b k none (some r) e)

    gone : (r.kind ≡ 2) × (1 ≤ r.sequence) → MadeBoard b
    gone two =
        let c = f.carried in
        let q : Handover = record { train = r.train; cell = r.cell; kind = 1; sequence = r.sequence - 1 } in
        let b₁ = set (set b k none) k (some q) in
        let made₁ : MadeBoard b₁ = more-to (set b k none) b₁ (enter_record q) made (record { train = c.train; cell = c.cell; kind = omega arith; sequence = omega (arith, c.sequence) }) (joins (set b k none) q k refl off low below₀) in
        let l₁ : line_at b₁ k ≡ some q = line_same (set b k none) k (some q) below₀ in
        let p₁ : train_line r.train b₁ ≡ k = first-is (is_of r.train) b₁ none k (rw length-set below₀) (of-made (line_at b₁ k) q r.train l₁ refl) (λ i lt. rw (line_other (set b k none) k i (some q) (omega arith)) (off i)) in
        more-to b₁ b (enter_record r) made₁ c (leaves b₁ q r k p₁ l₁ refl two.0 refl (omega (arith, two.1, c.sequence)) (omega (arith, two.1)) ∙ set-set (set b k none) k (some q) (some r) ∙ back b k none (some r) e)

filled : (k : ℕ) (b : Board) → Makeable b → k ≤ 64 → ((j : ℕ) → j < k → is_free (line_at b j) ≡ false) → ((j : ℕ) → k ≤ j → line_at b j ≡ none) → MadeBoard b
unfolding board_after AllSayable
filled zero b m h full empty = record {
  calls = [];
  sayable = tt;
  makes = sym (ext_get_or none b empty_board m.size (λ i q. empty i (omega arith) ∙ sym (empty-line i)));
}
filled (suc k) b m h full empty =
    let u = held (line_at b k) (full k (omega arith)) in
    let lt : k < length b = omega (arith, m.size) in
    last_line b k u.0 m lt u.1 (λ j q. full j (omega arith))
    (filled k (set b k none) (keep-free b k m lt) (omega arith)
    (λ j q. rw (line_other b k j none (omega arith)) (full j (omega arith)))
    (λ j q. ⊎_elim (λ (e : j ≡ k). rw (e, line_same b k none lt)) (λ (n : j ≡ k → ⊥). rw (line_other b k j none n) (empty j (omega arith))) (eq-or-ne j k)))

-- ---- boards with free lines anywhere

-- n lines are left to look at
holes : (n : ℕ) (b : Board) → Makeable b → n ≤ 64 → ((j : ℕ) → j + n < 64 → is_free (line_at b j) ≡ false) → MadeBoard b
unfolding Sayable
holes zero b m h full = filled 64 b m (omega arith) (λ j q. full j (omega arith)) (λ j q. beyond b j (omega (arith, m.size)))
holes (suc n) b m h full = go (line_at b (63 - n)) refl (holes n)
  where
    go : (x : Option Handover) → line_at b (63 - n) ≡ x → ((c : Board) → Makeable c → n ≤ 64 → ((j : ℕ) → j + n < 64 → is_free (line_at c j) ≡ false) → MadeBoard c) → MadeBoard b
    go (some r) e rest = rest b m (omega arith) (λ j q. ⊎_elim (λ (z : j ≡ 63 - n). rw (z, e)) (λ (z : j ≡ 63 - n → ⊥). full j (omega arith)) (eq-or-ne j (63 - n)))
    go none e rest =
        let w = fresh b in
        let lt : 63 - n < length b = omega (arith, m.size) in
        let q : Handover = record { train = w.0; cell = 0; kind = 2; sequence = 1 } in
        let c = set b (63 - n) (some q) in
        let fine : Fine q = record { carried = record { train = omega (arith, w.1, m.size); cell = omega arith; kind = omega arith; sequence = omega arith }; kind = inr (refl, omega arith) } in
        let mc : Makeable c = keep-set b (63 - n) q m lt fine (λ j z. absurd (false≢true (sym (w.2 j) ∙ z))) in
        let l : line_at c (63 - n) ≡ some q = line_same b (63 - n) (some q) lt in
        let made : MadeBoard c = rest c mc (omega arith) (λ j z. ⊎_elim (λ (y : j ≡ 63 - n). rw (y, l)) (λ (y : j ≡ 63 - n → ⊥). rw (line_other b (63 - n) j (some q) y) (full j (omega arith))) (eq-or-ne j (63 - n))) in
        more-to c b (clear w.0) made (omega (arith, w.1, m.size)) (clears c q w.0 (63 - n) (place_is_lem c w.0 (63 - n) mc (of-made (line_at c (63 - n)) q w.0 l refl)) l refl ∙ back b (63 - n) (some q) none e)

pub exactly-made : ExactlyMade
exactly-made b = (λ m. subst Makeable m.makes (after-keeps m.calls empty_board empty-makeable m.sayable), λ m. holes 64 b m (omega arith) (λ j q. absurd (omega arith)))
