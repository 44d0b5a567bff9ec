-- Every call keeps a board makeable. Assumes nothing.
use Prim.Native.Nat.{ℕ, ◌+◌, ◌≤◌, ◌<◌}
use native.Mathlib.Omega.{arith}
use mathlib.Core.Path.{◌≡◌, refl, sym, subst, ◌∙◌}
use mathlib.Core.Bool.{Bool, true, false, false≢true}
use mathlib.Core.Logic.{◌⊎◌, inl, inr, ⊎_elim}
use mathlib.Core.List.{List, [], ◌∷◌}
use mathlib.Core.Option.{Option, none, some}
use lib.Dec.{eqb, ltb}
use lib.ListN.{length, set, length-set, get_or-replicate}
use borrow.Author.Tests.{eqb-true}
use Rattle.units.proofs.Bools.{and_parts}
use Rattle.words.proofs.Runs.{le-or-lt, eq-or-ne}
use Rattle.desk.specs.Board.{Handover, Board, empty_board, line_at, is_of, train_line, InField, Fine, Makeable}
use Rattle.desk.specs.Calls.{BoardCall, enter_record, clear, record_refusal, target, record_entered, left, record_cleared, board_step, board_after, Sayable, AllSayable}
use Rattle.desk.specs.Claims.{KeepsMakeable}
use Rattle.desk.proofs.Lines.{known-cases, beyond, used-below, line_same, line_other, place_is_lem, Accepts, later, newly, refusal-known, accepts, target_below}

-- what is said of the old line where it stays, and of the new one where it is changed, is said of the changed board
cases : (P : Option Handover → Type 0) (b : Board) (k j : ℕ) (y : Option Handover) → k < length b → (j ≡ k → P y) → ((j ≡ k → ⊥) → P (line_at b j)) → P (line_at (set b k y) j)
cases P b k j y h f g =
    ⊎_elim
    (λ (e : j ≡ k). subst (λ (i : ℕ). P (line_at (set b k y) i)) (sym e) (rw (line_same b k y h) (f e)))
    (λ (n : j ≡ k → ⊥). rw (line_other b k j y n) (g n))
    (eq-or-ne j k)

pub keep-set : (b : Board) (k : ℕ) (r : Handover) → Makeable b → k < length b → Fine r → ((j : ℕ) → is_of r.train (line_at b j) ≡ true → j ≡ k) → Makeable (set b k (some r))
keep-set b k r m h f u = record {
  size = rw length-set m.size;
  fine = λ j s. cases (λ x. x ≡ some s → Fine s) b k j (some r) h (λ e q. let z : r ≡ s = cc in subst Fine z f) (λ n q. m.fine j s q);
  once = λ i j t. cases (λ x. is_of t x ≡ true → is_of t (line_at (set b k (some r)) j) ≡ true → i ≡ j) b k i (some r) h
      (λ e p. cases (λ x. is_of t x ≡ true → i ≡ j) b k j (some r) h (λ e2 q. e ∙ sym e2) (λ n q. absurd (n (u j (rw (eqb-true r.train t p) q)))))
      (λ n p. cases (λ x. is_of t x ≡ true → i ≡ j) b k j (some r) h (λ e2 q. absurd (n (u i (rw (eqb-true r.train t q) p)))) (λ n2 q. m.once i j t p q));
}

pub keep-free : (b : Board) (k : ℕ) → Makeable b → k < length b → Makeable (set b k none)
keep-free b k m h = record {
  size = rw length-set m.size;
  fine = λ j s. cases (λ x. x ≡ some s → Fine s) b k j none h (λ e q. let z : ◌≡◌ {A = ℕ} 0 1 = cc in absurd (omega arith)) (λ n q. m.fine j s q);
  once = λ i j t. cases (λ x. is_of t x ≡ true → is_of t (line_at (set b k none) j) ≡ true → i ≡ j) b k i none h
      (λ e p. absurd (false≢true p))
      (λ n p. cases (λ x. is_of t x ≡ true → i ≡ j) b k j none h (λ e2 q. absurd (false≢true q)) (λ n2 q. m.once i j t p q));
}

-- the line of an accepted record
pub fine-accepted : (b : Board) (r : Handover) → InField r → record_refusal b r ≡ none → Fine r
fine-accepted b r c e = record { carried = c; kind = go (accepts b r e) (known-cases r.kind (refusal-known b r e)) }
  where
    go : Accepts b r → (r.kind ≡ 1) ⊎ (r.kind ≡ 2) → (r.kind ≡ 1) ⊎ ((r.kind ≡ 2) × (1 ≤ r.sequence))
    go (later o q p t i f) (inl k) = inl k
    go (later o q p t i f) (inr k) =
        let s = and_parts (ltb o.sequence 4294967295) (eqb r.sequence (o.sequence + 1)) i in
        inr (k, omega (arith, eqb-true r.sequence (o.sequence + 1) s.1))
    go (newly a l t k) x = inl k

only : (b : Board) (r : Handover) → Makeable b → Accepts b r → (j : ℕ) → is_of r.train (line_at b j) ≡ true → j ≡ target b r
only b r m (later o q p t i f) j e = rw t (sym (place_is_lem b r.train j m e))
only b r m (newly a l t k) j e = absurd (false≢true (sym (a j) ∙ e))

left-used : (x : Option Handover) → left x ≡ true → (r : Handover) × (x ≡ some r) × (r.kind ≡ 2)
left-used none e = absurd (false≢true e)
left-used (some r) e = (r, refl, eqb-true r.kind 2 e)

pub left_below : (b : Board) (k : ℕ) → left (line_at b k) ≡ true → k < length b
left_below b k e = let u = left-used (line_at b k) e in used-below b k u.0 u.1

pub keeps : KeepsMakeable
unfolding board_step Sayable
keeps b (enter_record r) m c = go (record_refusal b r) refl
  where
    go : (x : Option ℕ) → record_refusal b r ≡ x → Makeable (record_entered x b (target b r) r).board
    go none e = let a = accepts b r e in keep-set b (target b r) r m (target_below b r a) (fine-accepted b r c e) (only b r m a)
    go (some n) e = m
keeps b (clear t) m c = go (left (line_at b (train_line t b))) refl
  where
    go : (x : Bool) → left (line_at b (train_line t b)) ≡ x → Makeable (record_cleared x b (train_line t b)).board
    go true e = keep-free b (train_line t b) m (left_below b (train_line t b) e)
    go false e = m

-- ---- lists of calls

pub empty-line : (k : ℕ) → line_at empty_board k ≡ none
empty-line k = ⊎_elim (λ (h : 64 ≤ k). beyond empty_board k h) (λ (h : k < 64). get_or-replicate 64 k none none h) (le-or-lt 64 k)

pub empty-makeable : Makeable empty_board
empty-makeable = record {
  size = refl;
  fine = λ k r e. let z : ◌≡◌ {A = ℕ} 0 1 = cc (empty-line k) in absurd (omega arith);
  once = λ j k t p q. absurd (false≢true (rw (empty-line j) at p));
}

pub after-keeps : (cs : List BoardCall) (b : Board) → Makeable b → AllSayable cs → Makeable (board_after b cs)
unfolding board_after AllSayable
after-keeps [] b m s = m
after-keeps (c ∷ cs) b m s = after-keeps cs (board_step b c).board (keeps b c m s.0) s.1
