-- What an accepted record changes, and what a board shows of a train after a list of calls. Assumes nothing.
use Prim.Native.Nat.{ℕ, ◌<◌}
use native.Mathlib.Omega.{arith}
use mathlib.Core.Path.{◌≡◌, refl, sym, ap, subst, ◌∙◌}
use mathlib.Core.Bool.{Bool, true, false}
use mathlib.Core.Logic.{◌⊎◌, inl, inr, ⊎_elim}
use mathlib.Core.List.{List, [], ◌∷◌}
use mathlib.Core.Option.{Option, none, some}
use lib.ListN.{length, set, length-set}
use borrow.Author.Tests.{eq-eqb, ne_eqb}
use Rattle.std.specs.Prelude.{if◌then◌else◌}
use Rattle.words.proofs.Runs.{eq-or-ne}
use Rattle.desk.specs.Board.{Handover, Board, empty_board, line_at, is_of, is_free, train_line, lowest, train_shown, Makeable}
use Rattle.desk.specs.Calls.{BoardCall, enter_record, clear, told, record_refusal, target, record_entered, left, record_cleared, board_step, board_after, board_trace, AllSayable, is_told, noted, last_of}
use Rattle.desk.specs.Claims.{Changes, OneLine, ShowsLast}
use Rattle.desk.proofs.First.{first-hit, first-miss, first-none}
use Rattle.desk.proofs.Lines.{beyond, of-made, of_one, free-is, line_same, line_other, place_is_lem, stands, Accepts, later, newly, accepts, target_below, shown-stays}
use Rattle.desk.proofs.Keep.{keeps, left_below, empty-line, empty-makeable, after-keeps}

-- ---- one record

changes : (b : Board) (r : Handover) → Accepts b r → Changes b r (target b r) (set b (target b r) (some r))
changes b r a = record {
  new = line_same b (target b r) (some r) (target_below b r a);
  others = λ j n. line_other b (target b r) j (some r) n;
  size = length-set b (target b r) (some r);
  was = go a;
}
  where
    go : Accepts b r → (is_of r.train (line_at b (target b r)) ≡ true) ⊎ (((j : ℕ) → is_of r.train (line_at b j) ≡ false) × (is_free (line_at b (target b r)) ≡ true) × ((j : ℕ) → j < target b r → is_free (line_at b j) ≡ false))
    go (later o q p t i f) = inl (rw t (stands b r.train p))
    go (newly a l t k) = inr (a, rw t (first-hit is_free b none l), λ j h. first-miss is_free b none j (rw t at h))

pub one_line : OneLine
unfolding board_step
one_line b r k e = go (record_refusal b r) refl e
  where
    go : (x : Option ℕ) → record_refusal b r ≡ x → (record_entered x b (target b r) r).reply ≡ told k → Changes b r k (record_entered x b (target b r) r).board
    go none q e = let z : target b r ≡ k = cc in subst (λ (i : ℕ). Changes b r i (set b (target b r) (some r))) z (changes b r (accepts b r q))
    go (some n) q e = let z : ◌≡◌ {A = ℕ} 0 1 = cc in absurd (omega arith)

-- ---- one call, and what the board shows of a train

-- an accepted record's line was of no other train
not-before : (b : Board) (r : Handover) (t : ℕ) → Accepts b r → (r.train ≡ t → ⊥) → is_of t (line_at b (target b r)) ≡ false
not-before b r t (later o q p e i f) n = rw e (of_one (line_at b (train_line r.train b)) t r.train (stands b r.train p) n)
not-before b r t (newly a l e k) n = rw (e, free-is (line_at b (lowest b)) (first-hit is_free b none l))

shown-enter : (b : Board) (r : Handover) (t : ℕ) → Makeable (set b (target b r) (some r)) → Accepts b r → train_shown t (set b (target b r) (some r)) ≡ noted t (train_shown t b) (enter_record r)
shown-enter b r t m a =
    ⊎_elim
    (λ (e : r.train ≡ t).
    let l = line_same b (target b r) (some r) (target_below b r a) in
    let p = place_is_lem (set b (target b r) (some r)) t (target b r) m (of-made _ r t l e) in
    rw (eq-eqb r.train t e) (ap (line_at (set b (target b r) (some r))) p ∙ l))
    (λ (n : r.train ≡ t → ⊥).
    rw (ne_eqb r.train t n) (shown-stays b (target b r) (some r) t (target_below b r a) (ne_eqb r.train t n) (not-before b r t a n)))
    (eq-or-ne r.train t)

shown-clear : (b : Board) (u t : ℕ) → Makeable b → train_line u b < length b → train_shown t (set b (train_line u b) none) ≡ noted t (train_shown t b) (clear u)
shown-clear b u t m h =
    ⊎_elim
    (λ (e : u ≡ t). rw (eq-eqb u t e) (let p = first-none (is_of t) (set b (train_line u b) none) none (off e) in beyond (set b (train_line u b) none) (train_line t (set b (train_line u b) none)) (omega arith)))
    (λ (n : u ≡ t → ⊥). rw (ne_eqb u t n) (shown-stays b (train_line u b) none t h refl (of_one (line_at b (train_line u b)) t u (stands b u h) n)))
    (eq-or-ne u t)
  where
    off : u ≡ t → (j : ℕ) → is_of t (line_at (set b (train_line u b) none) j) ≡ false
    off e j =
        ⊎_elim
        (λ (q : j ≡ train_line u b). rw (q, line_same b (train_line u b) none h))
        (λ (n : j ≡ train_line u b → ⊥). rw (line_other b (train_line u b) j none n) (no (is_of t (line_at b j)) refl n))
        (eq-or-ne j (train_line u b))
      where
        no : (v : Bool) → is_of t (line_at b j) ≡ v → (j ≡ train_line u b → ⊥) → v ≡ false
        no true q n = absurd (n (sym (place_is_lem b t j m q) ∙ ap (λ i. train_line i b) (sym e)))
        no false q n = refl

pub shown-step : (b : Board) (c : BoardCall) (t : ℕ) → Makeable b → Makeable (board_step b c).board
    → train_shown t (board_step b c).board ≡ (if is_told (board_step b c).reply then noted t (train_shown t b) c else train_shown t b)
unfolding board_step
shown-step b (enter_record r) t m s = go (record_refusal b r) refl s
  where
    go : (x : Option ℕ) → record_refusal b r ≡ x → Makeable (record_entered (record_refusal b r) b (target b r) r).board
        → train_shown t (record_entered x b (target b r) r).board ≡ (if is_told (record_entered x b (target b r) r).reply then noted t (train_shown t b) (enter_record r) else train_shown t b)
    go none e k = shown-enter b r t (rw e at k) (accepts b r e)
    go (some n) e k = refl
shown-step b (clear u) t m s = go (left (line_at b (train_line u b))) refl
  where
    go : (x : Bool) → left (line_at b (train_line u b)) ≡ x
        → train_shown t (record_cleared x b (train_line u b)).board ≡ (if is_told (record_cleared x b (train_line u b)).reply then noted t (train_shown t b) (clear u) else train_shown t b)
    go true e = shown-clear b u t m (left_below b (train_line u b) e)
    go false e = refl

-- ---- lists of calls

shown-after : (cs : List BoardCall) (b : Board) (t : ℕ) → Makeable b → AllSayable cs → train_shown t (board_after b cs) ≡ last_of t (train_shown t b) (board_trace b cs)
unfolding board_after board_trace last_of AllSayable
shown-after [] b t m s = refl
shown-after (c ∷ cs) b t m s =
    shown-after cs (board_step b c).board t (keeps b c m s.0) s.1
    ∙ ap (λ x. last_of t x (board_trace (board_step b c).board cs)) (shown-step b c t m (keeps b c m s.0))

pub shows-last : ShowsLast
shows-last cs t s =
    (shown-after cs empty_board t empty-makeable s ∙ ap (λ x. last_of t x (board_trace empty_board cs)) (empty-line (train_line t empty_board)), λ j k p q. (after-keeps cs empty_board empty-makeable s).once j k t p q)
