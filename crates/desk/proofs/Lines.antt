-- Laws of the lines of a board: where a train stands, where it does not, and what an accepted record was judged by. Assumes nothing.
use Prim.Native.Nat.{ℕ, ◌≤◌, ◌<◌}
use native.Mathlib.Omega.{arith}
use mathlib.Core.Path.{◌≡◌, refl, sym, ap, ◌∙◌}
use mathlib.Core.Bool.{Bool, true, false, ◌||◌, not, false≢true}
use mathlib.Core.Logic.{◌⊎◌, inl, inr, ⊎_elim}
use mathlib.Core.Option.{Option, none, some}
use lib.Dec.{eqb, ltb}
use lib.ListN.{length, set, get_or-eq_default}
use lib.Seq.{get_or-set_same, get_or-set_other}
use borrow.Author.Tests.{eqb-true, eq-eqb, ne_eqb, ltb-true, lt-ltb, le-ltb}
use Rattle.std.specs.Prelude.{if◌then◌else◌}
use Rattle.words.proofs.Runs.{le-or-lt}
use Rattle.desk.specs.Board.{Handover, Board, line_at, is_of, is_free, train_line, lowest, train_shown, Makeable}
use Rattle.desk.specs.Calls.{known_kind, in_sequence, follows, record_judged, record_refusal, target}
use Rattle.desk.proofs.First.{first-hit, first-miss, first-set}

-- ---- tests

pub either : (a b : Bool) → (a || b) ≡ true → (a ≡ true) ⊎ (b ≡ true)
either true b e = inl refl
either false b e = inr e

pub known-cases : (n : ℕ) → known_kind n ≡ true → (n ≡ 1) ⊎ (n ≡ 2)
known-cases n e = ⊎_elim (λ q. inl (eqb-true n 1 q)) (λ q. inr (eqb-true n 2 q)) (either (eqb n 1) (eqb n 2) e)

-- ---- one line

pub beyond : (b : Board) (k : ℕ) → length b ≤ k → line_at b k ≡ none
beyond b k h = get_or-eq_default b none h

pub used-below : (b : Board) (k : ℕ) (r : Handover) → line_at b k ≡ some r → k < length b
used-below b k r e = ⊎_elim (λ (h : length b ≤ k). let z : ◌≡◌ {A = ℕ} 0 1 = cc (beyond b k h) in absurd (omega arith)) (λ (h : k < length b). h) (le-or-lt (length b) k)

pub of-used : (x : Option Handover) (t : ℕ) → is_of t x ≡ true → (r : Handover) × (x ≡ some r) × (r.train ≡ t)
of-used none t e = absurd (false≢true e)
of-used (some r) t e = (r, refl, eqb-true r.train t e)

pub of-made : (x : Option Handover) (r : Handover) (t : ℕ) → x ≡ some r → r.train ≡ t → is_of t x ≡ true
of-made x r t e q = rw e (eq-eqb r.train t q)

pub held : (x : Option Handover) → is_free x ≡ false → (r : Handover) × (x ≡ some r)
held none e = absurd (false≢true (sym e))
held (some r) e = (r, refl)

pub free-is : (x : Option Handover) → is_free x ≡ true → x ≡ none
free-is none e = refl
free-is (some r) e = absurd (false≢true e)

-- the changed line, and the others
pub line_same : (b : Board) (k : ℕ) (y : Option Handover) → k < length b → line_at (set b k y) k ≡ y
line_same b k y h = get_or-set_same b k y none h

pub line_other : (b : Board) (k j : ℕ) (y : Option Handover) → (j ≡ k → ⊥) → line_at (set b k y) j ≡ line_at b j
line_other b k j y h = get_or-set_other b k j y none h

-- ---- where a train stands

pub stands : (b : Board) (t : ℕ) → train_line t b < length b → is_of t (line_at b (train_line t b)) ≡ true
stands b t h = first-hit (is_of t) b none h

pub absent : (b : Board) (t : ℕ) → length b ≤ train_line t b → (j : ℕ) → is_of t (line_at b j) ≡ false
absent b t h j =
    ⊎_elim
    (λ (q : length b ≤ j). rw (beyond b j q))
    (λ (q : j < length b). first-miss (is_of t) b none j (omega arith))
    (le-or-lt (length b) j)

pub present : (b : Board) (t k : ℕ) → is_of t (line_at b k) ≡ true → train_line t b < length b
present b t k e =
    ⊎_elim
    (λ (q : length b ≤ train_line t b). absurd (false≢true (sym (absent b t q k) ∙ e)))
    (λ (q : train_line t b < length b). q)
    (le-or-lt (length b) (train_line t b))

-- a train that stands on one line only stands at its place
pub place_is_lem : (b : Board) (t k : ℕ) → Makeable b → is_of t (line_at b k) ≡ true → train_line t b ≡ k
place_is_lem b t k m e = m.once (train_line t b) k t (stands b t (present b t k e)) e

-- a train whose place holds nothing stands nowhere
pub nowhere : (b : Board) (t : ℕ) → line_at b (train_line t b) ≡ none → length b ≤ train_line t b
nowhere b t e =
    ⊎_elim
    (λ (q : length b ≤ train_line t b). q)
    (λ (q : train_line t b < length b). let h = stands b t q in absurd (false≢true (rw e at h)))
    (le-or-lt (length b) (train_line t b))

-- ---- what an accepted record was judged by

pub data Accepts (b : Board) (r : Handover) : Type 0 where
  later : (o : Handover) → line_at b (train_line r.train b) ≡ some o → train_line r.train b < length b → target b r ≡ train_line r.train b → in_sequence o r ≡ true → follows o r ≡ true → Accepts b r
  newly : ((j : ℕ) → is_of r.train (line_at b j) ≡ false) → lowest b < length b → target b r ≡ lowest b → r.kind ≡ 1 → Accepts b r

pub refusal-known : (b : Board) (r : Handover) → record_refusal b r ≡ none → known_kind r.kind ≡ true
unfolding record_refusal
refusal-known b r e = go (known_kind r.kind) (record_judged (line_at b (train_line r.train b)) (ltb (lowest b) (length b)) r) e
  where
    go : (v : Bool) (x : Option ℕ) → (if not v then some 30 else x) ≡ none → v ≡ true
    go true x e = refl
    go false x e = let z : ◌≡◌ {A = ℕ} 0 1 = cc in absurd (omega arith)

judged-none : (b : Board) (r : Handover) → record_refusal b r ≡ none → record_judged (line_at b (train_line r.train b)) (ltb (lowest b) (length b)) r ≡ none
unfolding record_refusal
judged-none b r e = let k = refusal-known b r e in rw k at e

judged-later : (o r : Handover) (f : Bool) → record_judged (some o) f r ≡ none → (in_sequence o r ≡ true) × (follows o r ≡ true)
judged-later o r f e = go (in_sequence o r) (follows o r) e
  where
    go : (v w : Bool) → ◌≡◌ {A = Option ℕ} (if not v then some 32 else if w then none else some 33) none → (v ≡ true) × (w ≡ true)
    go true true e = (refl, refl)
    go true false e = let z : ◌≡◌ {A = ℕ} 0 1 = cc in absurd (omega arith)
    go false w e = let z : ◌≡◌ {A = ℕ} 0 1 = cc in absurd (omega arith)

judged-newly : (r : Handover) (f : Bool) → record_judged none f r ≡ none → (f ≡ true) × (r.kind ≡ 1)
judged-newly r f e = let g = go f (eqb r.kind 1) e in (g.0, eqb-true r.kind 1 g.1)
  where
    go : (v w : Bool) → ◌≡◌ {A = Option ℕ} (if not v then some 31 else if w then none else some 33) none → (v ≡ true) × (w ≡ true)
    go true true e = (refl, refl)
    go true false e = let z : ◌≡◌ {A = ℕ} 0 1 = cc in absurd (omega arith)
    go false w e = let z : ◌≡◌ {A = ℕ} 0 1 = cc in absurd (omega arith)

pub target-old : (b : Board) (r : Handover) → train_line r.train b < length b → target b r ≡ train_line r.train b
unfolding target
target-old b r h = rw (lt-ltb (train_line r.train b) (length b) h)

pub target-new : (b : Board) (r : Handover) → length b ≤ train_line r.train b → target b r ≡ lowest b
unfolding target
target-new b r h = rw (le-ltb (train_line r.train b) (length b) h)

pub accepts : (b : Board) (r : Handover) → record_refusal b r ≡ none → Accepts b r
accepts b r e = go (line_at b (train_line r.train b)) refl (judged-none b r e)
  where
    go : (x : Option Handover) → line_at b (train_line r.train b) ≡ x → record_judged x (ltb (lowest b) (length b)) r ≡ none → Accepts b r
    go none q j =
        let n = nowhere b r.train q in
        let k = judged-newly r (ltb (lowest b) (length b)) j in
        newly (absent b r.train n) (ltb-true (lowest b) (length b) k.0) (target-new b r n) k.1
    go (some o) q j =
        let p = used-below b (train_line r.train b) o q in
        let k = judged-later o r (ltb (lowest b) (length b)) j in
        later o q p (target-old b r p) k.0 k.1

pub target_below : (b : Board) (r : Handover) → Accepts b r → target b r < length b
target_below b r (later o q p t i f) = rw t p
target_below b r (newly a l t k) = rw t l

-- ---- another train's line is changed

pub of_one : (x : Option Handover) (t u : ℕ) → is_of u x ≡ true → (u ≡ t → ⊥) → is_of t x ≡ false
of_one none t u e n = refl
of_one (some r) t u e n = ne_eqb r.train t (λ q. n (sym (eqb-true r.train u e) ∙ q))

module _ (b : Board) (k : ℕ) (y : Option Handover) (t : ℕ) (h : k < length b) (new : is_of t y ≡ false) (old : is_of t (line_at b k) ≡ false) where
  pub place-stays : train_line t (set b k y) ≡ train_line t b
  place-stays = first-set (is_of t) b none k y (new ∙ sym old)

  pub line_stays : line_at (set b k y) (train_line t b) ≡ line_at b (train_line t b)
  line_stays = line_other b k (train_line t b) y (λ e. absurd (false≢true (sym old ∙ ap (λ i. is_of t (line_at b i)) (sym e) ∙ stands b t (rw e h))))

  pub shown-stays : train_shown t (set b k y) ≡ train_shown t b
  shown-stays = ap (line_at (set b k y)) place-stays ∙ line_stays
