-- Two records of different trains, one of them on the board, the other there or new: the same replies and the same board in either order. Assumes nothing.
use Prim.Native.Nat.{ℕ, ◌≤◌, ◌<◌}
use native.Mathlib.Omega.{arith}
use mathlib.Core.Path.{◌≡◌, refl, sym, ap, ◌∙◌}
use mathlib.Core.Bool.{true, false, not, false≢true}
use mathlib.Core.Logic.{⊎_elim}
use mathlib.Core.Option.{Option, none, some}
use lib.Dec.{ltb}
use lib.ListN.{length, set, length-set}
use borrow.Author.Tests.{ne_eqb}
use Rattle.std.specs.Prelude.{if◌then◌else◌}
use Rattle.desk.specs.Board.{Handover, Board, line_at, is_of, is_free, train_line, lowest}
use Rattle.desk.specs.Calls.{enter_record, told, known_kind, record_judged, record_refusal, target, record_entered, board_step}
use Rattle.desk.specs.Claims.{InEitherOrder, Commutes}
use Rattle.words.proofs.Runs.{le-or-lt}
use Rattle.desk.proofs.Shows.{one_line}
use Rattle.desk.proofs.First.{first-hit, first-none, first-set}
use Rattle.desk.proofs.Lines.{absent, beyond, free-is, of-used, of_one, stands, accepts, target-old, target-new, target_below, place-stays, line_stays}
use Rattle.desk.proofs.BothOn.{verdict, on-refusal, reply-same, swap, both-on}

-- ---- one of the two trains is new

-- two records that leave each other's judgement and line alone
either : (b : Board) (q r : Handover)
    → record_refusal (board_step b (enter_record r)).board q ≡ record_refusal b q → target (board_step b (enter_record r)).board q ≡ target b q
    → record_refusal (board_step b (enter_record q)).board r ≡ record_refusal b r → target (board_step b (enter_record q)).board r ≡ target b r
    → (target b q ≡ target b r → ⊥) → InEitherOrder b q r
unfolding board_step
either b q r e₁ t₁ e₂ t₂ n =
    let v = record_refusal b q in
    let w = record_refusal b r in
    let i = target b q in
    let j = target b r in
    let x = (record_entered w b j r).board in
    let y = (record_entered v b i q).board in
    record {
      reply_q = ap (λ z. (record_entered z x (target x q) q).reply) e₁ ∙ ap (λ z. (record_entered v x z q).reply) t₁ ∙ reply-same v x b i q;
      reply_r = ap (λ z. (record_entered z y (target y r) r).reply) e₂ ∙ ap (λ z. (record_entered w y z r).reply) t₂ ∙ reply-same w y b j r;
      board =
          ap (λ z. (record_entered z y (target y r) r).board) e₂ ∙ ap (λ z. (record_entered w y z r).board) t₂ ∙ swap v w b i j q r n
          ∙ sym (ap (λ z. (record_entered z x (target x q) q).board) e₁ ∙ ap (λ z. (record_entered v x z q).board) t₁);
    }

-- a record of a train that is on the board is judged by its line, and goes there
kept_on : (b c : Board) (q : Handover) → train_line q.train b < length b → length c ≡ length b → train_line q.train c ≡ train_line q.train b → line_at c (train_line q.train b) ≡ line_at b (train_line q.train b)
    → (record_refusal c q ≡ record_refusal b q) × (target c q ≡ target b q)
kept_on b c q h z p l =
    let hc : train_line q.train c < length c = rw (p, z) h in
    (on-refusal c q hc ∙ ap (λ x. verdict x q) (ap (line_at c) p ∙ l) ∙ sym (on-refusal b q h), target-old c q hc ∙ p ∙ sym (target-old b q h))

-- one of a new train by whether a line is free, and goes to the lowest
kept_new : (b c : Board) (r : Handover) → ((j : ℕ) → is_of r.train (line_at b j) ≡ false) → length c ≡ length b → train_line r.train c ≡ train_line r.train b → lowest c ≡ lowest b
    → (record_refusal c r ≡ record_refusal b r) × (target c r ≡ target b r)
unfolding record_refusal
kept_new b c r off z p l =
    let e : train_line r.train b ≡ length b = first-none (is_of r.train) b none off in
    let x : line_at b (train_line r.train b) ≡ none = beyond b (train_line r.train b) (omega arith) in
    let y : line_at c (train_line r.train c) ≡ none = beyond c (train_line r.train c) (omega arith) in (
      ap (λ f. if not (known_kind r.kind) then some 30 else record_judged f (ltb (lowest c) (length c)) r) y
          ∙ ap (λ k. if not (known_kind r.kind) then some 30 else record_judged none (ltb k (length c)) r) l
          ∙ ap (λ k. if not (known_kind r.kind) then some 30 else record_judged none (ltb (lowest b) k) r) z
          ∙ sym (ap (λ f. if not (known_kind r.kind) then some 30 else record_judged f (ltb (lowest b) (length b)) r) x),
      target-new c r (omega arith) ∙ l ∙ sym (target-new b r (omega arith)),
    )

module _ (b : Board) (q r : Handover) (n : q.train ≡ r.train → ⊥) (hq : train_line q.train b < length b) (off : (j : ℕ) → is_of r.train (line_at b j) ≡ false) where
  new-target : target b r ≡ lowest b
  new-target = let e = first-none (is_of r.train) b none off in target-new b r (omega arith)

  used-q : is_free (line_at b (train_line q.train b)) ≡ false
  used-q = let u = of-used (line_at b (train_line q.train b)) q.train (stands b q.train hq) in rw u.1

  -- q after r
  q-stays : (v : Option ℕ) → record_refusal b r ≡ v → (record_refusal (record_entered v b (target b r) r).board q ≡ record_refusal b q) × (target (record_entered v b (target b r) r).board q ≡ target b q)
  q-stays (some m) e = (refl, refl)
  q-stays none e =
      let a = accepts b r e in
      let k = target_below b r a in
      let new : is_of q.train (some r) ≡ false = ne_eqb r.train q.train (λ z. n (sym z)) in
      let free : line_at b (target b r) ≡ none = ap (line_at b) new-target ∙ free-is (line_at b (lowest b)) (first-hit is_free b none (rw new-target at k)) in
      let old : is_of q.train (line_at b (target b r)) ≡ false = ap (is_of q.train) free in
      kept_on b (set b (target b r) (some r)) q hq (length-set b (target b r) (some r)) (place-stays b (target b r) (some r) q.train k new old) (line_stays b (target b r) (some r) q.train k new old)

  -- r after q
  r-stays : (v : Option ℕ) → (record_refusal (record_entered v b (target b q) q).board r ≡ record_refusal b r) × (target (record_entered v b (target b q) q).board r ≡ target b r)
  r-stays (some m) = (refl, refl)
  r-stays none =
      let t = target-old b q hq in
      let k : target b q < length b = rw t hq in
      let new : is_of r.train (some q) ≡ false = ne_eqb q.train r.train n in
      kept_new b (set b (target b q) (some q)) r off (length-set b (target b q) (some q)) (place-stays b (target b q) (some q) r.train k new (off (target b q)))
      (first-set is_free b none (target b q) (some q) (sym (ap (λ i. is_free (line_at b i)) t ∙ used-q)))

  lines-apart : target b q ≡ target b r → ⊥
  lines-apart e =
      let p : train_line q.train b ≡ lowest b = sym (target-old b q hq) ∙ e ∙ new-target in
      false≢true (sym used-q ∙ ap (λ i. is_free (line_at b i)) p ∙ first-hit is_free b none (rw p at hq))

one-new : (b : Board) (q r : Handover) → (q.train ≡ r.train → ⊥) → train_line q.train b < length b → ((j : ℕ) → is_of r.train (line_at b j) ≡ false) → InEitherOrder b q r
unfolding board_step
one-new b q r n hq off =
    let x = q-stays b q r n hq off (record_refusal b r) refl in
    let y = r-stays b q r n hq off (record_refusal b q) in
    either b q r x.0 x.1 y.0 y.1 (lines-apart b q r n hq off)

pub commutes : Commutes
commutes b q r n hq =
    ⊎_elim
    (λ (h : length b ≤ train_line r.train b). one-new b q r n hq (absent b r.train h))
    (λ (h : train_line r.train b < length b). both-on b q r n hq h)
    (le-or-lt (length b) (train_line r.train b))

-- the lines that the two change are different
pub lines-differ : (b : Board) (q r : Handover) (j k : ℕ) → (q.train ≡ r.train → ⊥) → train_line q.train b < length b
    → (board_step b (enter_record q)).reply ≡ told j → (board_step b (enter_record r)).reply ≡ told k → j ≡ k → ⊥
lines-differ b q r j k n hq x y e =
    ⊎_elim
    (λ (f : is_of q.train (line_at b j) ≡ true). ⊎_elim
    (λ (g : is_of r.train (line_at b k) ≡ true). false≢true (sym (of_one (line_at b k) q.train r.train g (λ z. n (sym z))) ∙ ap (λ i. is_of q.train (line_at b i)) (sym e) ∙ f))
    (λ (g : ((i : ℕ) → is_of r.train (line_at b i) ≡ false) × (is_free (line_at b k) ≡ true) × ((i : ℕ) → i < k → is_free (line_at b i) ≡ false)).
    let o = of-used (line_at b j) q.train f in
    let u : is_free (line_at b j) ≡ false = rw o.1 in
    false≢true (sym u ∙ ap (λ i. is_free (line_at b i)) e ∙ g.1))
    (one_line b r k y).was)
    (λ (f : ((i : ℕ) → is_of q.train (line_at b i) ≡ false) × (is_free (line_at b j) ≡ true) × ((i : ℕ) → i < j → is_free (line_at b i) ≡ false)).
    false≢true (sym (f.0 (train_line q.train b)) ∙ stands b q.train hq))
    (one_line b q j x).was
