-- The tests of one line: two words, a train, a free line; and the bits of the trains passed. Assumes nothing.
use Prim.Native.Nat.{ℕ, ◌+◌, ◌≤◌, ◌<◌, ◌/◌, ◌%◌, ◌^◌}
use native.Mathlib.Omega.{arith}
use mathlib.Core.Path.{◌≡◌, sym, subst, ◌∙◌}
use mathlib.Core.Bool.{Bool, true, false, false≢true}
use mathlib.Core.Logic.{⊎_elim}
use mathlib.Core.Option.{Option}
use mathlib.Core.List.{List}
use lib.Dec.{eqb, leb}
use lib.ListN.{length, get_or, set}
use lib.Seq.{get_or-set_same, get_or-set_other}
use borrow.Author.Tests.{eq-eqb, ne_eqb, lt-ltb, le-ltb, eqb-false}
use Rattle.words.specs.Bits.{bit}
use Rattle.words.proofs.Runs.{le-or-lt, eq-or-ne}
use Rattle.words.proofs.Bits.{bit-add-same, bit-add-other}
use Rattle.desk.specs.Board.{Handover, Board, is_of, is_free}
use Rattle.board.specs.Layout.{BitMarked, TrainOf, SeenBelow, SeenHere, handover_of, well_formed, Parted}
use Rattle.desk_line.specs.declared.Line.{Line}

-- ---- two words

module _ (a c : ℕ) where
  pub formed-free : c ≡ 0 → eqb a 0 ≡ well_formed a c
  unfolding well_formed
  formed-free e = rw (eq-eqb c 0 e)

  pub formed-none : (c ≡ 0 → ⊥) → c < 65536 → false ≡ well_formed a c
  unfolding well_formed
  formed-none n p = rw (ne_eqb c 0 n, lt-ltb c 65536 p)

  pub formed-joined : (c ≡ 0 → ⊥) → 65536 ≤ c → c < 131072 → true ≡ well_formed a c
  unfolding well_formed
  formed-joined n p q = rw (ne_eqb c 0 n, le-ltb c 65536 p, lt-ltb c 131072 q)

  pub formed-left : (c ≡ 0 → ⊥) → 65536 ≤ c → 131072 ≤ c → c < 196608 → leb 4294967296 a ≡ well_formed a c
  unfolding well_formed
  formed-left n p q s = rw (ne_eqb c 0 n, le-ltb c 65536 p, le-ltb c 131072 q, lt-ltb c 196608 s)

  pub formed-over : (c ≡ 0 → ⊥) → 65536 ≤ c → 131072 ≤ c → 196608 ≤ c → false ≡ well_formed a c
  unfolding well_formed
  formed-over n p q s = rw (ne_eqb c 0 n, le-ltb c 65536 p, le-ltb c 131072 q, le-ltb c 196608 s)

-- ---- a line by value

module _ (l : Line) (x : Option Handover) (e : handover_of l ≡ x) where
  pub of-free : (u : ℕ) → l.kind ≡ 0 → false ≡ is_of u x
  of-free u z = rw (← e, eq-eqb l.kind 0 z)

  pub of-train : (u : ℕ) → (l.kind ≡ 0 → ⊥) → eqb l.train u ≡ is_of u x
  of-train u n = rw (← e, ne_eqb l.kind 0 n)

  pub of_other : (u : ℕ) → (l.train ≡ u → ⊥) → false ≡ is_of u x
  of_other u n = ⊎_elim (λ (z : l.kind ≡ 0). of-free u z) (λ (m : l.kind ≡ 0 → ⊥). sym (ne_eqb l.train u n) ∙ of-train u m) (eq-or-ne l.kind 0)

  pub of-same : (u : ℕ) → l.train ≡ u → (l.kind ≡ 0 → ⊥) → true ≡ is_of u x
  of-same u e m = sym (eq-eqb l.train u e) ∙ of-train u m

  pub train-of : (u : ℕ) → is_of u x ≡ true → u ≡ l.train
  train-of u h = ⊎_elim (λ (e : l.train ≡ u). sym e) (λ (n : l.train ≡ u → ⊥). absurd (false≢true (of_other u n ∙ h))) (eq-or-ne l.train u)

  pub free-kind : eqb l.kind 0 ≡ is_free x
  free-kind = ⊎_elim (λ (z : l.kind ≡ 0). rw (← e, eq-eqb l.kind 0 z)) (λ (n : l.kind ≡ 0 → ⊥). rw (← e, ne_eqb l.kind 0 n)) (eq-or-ne l.kind 0)

-- ---- whether a line's train is on a line below

pub parted-known : (b : Board) (k : ℕ) (v w : Bool) → Parted v b k → v ≡ w → Parted w b k
parted-known b k v w p e = subst (λ x. Parted x b k) e p

-- ---- the bits of the trains that were passed

pub mark_set : (s k r : ℕ) → bit k s ≡ 1 → r ≡ s → BitMarked s k r
mark_set s k r h e = rw e (record { here = h; others = λ j q. q })

pub mark-add : (s k r : ℕ) → bit k s ≡ 0 → r ≡ 2 ^ k + s → BitMarked s k r
mark-add s k r h e = rw e (record {
  here = bit-add-same k s h;
  others = λ j q. ⊎_elim (λ (z : k ≡ j). rw (← z) (bit-add-same k s h)) (λ (n : k ≡ j → ⊥). bit-add-other k j s n h ∙ q) (eq-or-ne k j);
})

two-bits : (x : ℕ) → (x % 2 ≡ 1 → ⊥) → x % 2 ≡ 0
two-bits x n = ⊎_elim (λ (h : x % 2 ≤ 0). omega arith) (λ (h : 0 < x % 2). absurd (n (omega arith))) (le-or-lt (x % 2) 0)

pub bit-unset : (k s : ℕ) → eqb (bit k s) 1 ≡ false → bit k s ≡ 0
bit-unset k s e = two-bits (s / 2 ^ k) (eqb-false (bit k s) 1 e)

pub seen_none : (b : Board) (s : List ℕ) → SeenBelow b 0 s
seen_none b s j u h = absurd (omega arith)

-- the word of line k's train
pub seen_here : (b : Board) (k u i w : ℕ) (s : List ℕ) → SeenBelow b k s → TrainOf b k u → i ≡ u / 64 % 16 → w ≡ get_or s i 0 → SeenHere b k w
seen_here b k u i w s seen f e q j v h x y =
    let z : v ≡ u = f v y in
    let g = seen j v h x in
    rw (q, e, ← z) g

pub seen_more : (b : Board) (k u i w r : ℕ) (s : List ℕ) → length s ≡ 16 → SeenBelow b k s → TrainOf b k u → i ≡ u / 64 % 16 → w ≡ get_or s i 0 → BitMarked w (u % 64) r → SeenBelow b (k + 1) (set s i r)
seen_more b k u i w r s size seen f e q m j v h x =
    ⊎_elim
    (λ (y : v / 64 % 16 ≡ i).
    let same : get_or (set s i r) (v / 64 % 16) 0 ≡ r = rw y (get_or-set_same s i r 0 (omega arith)) in
    rw same (⊎_elim
    (λ (z : j ≡ k). let d : v ≡ u = f v (rw z at x) in rw d m.here)
    (λ (n : j ≡ k → ⊥). m.others (v % 64) (rw (q, ← y) (seen j v (omega arith) x)))
    (eq-or-ne j k)))
    (λ (y : v / 64 % 16 ≡ i → ⊥).
    rw (get_or-set_other s i (v / 64 % 16) r 0 y) (⊎_elim
    (λ (z : j ≡ k). let d : v ≡ u = f v (rw z at x) in absurd (y (rw d (sym e))))
    (λ (n : j ≡ k → ⊥). seen j v (omega arith) x)
    (eq-or-ne j k)))
    (eq-or-ne (v / 64 % 16) i)
