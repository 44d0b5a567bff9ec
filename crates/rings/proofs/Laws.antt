-- Laws of the rings: one more at the end, one less at the front, one alone. Assumes nothing.
use mathlib.Core.Path.{◌≡◌, sym, ap, subst, ◌∙◌}
use Prim.Native.Nat.{ℕ, suc, ◌+◌, ◌-◌, ◌%◌, ◌≤◌, ◌<◌}
use mathlib.Core.List.{List, [], ◌∷◌, ◌++◌}
use native.Mathlib.Nat.{add-zero}
use native.Mathlib.Omega.{arith}
use lib.ListN.{length, get_or, set, drop, length-set}
use lib.Seq.{get_or-set_same, get_or-set_other, drop-set-lt}
use Rattle.words.specs.Runs.{tab, tab_from}
use Rattle.words.proofs.Runs.{tab-ext, tab-snoc, tab-cons, length-tab, get_d-tab}
use Rattle.rings.specs.Rings.{rings_end, Long, head_byte, count_byte, place_byte, ring_of, ring_at, Rung}

pub length-ring : (t : List ℕ) (i : ℕ) → length (ring_at t i) ≡ get_or t (count_byte i) 0
unfolding ring_at ring_of
length-ring t i = length-tab _ _

pub entry-ring : (t : List ℕ) (i j : ℕ) → j < get_or t (count_byte i) 0 → get_or (ring_at t i) j 0 ≡ get_or t (place_byte i (get_or t (head_byte i) 0 + j)) 0
unfolding ring_at ring_of
entry-ring t i j h = get_d-tab _ j _ 0 h

-- ---- a change in ring i's own bytes

pub record Within (t u : List ℕ) (i : ℕ) : Type 0 where
  pub kept : (a : ℕ) → (a ≡ head_byte i → ⊥) → (a ≡ count_byte i → ⊥) → (place_byte i 0 ≤ a → a < place_byte i 0 + 64 → ⊥) → get_or u a 0 ≡ get_or t a 0
  pub rest : drop rings_end u ≡ drop rings_end t

ring-kept : (t u : List ℕ) (i j : ℕ) → j < 512 → i < 512 → (j ≡ i → ⊥) → Within t u i → ring_at u j ≡ ring_at t j
unfolding ring_at ring_of
ring-kept t u i j hj hi ne w =
    let head : get_or u (head_byte j) 0 ≡ get_or t (head_byte j) 0 = w.kept (head_byte j) (λ e. ne (omega arith)) (λ e. omega arith) (λ p q. omega arith) in
    let count : get_or u (count_byte j) 0 ≡ get_or t (count_byte j) 0 = w.kept (count_byte j) (λ e. omega arith) (λ e. ne (omega arith)) (λ p q. omega arith) in
    rw (head, count) (tab-ext _ _ _ (λ x p. w.kept (place_byte j (get_or t (head_byte j) 0 + x)) (λ e. omega arith) (λ e. omega arith) (λ p q. ne (omega arith))))

pub rung : (t u l : List ℕ) (i : ℕ) → i < 512 → Within t u i → ring_at u i ≡ l → Rung t u i l
rung t u l i hi w e =
    record {
      ring = e;
      others = λ j hj ne. ring-kept t u i j hj hi ne w;
      below = λ a h. w.kept a (λ e. omega arith) (λ e. omega arith) (λ p q. omega arith);
      rest = w.rest;
    }

module _ (t : List ℕ) (i p v x : ℕ) (hi : i < 512) where
  -- a place and the number are stored
  within-place : Within t (set (set t (place_byte i p) v) (count_byte i) x) i
  within-place =
      record {
        kept = λ a q r s. get_or-set_other (set t (place_byte i p) v) (count_byte i) a x 0 r ∙ get_or-set_other t (place_byte i p) a v 0 (λ e. s (omega arith) (omega arith));
        rest = drop-set-lt rings_end (set t (place_byte i p) v) (count_byte i) x (omega arith) ∙ drop-set-lt rings_end t (place_byte i p) v (omega arith);
      }

  -- the first place and the number are stored
  within-head : Within t (set (set t (head_byte i) v) (count_byte i) x) i
  within-head =
      record {
        kept = λ a q r s. get_or-set_other (set t (head_byte i) v) (count_byte i) a x 0 r ∙ get_or-set_other t (head_byte i) a v 0 q;
        rest = drop-set-lt rings_end (set t (head_byte i) v) (count_byte i) x (omega arith) ∙ drop-set-lt rings_end t (head_byte i) v (omega arith);
      }

-- ---- the three changes

module _ (t : List ℕ) (i k : ℕ) (room : Long t) (hi : i < 512) where
  abbrev h : ℕ
  h = get_or t (head_byte i) 0

  abbrev n : ℕ
  n = get_or t (count_byte i) 0

  -- the ring after a place and the number are stored
  stored : (p x : ℕ) → ring_at (set (set t (place_byte i p) k) (count_byte i) x) i ≡ ring_of (set t (place_byte i p) k) i h x
  unfolding ring_at ring_of
  stored p x =
      let u = set t (place_byte i p) k in
      let head : get_or (set u (count_byte i) x) (head_byte i) 0 ≡ h = get_or-set_other u (count_byte i) (head_byte i) x 0 (omega arith) ∙ get_or-set_other t (place_byte i p) (head_byte i) k 0 (omega arith) in
      let count : get_or (set u (count_byte i) x) (count_byte i) 0 ≡ x = get_or-set_same u (count_byte i) x 0 (rw length-set (omega arith)) in
      rw (head, count) (tab-ext x _ _ (λ j q. get_or-set_other u (count_byte i) (place_byte i (h + j)) x 0 (omega arith)))

  one : ring_of (set t (place_byte i h) k) i h 1 ≡ k ∷ []
  unfolding ring_of tab tab_from
  one = rw (add-zero, get_or-set_same t (place_byte i h) k 0 (omega arith))

  pub begun : Rung t (set (set t (place_byte i h) k) (count_byte i) 1) i (k ∷ [])
  begun = rung t _ _ i hi (within-place t i h k 1 hi) (stored h 1 ∙ one)

  snoc : length (ring_at t i) < 64 → ring_of (set t (place_byte i (h + n)) k) i h (n + 1) ≡ ring_at t i ++ (k ∷ [])
  unfolding ring_at ring_of
  snoc small =
      let u = set t (place_byte i (h + n)) k in
      let few : n < 64 = omega (arith, length-ring t i) in
      let last : get_or u (place_byte i (h + n)) 0 ≡ k = get_or-set_same t (place_byte i (h + n)) k 0 (omega arith) in
      let same : tab n (λ j. get_or u (place_byte i (h + j)) 0) ≡ tab n (λ j. get_or t (place_byte i (h + j)) 0) = tab-ext n _ _ (λ j p. get_or-set_other t (place_byte i (h + n)) (place_byte i (h + j)) k 0 (omega arith)) in
      tab-snoc n (λ j. get_or u (place_byte i (h + j)) 0) ∙ rw (same, last)

  pub pushed : length (ring_at t i) < 64 → Rung t (set (set t (place_byte i (h + n)) k) (count_byte i) (n + 1)) i (ring_at t i ++ (k ∷ []))
  pushed small = rung t _ _ i hi (within-place t i (h + n) k (n + 1) hi) (stored (h + n) (n + 1) ∙ snoc small)

module _ (t : List ℕ) (i : ℕ) (room : Long t) (hi : i < 512) (some : 0 < length (ring_at t i)) where
  abbrev first : ℕ
  first = get_or t (head_byte i) 0

  abbrev size : ℕ
  size = get_or t (count_byte i) 0

  abbrev next : ℕ
  next = (first + 1) % 64

  behind : ring_at (set (set t (head_byte i) next) (count_byte i) (size - 1)) i ≡ ring_of t i next (size - 1)
  unfolding ring_at ring_of
  behind =
      let u = set t (head_byte i) next in
      let head : get_or (set u (count_byte i) (size - 1)) (head_byte i) 0 ≡ next = get_or-set_other u (count_byte i) (head_byte i) (size - 1) 0 (omega arith) ∙ get_or-set_same t (head_byte i) next 0 (omega arith) in
      let count : get_or (set u (count_byte i) (size - 1)) (count_byte i) 0 ≡ size - 1 = get_or-set_same u (count_byte i) (size - 1) 0 (rw length-set (omega arith)) in
      rw (head, count) (tab-ext (size - 1) _ _ (λ j q. get_or-set_other u (count_byte i) (place_byte i (next + j)) (size - 1) 0 (omega arith) ∙ get_or-set_other t (head_byte i) (place_byte i (next + j)) next 0 (omega arith)))

  cons : ring_at t i ≡ get_or t (place_byte i first) 0 ∷ ring_of t i next (size - 1)
  unfolding ring_at ring_of
  cons =
      let e : size ≡ suc (size - 1) = omega (arith, length-ring t i) in
      let on : (j : ℕ) → place_byte i (first + suc j) ≡ place_byte i (next + j) = λ j. omega arith in
      ap (λ (m : ℕ). tab m (λ j. get_or t (place_byte i (first + j)) 0)) e
      ∙ tab-cons (size - 1) (λ j. get_or t (place_byte i (first + j)) 0) (λ j. get_or t (place_byte i (next + j)) 0) (λ j. ap (λ (p : ℕ). get_or t p 0) (on j))
      ∙ rw add-zero

  pub popped : Rung t (set (set t (head_byte i) next) (count_byte i) (size - 1)) i (drop 1 (ring_at t i))
  popped = rung t _ _ i hi (within-head t i 0 next (size - 1) hi) (behind ∙ sym (ap (drop 1) cons))

-- ---- from the stores of `begin`, `push` and `pop` to what they leave

pub begin-leaves : (t t₁ t' : List ℕ) (i k h : ℕ) → Long t → i < 512 → h ≡ get_or t (head_byte i) 0
    → t₁ ≡ set t (place_byte i h) k → t' ≡ set t₁ (count_byte i) 1 → Rung t t' i (k ∷ [])
begin-leaves t t₁ t' i k h room hi e a b =
    subst (λ (u : List ℕ). Rung t u i (k ∷ []))
    (sym (b ∙ ap (λ (u : List ℕ). set u (count_byte i) 1) (a ∙ ap (λ (x : ℕ). set t (place_byte i x) k) e)))
    (begun t i k room hi)

pub push-leaves : (t t₁ t' : List ℕ) (i k h n : ℕ) → Long t → i < 512 → length (ring_at t i) < 64 → h ≡ get_or t (head_byte i) 0 → n ≡ get_or t (count_byte i) 0
    → t₁ ≡ set t (place_byte i (h + n)) k → t' ≡ set t₁ (count_byte i) (n + 1) → Rung t t' i (ring_at t i ++ (k ∷ []))
push-leaves t t₁ t' i k h n room hi small e f a b =
    subst (λ (u : List ℕ). Rung t u i (ring_at t i ++ (k ∷ [])))
    (sym (b ∙ ap (λ (u : List ℕ). set u (count_byte i) (n + 1)) (a ∙ ap (λ (x : ℕ). set t (place_byte i (x + n)) k) e) ∙ ap (λ (x : ℕ). set (set t (place_byte i (get_or t (head_byte i) 0 + x)) k) (count_byte i) (x + 1)) f))
    (pushed t i k room hi small)

pub pop-leaves : (t t₁ t' : List ℕ) (i h n : ℕ) → Long t → i < 512 → 0 < length (ring_at t i) → h ≡ get_or t (head_byte i) 0 → n ≡ get_or t (count_byte i) 0
    → t₁ ≡ set t (head_byte i) ((h + 1) % 64) → t' ≡ set t₁ (count_byte i) (n - 1) → Rung t t' i (drop 1 (ring_at t i))
pop-leaves t t₁ t' i h n room hi some e f a b =
    subst (λ (u : List ℕ). Rung t u i (drop 1 (ring_at t i)))
    (sym (b ∙ ap (λ (u : List ℕ). set u (count_byte i) (n - 1)) (a ∙ ap (λ (x : ℕ). set t (head_byte i) ((x + 1) % 64)) e) ∙ ap (λ (x : ℕ). set (set t (head_byte i) ((get_or t (head_byte i) 0 + 1) % 64)) (count_byte i) (x - 1)) f))
    (popped t i room hi some)
