-- Laws of the slot lists: from the changes of rings and words to the lists that they leave. Assumes nothing.
use mathlib.Core.Path.{◌≡◌, refl, sym, ap, subst, ◌∙◌}
use mathlib.Core.Bool.{Bool, true, false, false≢true}
use mathlib.Core.Logic.{⊎_elim}
use Prim.Native.Nat.{ℕ, ◌+◌, ◌*◌, ◌/◌, ◌≤◌, ◌<◌}
use mathlib.Core.List.{List, [], ◌∷◌, ◌++◌}
use mathlib.Core.Option.{Option, none, some}
use native.Mathlib.Omega.{arith}
use borrow.Author.Tests.{eq-eqb, ne_eqb}
use lib.ListN.{length, get_or, drop, length-append}
use lib.Pow.{pow_pos}
use Rattle.std.specs.Prelude.{if◌then◌else◌}
use Rattle.words.specs.Bits.{bit}
use Rattle.words.specs.Words.{le_val, le_bytes, word_at, put_word}
use Rattle.words.proofs.Bits.{bit-above}
use Rattle.words.proofs.Runs.{eq-or-ne, reads-ext, tab-ext, get_d-sets-above}
use Rattle.words.proofs.Laws.{drop-put_word}
use Rattle.rings.specs.Rings.{rings_from, rings_end, head_byte, count_byte, place_byte, ring_of, ring_at, Rung}
use Rattle.slot_lists.specs.Lists.{groups_end, start_word, map_word, ring_number, groups_at, map_of, list_in, start_at, Fills}
use Rattle.slot_lists.specs.Changes.{ListMoved, WithBit}
use Rattle.slot_lists.proofs.Bits.{bit-stays}

length-zero : (l : List ℕ) → length l ≡ 0 → l ≡ []
length-zero [] h = refl
length-zero (x ∷ xs) h = absurd (omega arith)

-- ---- words and rings lie apart

-- bytes that agree below the rings have the same words there
pub words-below : (t u : List ℕ) → ((a : ℕ) → a < rings_from → get_or u a 0 ≡ get_or t a 0) → (j : ℕ) → j < groups_end → word_at u j ≡ word_at t j
unfolding word_at
words-below t u h j hj = ap le_val (reads-ext t u (j * 8) 8 (λ i p q. h i (omega arith)))

above : (t : List ℕ) (j v a : ℕ) → j < groups_end → rings_from ≤ a → get_or (put_word t j v) a 0 ≡ get_or t a 0
unfolding put_word le_bytes
above t j v a hj h = get_d-sets-above (le_bytes 8 v) t (j * 8) a 0 (omega arith)

-- a store of a word leaves the rings
pub ring-word : (t : List ℕ) (j v i : ℕ) → j < groups_end → ring_at (put_word t j v) i ≡ ring_at t i
unfolding ring_at ring_of
ring-word t j v i hj =
    rw (above t j v (head_byte i) hj (omega arith), above t j v (count_byte i) hj (omega arith))
    (tab-ext _ _ _ (λ x p. above t j v (place_byte i (get_or t (head_byte i) 0 + x)) hj (omega arith)))

pub rest-word : (t : List ℕ) (j v : ℕ) → j < groups_end → drop rings_end (put_word t j v) ≡ drop rings_end t
rest-word t j v hj = drop-put_word (rings_end / 8) t j v (omega arith)

-- ---- a group's words

pub map_on : (t : List ℕ) (g : ℕ) → bit g (groups_at t) ≡ 1 → map_of t g ≡ word_at t (map_word g)
unfolding map_of
map_on t g e = rw (eq-eqb _ 1 e)

pub map-off : (t : List ℕ) (g : ℕ) → (bit g (groups_at t) ≡ 1 → ⊥) → map_of t g ≡ 0
unfolding map_of
map-off t g e = rw (ne_eqb (bit g (groups_at t)) 1 e)

pub map_same : (t u : List ℕ) (g : ℕ) → bit g (groups_at u) ≡ bit g (groups_at t) → word_at u (map_word g) ≡ word_at t (map_word g) → map_of u g ≡ map_of t g
unfolding map_of
map_same t u g e f = rw (e, f)

pub start-on : (t : List ℕ) (g : ℕ) → bit g (groups_at t) ≡ 1 → start_at t g ≡ some (word_at t (start_word g))
unfolding start_at
start-on t g e = rw (eq-eqb _ 1 e)

pub start-off : (t : List ℕ) (g : ℕ) → (bit g (groups_at t) ≡ 1 → ⊥) → start_at t g ≡ none
unfolding start_at
start-off t g e = rw (ne_eqb (bit g (groups_at t)) 1 e)

pub start-same : (t u : List ℕ) (g : ℕ) → bit g (groups_at u) ≡ bit g (groups_at t) → word_at u (start_word g) ≡ word_at t (start_word g) → start_at u g ≡ start_at t g
unfolding start_at
start-same t u g e f = rw (e, f)

-- a group that has a start is marked
pub start-some : (t : List ℕ) (g r : ℕ) → start_at t g ≡ some r → (bit g (groups_at t) ≡ 1) × (word_at t (start_word g) ≡ r)
start-some t g r e =
    ⊎_elim
    (λ (p : bit g (groups_at t) ≡ 1). let q = start-on t g p in (p, same (word_at t (start_word g)) (sym q ∙ e)))
    (λ (p : bit g (groups_at t) ≡ 1 → ⊥). absurd (none-some (sym (start-off t g p) ∙ e)))
    (eq-or-ne (bit g (groups_at t)) 1)
  where
    same : (x : ℕ) → some x ≡ some r → x ≡ r
    same x q = cc

    none-some : ◌≡◌ {A = Option ℕ} none (some r) → ⊥
    none-some q = let z : ◌≡◌ {A = ℕ} 0 1 = cc in omega arith

pub map-held : (t : List ℕ) (g : ℕ) → 0 < map_of t g → bit g (groups_at t) ≡ 1
map-held t g h =
    ⊎_elim
    (λ (p : bit g (groups_at t) ≡ 1). p)
    (λ (p : bit g (groups_at t) ≡ 1 → ⊥). absurd (omega (arith, h, map-off t g p)))
    (eq-or-ne (bit g (groups_at t)) 1)

-- a word with a set bit is not 0
pub some-bit : (b m : ℕ) → bit b m ≡ 1 → 0 < m
some-bit b m e = ⊎_elim (λ (z : m ≡ 0). absurd (omega (arith, e, ap (bit b) z, bit-above b 0 (pow_pos b)))) (λ (z : m ≡ 0 → ⊥). omega arith) (eq-or-ne m 0)

-- ---- a list

pub list_on : (t : List ℕ) (g m b : ℕ) → bit b m ≡ 1 → list_in t g m b ≡ ring_at t (ring_number g b)
unfolding list_in
list_on t g m b e = rw (eq-eqb _ 1 e)

pub list-off : (t : List ℕ) (g m b : ℕ) → (bit b m ≡ 1 → ⊥) → list_in t g m b ≡ []
unfolding list_in
list-off t g m b e = rw (ne_eqb (bit b m) 1 e)

pub list-some : (t : List ℕ) (g m b : ℕ) → 0 < length (list_in t g m b) → bit b m ≡ 1
list-some t g m b h =
    ⊎_elim
    (λ (p : bit b m ≡ 1). p)
    (λ (p : bit b m ≡ 1 → ⊥). absurd (omega (arith, h, ap length (list-off t g m b p))))
    (eq-or-ne (bit b m) 1)

pub list_same : (t u : List ℕ) (g m n b : ℕ) → bit b n ≡ bit b m → ring_at u (ring_number g b) ≡ ring_at t (ring_number g b) → list_in u g n b ≡ list_in t g m b
unfolding list_in
list_same t u g m n b e f = rw (e, f)

-- ---- a ring was changed, and the word of the group's lists

module _ (t u l : List ℕ) (g b m m' : ℕ) (on : Bool) (lo : 16 ≤ g) (hi : g ≤ 31) (hb : b < 32)
    (r : Rung t u (ring_number g b) l) (w : WithBit m b on m') (full : on ≡ true → 0 < length l) (empty : on ≡ false → l ≡ []) where
  ring-other : (i c : ℕ) → 16 ≤ i → i ≤ 31 → c < 32 → (i ≡ g → c ≡ b → ⊥) → ring_at u (ring_number i c) ≡ ring_at t (ring_number i c)
  ring-other i c x y z ne = r.others (ring_number i c) (omega arith) (λ e. ne (omega arith) (omega arith))

  list-here : (on₁ : Bool) → on ≡ on₁ → list_in u g m' b ≡ l
  list-here true e = list_on u g m' b (w.same ∙ rw e) ∙ r.ring
  list-here false e = list-off u g m' b (λ q. omega (arith, q, w.same, ap (λ (b : Bool). ◌+◌ (if b then 1 else 0) 0) e)) ∙ sym (empty e)

  is-on : bit b m' ≡ 1 → (on₁ : Bool) → on ≡ on₁ → on₁ ≡ true
  is-on e true q = refl
  is-on e false q = absurd (omega (arith, e, w.same, ap (λ (b : Bool). ◌+◌ (if b then 1 else 0) 0) q))

  fills-after : Fills t g m → Fills u g m'
  fills-after f =
      record {
        narrow = w.small 32 hb f.narrow;
        filled = λ c hc e.
            ⊎_elim
            (λ (q : c ≡ b).
            let ring : ring_at u (ring_number g c) ≡ l = ap (λ (x : ℕ). ring_at u (ring_number g x)) q ∙ r.ring in
            rw ring (full (is-on (subst (λ (x : ℕ). bit x m' ≡ 1) q e) on refl)))
            (λ (ne : c ≡ b → ⊥). rw (ring-other g c lo hi hc (λ x y. ne y)) (f.filled c hc (sym (w.others c (λ q. ne (sym q))) ∙ e)))
            (eq-or-ne c b);
      }

  pub moved_as : ListMoved t u g m m' b l
  moved_as =
      record {
        list = list-here on refl;
        others = λ c hc ne. list_same t u g m m' c (w.others c (λ q. ne (sym q))) (ring-other g c lo hi hc (λ x y. ne y));
        fills = fills-after;
        rings = λ i c x y z ne. ring-other i c x y z (λ p q. ne p);
        below = r.below;
        rest = r.rest;
      }

-- ---- from what `append` and `remove_first` call to what they leave

module _ (t t' : List ℕ) (g b m n : ℕ) (lo : 16 ≤ g) (hi : g ≤ 31) (hb : b < 32) (en : n ≡ ring_number g b) where
  pub append-push : (k : ℕ) → bit b m ≡ 1 → Rung t t' n (ring_at t n ++ (k ∷ [])) → ListMoved t t' g m m b (list_in t g m b ++ (k ∷ []))
  append-push k e r =
      let r' : Rung t t' (ring_number g b) (ring_at t (ring_number g b) ++ (k ∷ [])) = subst (λ (n : ℕ). Rung t t' n (ring_at t n ++ (k ∷ []))) en r in
      rw (list_on t g m b e) (moved_as t t' _ g b m m true lo hi hb r' (bit-stays m b true e) (λ q. simp length-append (omega arith)) (λ q. absurd (false≢true (sym q))))

  pub append-begin : (k m' : ℕ) → (bit b m ≡ 1 → ⊥) → Rung t t' n (k ∷ []) → WithBit m b true m' → ListMoved t t' g m m' b (list_in t g m b ++ (k ∷ []))
  append-begin k m' e r w =
      let r' : Rung t t' (ring_number g b) (k ∷ []) = subst (λ (n : ℕ). Rung t t' n (k ∷ [])) en r in
      rw (list-off t g m b e) (moved_as t t' (k ∷ []) g b m m' true lo hi hb r' w (λ q. omega arith) (λ q. absurd (false≢true (sym q))))

  module _ (more : 0 < length (list_in t g m b)) where
    pub has : bit b m ≡ 1
    has = list-some t g m b more

    pub ring-some : 0 < length (ring_at t n)
    ring-some = omega (arith, more, ap length (list_on t g m b has), ap (λ (n : ℕ). length (ring_at t n)) en)

    module _ (r : Rung t t' n (drop 1 (ring_at t n))) (h : ℕ) (eh : h ≡ length (drop 1 (ring_at t n))) where
      popped : Rung t t' (ring_number g b) (drop 1 (list_in t g m b))
      popped = rw (list_on t g m b has) (subst (λ (n : ℕ). Rung t t' n (drop 1 (ring_at t n))) en r)

      left : h ≡ length (drop 1 (list_in t g m b))
      left = eh ∙ ap (λ (n : ℕ). length (drop 1 (ring_at t n))) en ∙ ap (λ (l : List ℕ). length (drop 1 l)) (sym (list_on t g m b has))

      pub remove-more : (h ≡ 0 → ⊥) → ListMoved t t' g m m b (drop 1 (list_in t g m b))
      remove-more ne = moved_as t t' _ g b m m true lo hi hb popped (bit-stays m b true has) (λ q. omega (arith, ne, left)) (λ q. absurd (false≢true (sym q)))

      pub remove-last : (m' : ℕ) → h ≡ 0 → WithBit m b false m' → ListMoved t t' g m m' b (drop 1 (list_in t g m b))
      remove-last m' z w = moved_as t t' _ g b m m' false lo hi hb popped w (λ q. absurd (false≢true q)) (λ q. length-zero _ (omega (arith, z, left)))
