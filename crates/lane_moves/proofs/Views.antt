-- The lists of all groups while one group's word of lists is at hand and not stored. Assumes nothing.
use mathlib.Core.Path.{◌≡◌, refl, sym, ap, subst, ◌∙◌}
use mathlib.Core.Bool.{Bool}
use mathlib.Core.Logic.{⊎_elim}
use Prim.Native.Nat.{ℕ, ◌+◌, ◌%◌, ◌^◌, ◌≤◌, ◌<◌}
use mathlib.Core.List.{List}
use native.Mathlib.Omega.{arith}
use borrow.Author.Tests.{eq-eqb, ne_eqb}
use lib.Dec.{eqb}
use Rattle.std.specs.Prelude.{if◌then◌else◌}
use Rattle.words.specs.Bits.{bit}
use Rattle.words.specs.Words.{word_at}
use Rattle.words.proofs.Runs.{eq-or-ne}
use Rattle.slot_lists.specs.Lists.{groups_end, groups_word, back_word, start_word, map_word, ring_number, groups_at, back_at, map_of, list_in, list_at, start_at, Fills, Solid}
use Rattle.slot_lists.specs.Changes.{ListMoved, Apart, GroupStored}
use Rattle.slot_lists.proofs.Laws.{words-below, map_same, start-same, list_same}
use Rattle.filing.specs.Filing.{Lists}
use Rattle.filing.proofs.Moves.{Changed}

-- the lists, m being the word of group g's
unfoldable pub under : List ℕ → ℕ → ℕ → Lists
under t g m i c = if eqb i g then list_in t g m c else list_at t i c

pub under-here : (t : List ℕ) (g m c : ℕ) → under t g m g c ≡ list_in t g m c
unfolding under
under-here t g m c = rw (eq-eqb g g refl)

pub under-there : (t : List ℕ) (g m i c : ℕ) → (i ≡ g → ⊥) → under t g m i c ≡ list_at t i c
unfolding under
under-there t g m i c ne = rw (ne_eqb i g ne)

pub under-own : (t : List ℕ) (g i c : ℕ) → under t g (map_of t g) i c ≡ list_at t i c
under-own t g i c =
    ⊎_elim
    (λ (e : i ≡ g). subst (λ (i : ℕ). under t g (map_of t g) i c ≡ list_at t i c) (sym e) (under-here t g (map_of t g) c))
    (λ (ne : i ≡ g → ⊥). under-there t g (map_of t g) i c ne)
    (eq-or-ne i g)

-- the same, but for the word of group g
pub record Nearly (t : List ℕ) (g m : ℕ) : Type 0 where
  pub mine : Fills t g m
  pub fills : (i : ℕ) → 16 ≤ i → i ≤ 31 → (i ≡ g → ⊥) → Fills t i (map_of t i)
  pub groups : (i : ℕ) → bit i (groups_at t) ≡ 1 → (16 ≤ i) × (i ≤ 31)
  pub some_list : (i : ℕ) → (i ≡ g → ⊥) → bit i (groups_at t) ≡ 1 → 0 < map_of t i
  pub high : groups_at t < 2 ^ 32
  pub back_whole : back_at t % 2 ^ 31 ≡ 0
  pub back_small : back_at t < 2 ^ 36

pub solid-nearly : (t : List ℕ) (g : ℕ) → 16 ≤ g → g ≤ 31 → Solid t → Nearly t g (map_of t g)
solid-nearly t g lo hi s =
    record {
      mine = s.fills g lo hi;
      fills = λ i x y ne. s.fills i x y;
      groups = s.groups;
      some_list = λ i ne e. s.some_list i e;
      high = s.high;
      back_whole = s.back_whole;
      back_small = s.back_small;
    }

-- ---- a list was changed

module _ (t u l : List ℕ) (g m m' b : ℕ) (v : ListMoved t u g m m' b l) where
  pub same_word : (j : ℕ) → j < groups_end → word_at u j ≡ word_at t j
  same_word = words-below t u v.below

  same_bit : (i : ℕ) → bit i (groups_at u) ≡ bit i (groups_at t)
  same_bit i = ap (bit i) (same_word groups_word (omega arith))

  same_map : (i : ℕ) → i ≤ 31 → map_of u i ≡ map_of t i
  same_map i h = map_same t u i (same_bit i) (same_word (map_word i) (omega arith))

  pub same_start : (i : ℕ) → i ≤ 31 → start_at u i ≡ start_at t i
  same_start i h = start-same t u i (same_bit i) (same_word (start_word i) (omega arith))

  same-list : (i c : ℕ) → 16 ≤ i → i ≤ 31 → c < 32 → (i ≡ g → ⊥) → list_at u i c ≡ list_at t i c
  same-list i c x y z ne = list_same t u i (map_of t i) (map_of u i) c (ap (bit c) (same_map i y)) (v.rings i c x y z ne)

  pub moved-changed : Changed (under t g m) (under u g m') g b l
  moved-changed =
      record {
        list = under-here u g m' b ∙ v.list;
        others = λ i c x y z ne.
            ⊎_elim
            (λ (e : i ≡ g).
            subst (λ (i : ℕ). under u g m' i c ≡ under t g m i c) (sym e)
            (under-here u g m' c ∙ v.others c z (λ q. ne e q) ∙ sym (under-here t g m c)))
            (λ (n : i ≡ g → ⊥). under-there u g m' i c n ∙ same-list i c x y z n ∙ sym (under-there t g m i c n))
            (eq-or-ne i g);
      }

  pub moved-nearly : Nearly t g m → Nearly u g m'
  moved-nearly n =
      record {
        mine = v.fills n.mine;
        fills = λ i x y ne.
            let f = n.fills i x y ne in
            rw (same_map i y) (record { narrow = f.narrow; filled = λ c hc e. rw (v.rings i c x y hc ne) (f.filled c hc e) });
        groups = λ i e. n.groups i (sym (same_bit i) ∙ e);
        some_list = λ i ne e.
            let old = sym (same_bit i) ∙ e in
            rw (same_map i (n.groups i old).1) (n.some_list i ne old);
        high = rw (same_word groups_word (omega arith)) n.high;
        back_whole = rw (same_word back_word (omega arith)) n.back_whole;
        back_small = rw (same_word back_word (omega arith)) n.back_small;
      }

  pub moved_apart : Apart t u
  moved_apart = record { below = λ j h. same_word j (omega arith); back = same_word back_word (omega arith); rest = v.rest }

-- ---- the group's words were stored

module _ (t u : List ℕ) (g m r : ℕ) (lo : 16 ≤ g) (hi : g ≤ 31) (v : GroupStored t u g m r) where
  stored-list : (i c : ℕ) → 16 ≤ i → i ≤ 31 → c < 32 → list_at u i c ≡ under t g m i c
  stored-list i c x y z =
      ⊎_elim
      (λ (e : i ≡ g).
      subst (λ (i : ℕ). list_at u i c ≡ under t g m i c) (sym e)
      (list_same t u g m (map_of u g) c (ap (bit c) v.map) (v.rings (ring_number g c) (omega arith)) ∙ sym (under-here t g m c)))
      (λ (ne : i ≡ g → ⊥). list_same t u i (map_of t i) (map_of u i) c (ap (bit c) (v.maps i x y ne)) (v.rings (ring_number i c) (omega arith)) ∙ sym (under-there t g m i c ne))
      (eq-or-ne i g)

  pub stored-solid : Nearly t g m → Solid u
  stored-solid n =
      record {
        fills = λ i x y.
            ⊎_elim
            (λ (e : i ≡ g).
            subst (λ (i : ℕ). Fills u i (map_of u i)) (sym e) (rw v.map
            (record { narrow = n.mine.narrow; filled = λ c hc q. rw (v.rings (ring_number g c) (omega arith)) (n.mine.filled c hc q) })))
            (λ (ne : i ≡ g → ⊥).
            let f = n.fills i x y ne in
            rw (v.maps i x y ne) (record { narrow = f.narrow; filled = λ c hc q. rw (v.rings (ring_number i c) (omega arith)) (f.filled c hc q) }))
            (eq-or-ne i g);
        groups = λ i e.
            ⊎_elim
            (λ (q : i ≡ g). (omega (arith, q), omega (arith, q)))
            (λ (ne : i ≡ g → ⊥). n.groups i (sym (v.groups i ne) ∙ e))
            (eq-or-ne i g);
        some_list = λ i e.
            ⊎_elim
            (λ (q : i ≡ g). subst (λ (i : ℕ). 0 < map_of u i) (sym q) (rw v.map (not_none (subst (λ (i : ℕ). bit i (groups_at u) ≡ 1) q e))))
            (λ (ne : i ≡ g → ⊥).
            let old = sym (v.groups i ne) ∙ e in
            let b = n.groups i old in
            rw (v.maps i b.0 b.1 ne) (n.some_list i ne old))
            (eq-or-ne i g);
        high = v.high n.high;
        back_whole = rw v.apart.back n.back_whole;
        back_small = rw v.apart.back n.back_small;
      }
    where
      not_none : bit g (groups_at u) ≡ 1 → 0 < m
      not_none e = ⊎_elim (λ (z : m ≡ 0). absurd (omega (arith, e, v.group, ap (λ (b : Bool). ◌+◌ (if b then 0 else 1) 0) (eq-eqb m 0 z)))) (λ (z : m ≡ 0 → ⊥). omega arith) (eq-or-ne m 0)

  -- a change up to here is one of the stored lists
  pub then-stored : (lists : Lists) (b : ℕ) (l : List ℕ) → b < 32 → Changed lists (under t g m) g b l → Changed lists (list_at u) g b l
  then-stored lists b l hb c =
      record { list = stored-list g b lo hi hb ∙ c.list; others = λ i d x y z ne. stored-list i d x y z ∙ c.others i d x y z ne }

-- a change from the stored lists
pub own-changed : (t : List ℕ) (g b : ℕ) (l : List ℕ) (lists : Lists) → Changed (under t g (map_of t g)) lists g b l → Changed (list_at t) lists g b l
own-changed t g b l lists c = record { list = c.list; others = λ i d x y z ne. c.others i d x y z ne ∙ under-own t g i d }
