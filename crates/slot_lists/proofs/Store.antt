-- What storing a group's words leaves. Assumes nothing.
use mathlib.Core.Path.{◌≡◌, refl, sym, ap, ◌∙◌}
use mathlib.Core.Bool.{true, false}
use mathlib.Core.Logic.{◌⊎◌, inl, inr, ⊎_elim}
use Prim.Native.Nat.{ℕ, ◌^◌, ◌≤◌, ◌<◌}
use mathlib.Core.List.{List}
use mathlib.Core.Option.{some}
use native.Mathlib.Omega.{arith}
use borrow.Author.Tests.{ne_eqb}
use lib.Dec.{eqb}
use Rattle.words.specs.Bits.{bit}
use Rattle.words.specs.Words.{word_at, put_word}
use Rattle.words.proofs.Laws.{length-put_word, word_at-put_word-same, word_at-put_word-other}
use Rattle.rings.specs.Rings.{Long}
use Rattle.slot_lists.specs.Lists.{groups_end, groups_word, back_word, start_word, map_word, groups_at, map_of}
use Rattle.slot_lists.specs.Changes.{WithBit, GroupStored}
use Rattle.slot_lists.proofs.Laws.{ring-word, rest-word, map_on, map-off, map_same, start-on, start-off, start-same}

module _ (t : List ℕ) (g m r : ℕ) (long : Long t) (lo : 16 ≤ g) (hi : g ≤ 31) (pos : 0 < m) (fits : m < 2 ^ 64) (start_fits : r < 2 ^ 64) where
  -- the two words of the group
  abbrev two : List ℕ
  two = put_word (put_word t (map_word g) m) (start_word g) r

  other : (j : ℕ) → (j ≡ map_word g → ⊥) → (j ≡ start_word g → ⊥) → word_at two j ≡ word_at t j
  other j p q = word_at-put_word-other (put_word t (map_word g) m) (start_word g) j r q ∙ word_at-put_word-other t (map_word g) j m p

  map_is : word_at two (map_word g) ≡ m
  map_is = word_at-put_word-other (put_word t (map_word g) m) (start_word g) (map_word g) r (omega arith) ∙ word_at-put_word-same t (map_word g) m (omega arith) fits

  start_is : word_at two (start_word g) ≡ r
  start_is = word_at-put_word-same (put_word t (map_word g) m) (start_word g) r (omega (arith, length-put_word t (map_word g) m)) start_fits

  some-map : eqb m 0 ≡ false
  some-map = ne_eqb m 0 (λ z. omega arith)

  -- it is marked now
  pub stored-new : (x : ℕ) → x < 2 ^ 64 → WithBit (groups_at t) g true x → GroupStored t (put_word two groups_word x) g m r
  stored-new x hx w =
      let u = put_word two groups_word x in
      let groups : groups_at u ≡ x = word_at-put_word-same two groups_word x (omega (arith, length-put_word t (map_word g) m, length-put_word (put_word t (map_word g) m) (start_word g) r)) hx in
      let here : bit g (groups_at u) ≡ 1 = ap (bit g) groups ∙ w.same in
      let bits : (i : ℕ) → (i ≡ g → ⊥) → bit i (groups_at u) ≡ bit i (groups_at t) = λ i ne. ap (bit i) groups ∙ w.others i (λ q. ne (sym q)) in
      let last : (j : ℕ) → (j ≡ groups_word → ⊥) → word_at u j ≡ word_at two j = λ j ne. word_at-put_word-other two groups_word j x ne in
      record {
        apart = record {
          below = λ j h. last j (omega arith) ∙ other j (omega arith) (omega arith);
          back = last back_word (omega arith) ∙ other back_word (omega arith) (omega arith);
          rest = rest-word two groups_word x (omega arith) ∙ rest-word (put_word t (map_word g) m) (start_word g) r (omega arith) ∙ rest-word t (map_word g) m (omega arith);
        };
        map = map_on u g here ∙ last (map_word g) (omega arith) ∙ map_is;
        maps = λ i p q ne. map_same t u i (bits i ne) (last (map_word i) (omega arith) ∙ other (map_word i) (λ x. ne (omega arith)) (λ x. omega arith));
        start = start-on u g here ∙ ap some (last (start_word g) (omega arith) ∙ start_is) ∙ sym (rw some-map);
        starts = λ i p q ne. start-same t u i (bits i ne) (last (start_word i) (omega arith) ∙ other (start_word i) (λ x. omega arith) (λ x. ne (omega arith)));
        group = here ∙ sym (rw some-map);
        groups = bits;
        high = λ h. rw groups (w.small 32 (omega arith) h);
        rings = λ i h. ring-word two groups_word x i (omega arith) ∙ ring-word (put_word t (map_word g) m) (start_word g) r i (omega arith) ∙ ring-word t (map_word g) m i (omega arith);
      }

-- one word of a group that is marked: its other word stays
module _ (t : List ℕ) (g : ℕ) (long : Long t) (lo : 16 ≤ g) (hi : g ≤ 31) (on : bit g (groups_at t) ≡ 1) where
  stored_one : (j v m r : ℕ) → (j ≡ map_word g) ⊎ (j ≡ start_word g) → 0 < m → word_at (put_word t j v) (map_word g) ≡ m → word_at (put_word t j v) (start_word g) ≡ r → GroupStored t (put_word t j v) g m r
  stored_one j v m r which pos map_is start_is =
      let u = put_word t j v in
      let near : (j ≡ map_word g → ⊥) → j ≡ start_word g = λ ne. ⊎_elim (λ (e : j ≡ map_word g). absurd (ne e)) (λ (e : j ≡ start_word g). e) which in
      let bounds : (start_word 16 ≤ j) × (j < groups_end) = ⊎_elim (λ (e : j ≡ map_word g). (omega (arith, e), omega (arith, e))) (λ (e : j ≡ start_word g). (omega (arith, e), omega (arith, e))) which in
      let other : (i : ℕ) → (i ≡ j → ⊥) → word_at u i ≡ word_at t i = λ i ne. word_at-put_word-other t j i v ne in
      let groups : groups_at u ≡ groups_at t = other groups_word (λ e. omega (arith, e, bounds)) in
      let here : bit g (groups_at u) ≡ 1 = ap (bit g) groups ∙ on in
      let some-map : eqb m 0 ≡ false = ne_eqb m 0 (λ z. omega arith) in
      record {
        apart = record {
          below = λ i h. other i (λ e. omega (arith, e, bounds));
          back = other back_word (λ e. omega (arith, e, bounds));
          rest = rest-word t j v bounds.1;
        };
        map = map_on u g here ∙ map_is;
        maps = λ i p q ne. map_same t u i (ap (bit i) groups) (other (map_word i) (λ e. ⊎_elim (λ (z : j ≡ map_word g). ne (omega (arith, e, z))) (λ (z : j ≡ start_word g). omega (arith, e, z)) which));
        start = start-on u g here ∙ ap some start_is ∙ sym (rw some-map);
        starts = λ i p q ne. start-same t u i (ap (bit i) groups) (other (start_word i) (λ e. ⊎_elim (λ (z : j ≡ map_word g). omega (arith, e, z)) (λ (z : j ≡ start_word g). ne (omega (arith, e, z))) which));
        group = here ∙ sym (rw some-map);
        groups = λ i ne. ap (bit i) groups;
        high = λ h. rw groups h;
        rings = λ i h. ring-word t j v i bounds.1;
      }

  pub stored-lists : (m : ℕ) → 0 < m → m < 2 ^ 64 → GroupStored t (put_word t (map_word g) m) g m (word_at t (start_word g))
  stored-lists m pos fits = stored_one (map_word g) m m (word_at t (start_word g)) (inl refl) pos (word_at-put_word-same t (map_word g) m (omega arith) fits) (word_at-put_word-other t (map_word g) (start_word g) m (omega arith))

  pub stored-start : (r : ℕ) → 0 < map_of t g → r < 2 ^ 64 → GroupStored t (put_word t (start_word g) r) g (map_of t g) r
  stored-start r pos fits =
      stored_one (start_word g) r (map_of t g) r (inr refl) pos (word_at-put_word-other t (start_word g) (map_word g) r (omega arith) ∙ sym (map_on t g on)) (word_at-put_word-same t (start_word g) r (omega arith) fits)

-- the group has no lanes any more
pub stored-none : (t : List ℕ) (g x : ℕ) → Long t → 16 ≤ g → g ≤ 31 → x < 2 ^ 64 → WithBit (groups_at t) g false x → GroupStored t (put_word t groups_word x) g 0 0
stored-none t g x long lo hi hx w =
    let u = put_word t groups_word x in
    let groups : groups_at u ≡ x = word_at-put_word-same t groups_word x (omega arith) hx in
    let here : bit g (groups_at u) ≡ 0 = ap (bit g) groups ∙ w.same in
    let bits : (i : ℕ) → (i ≡ g → ⊥) → bit i (groups_at u) ≡ bit i (groups_at t) = λ i ne. ap (bit i) groups ∙ w.others i (λ q. ne (sym q)) in
    let other : (j : ℕ) → (j ≡ groups_word → ⊥) → word_at u j ≡ word_at t j = λ j ne. word_at-put_word-other t groups_word j x ne in
    record {
      apart = record { below = λ j h. other j (omega arith); back = other back_word (omega arith); rest = rest-word t groups_word x (omega arith) };
      map = map-off u g (λ e. omega (arith, e, here));
      maps = λ i p q ne. map_same t u i (bits i ne) (other (map_word i) (omega arith));
      start = start-off u g (λ e. omega (arith, e, here));
      starts = λ i p q ne. start-same t u i (bits i ne) (other (start_word i) (omega arith));
      group = here;
      groups = bits;
      high = λ h. rw groups (w.small 32 (omega arith) h);
      rings = λ i h. ring-word t groups_word x i (omega arith);
    }

-- one store after another
pub stored-then : (t u w : List ℕ) (g m r x : ℕ) → GroupStored t u g m x → GroupStored u w g m r → GroupStored t w g m r
stored-then t u w g m r x a b =
    record {
      apart = record { below = λ j h. b.apart.below j h ∙ a.apart.below j h; back = b.apart.back ∙ a.apart.back; rest = b.apart.rest ∙ a.apart.rest };
      map = b.map;
      maps = λ i p q ne. b.maps i p q ne ∙ a.maps i p q ne;
      start = b.start;
      starts = λ i p q ne. b.starts i p q ne ∙ a.starts i p q ne;
      group = b.group;
      groups = λ i ne. b.groups i ne ∙ a.groups i ne;
      high = λ h. b.high (a.high h);
      rings = λ i h. b.rings i h ∙ a.rings i h;
    }
