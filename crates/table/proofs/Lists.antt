-- The slot lists lie between a table's cells: what stores in the one leaves the other. Assumes nothing.
use mathlib.Core.Path.{◌≡◌, sym, ap, subst, ◌∙◌}
use mathlib.Core.Logic.{⊎_elim}
use Prim.Native.Nat.{ℕ, ◌+◌, ◌-◌, ◌*◌, ◌/◌, ◌≤◌, ◌<◌}
use mathlib.Core.List.{List, []}
use native.Mathlib.Omega.{arith}
use lib.ListN.{get_or, drop}
use lib.Seq.{get_or-drop, drop-drop}
use Rattle.words.specs.Bits.{bit}
use Rattle.words.specs.Words.{le_val, word_at}
use Rattle.words.proofs.Runs.{le-or-lt, reads-ext, tab-ext}
use Rattle.rules.specs.State.{Setting, State}
use Rattle.rules.specs.Calls.{fresh}
use Rattle.table.specs.Layout.{CELLS, SIZE, marks_cell, Behind, cells}
use Rattle.table.specs.Means.{meant, Listed}
use Rattle.rings.specs.Rings.{rings_end, head_byte, count_byte, place_byte, ring_of, ring_at}
use Rattle.slot_lists.specs.Lists.{lists_from, groups_at, groups_word, back_word, start_word, map_word, ring_number, back_at, map_of, list_in, list_at, start_at, Solid, Empty}
use Rattle.slot_lists.proofs.Emptied.{no-list, no_start, empty-solid}
use Rattle.slot_lists.specs.Changes.{Apart}
use Rattle.filing.specs.Filing.{in_aRow, Agrees}
use Rattle.filing.proofs.Flat.{flat-none, flat-ext}
use Rattle.filing.proofs.Others.{fresh-agrees}
use Rattle.table.proofs.Stores.{word-before, word-behind}

-- ---- a change of the lists leaves the cells before and behind them

-- a word that lies behind what is dropped
word-dropped : (n : ℕ) (t u : List ℕ) → drop n u ≡ drop n t → (j : ℕ) → n ≤ j * 8 → word_at u j ≡ word_at t j
unfolding word_at
word-dropped n t u e j h = ap le_val (reads-ext t u (j * 8) 8 (λ i p q. byte i (omega arith)))
  where
    byte : (a : ℕ) → n ≤ a → get_or u a 0 ≡ get_or t a 0
    byte a h =
        let at : n + (a - n) ≡ a = omega arith in
        ap (λ (x : ℕ). get_or u x 0) (sym at) ∙ sym (get_or-drop n u (a - n) 0) ∙ ap (λ (l : List ℕ). get_or l (a - n) 0) e ∙ get_or-drop n t (a - n) 0 ∙ ap (λ (x : ℕ). get_or t x 0) at

pub cells-around : (t u : List ℕ) → ((j : ℕ) → j < lists_from → word_at u j ≡ word_at t j) → drop rings_end u ≡ drop rings_end t → cells u ≡ cells t
unfolding cells
cells-around t u below rest = tab-ext CELLS _ _ (λ i h. ⊎_elim (λ (p : marks_cell ≤ i). rw (word-behind i p) (behind (i - marks_cell + rings_end / 8) (omega arith))) (λ (p : i < marks_cell). rw (word-before i p) (below i p)) (le-or-lt marks_cell i))
  where
    behind : (j : ℕ) → rings_end ≤ j * 8 → word_at u j ≡ word_at t j
    behind j h = word-dropped rings_end t u rest j h

-- what lies past the table lies past the lists
pub past-rings : (t u : List ℕ) → drop rings_end u ≡ drop rings_end t → drop SIZE u ≡ drop SIZE t
past-rings t u e = sym (drop-drop (SIZE - rings_end) rings_end u) ∙ ap (drop (SIZE - rings_end)) e ∙ drop-drop (SIZE - rings_end) rings_end t

pub cells-apart : (t u : List ℕ) → Apart t u → cells u ≡ cells t
cells-apart t u a = cells-around t u a.below a.rest

-- ---- bytes with the same slot lists

abbrev pub SameLists : List ℕ → List ℕ → Type 0
SameLists t u = (a : ℕ) → lists_from * 8 ≤ a → a < rings_end → get_or u a 0 ≡ get_or t a 0

module _ (t u : List ℕ) (same : SameLists t u) where
  word : (j : ℕ) → lists_from ≤ j → j * 8 + 8 ≤ rings_end → word_at u j ≡ word_at t j
  unfolding word_at
  word j h k = ap le_val (reads-ext t u (j * 8) 8 (λ i p q. same i (omega arith) (omega arith)))

  ring : (i : ℕ) → i < 512 → ring_at u i ≡ ring_at t i
  unfolding ring_at ring_of
  ring i h = rw (same (head_byte i) (omega arith) (omega arith), same (count_byte i) (omega arith) (omega arith)) (tab-ext _ _ _ (λ x p. same (place_byte i (get_or t (head_byte i) 0 + x)) (omega arith) (omega arith)))

  map : (g : ℕ) → g ≤ 31 → map_of u g ≡ map_of t g
  unfolding map_of
  map g hi = rw (word groups_word (omega arith) (omega arith), word (map_word g) (omega arith) (omega arith))

  pub groups-same : groups_at u ≡ groups_at t
  groups-same = word groups_word (omega arith) (omega arith)

  pub back-same : back_at u ≡ back_at t
  back-same = word back_word (omega arith) (omega arith)

  pub lists-same : (g b : ℕ) → g ≤ 31 → b < 32 → list_at u g b ≡ list_at t g b
  unfolding list_in
  lists-same g b hi hb = rw (map g hi, ring (ring_number g b) (omega arith))

  pub order_same : in_aRow (list_at u) ≡ in_aRow (list_at t)
  unfolding in_aRow
  order_same = flat-ext 16 _ _ (λ i h. flat-ext 32 _ _ (λ b p. lists-same (16 + i) b (omega arith) p))

  pub starts-same : (g : ℕ) → g ≤ 31 → start_at u g ≡ start_at t g
  unfolding start_at
  starts-same g hi = rw (groups-same, word (start_word g) (omega arith) (omega arith))

  pub solid-same : Solid t → Solid u
  solid-same s =
      record {
        fills = λ g lo hi.
            rw (map g hi) (record { narrow = (s.fills g lo hi).narrow; filled = λ b hb e. rw (ring (ring_number g b) (omega arith)) ((s.fills g lo hi).filled b hb e) });
        groups = λ g e. s.groups g (set g e);
        some_list = λ g e. rw (map g (s.groups g (set g e)).1) (s.some_list g (set g e));
        high = rw groups-same s.high;
        back_whole = rw back-same s.back_whole;
        back_small = rw back-same s.back_small;
      }
    where
      set : (g : ℕ) → bit g (groups_at u) ≡ 1 → bit g (groups_at t) ≡ 1
      set g e = ap (bit g) (sym groups-same) ∙ e

  pub agrees-same : (s : State) → Agrees (back_at t) (list_at t) (start_at t) s → Agrees (back_at u) (list_at u) (start_at u) s
  agrees-same s a =
      rw back-same
      (record {
        filed = λ g b lo hi hb. lists-same g b hi hb ∙ a.filed g b lo hi hb;
        started = λ g lo hi. starts-same g hi ∙ a.started g lo hi;
      })

-- ---- so a store in the cells leaves the lists

module _ (t u : List ℕ) (rest : Behind t u) where
  pub groups-stay : groups_at u ≡ groups_at t
  groups-stay = groups-same t u rest.lists

  pub back-stays : back_at u ≡ back_at t
  back-stays = back-same t u rest.lists

  pub lists-stay : (g b : ℕ) → g ≤ 31 → b < 32 → list_at u g b ≡ list_at t g b
  lists-stay = lists-same t u rest.lists

  pub row_stays : in_aRow (list_at u) ≡ in_aRow (list_at t)
  row_stays = order_same t u rest.lists

  pub starts-stay : (g : ℕ) → g ≤ 31 → start_at u g ≡ start_at t g
  starts-stay = starts-same t u rest.lists

  pub solid-stays : Solid t → Solid u
  solid-stays = solid-same t u rest.lists

  pub agrees-stay : (s : State) → Agrees (back_at t) (list_at t) (start_at t) s → Agrees (back_at u) (list_at u) (start_at u) s
  agrees-stay = agrees-same t u rest.lists

  pub empty-stays : Empty t → Empty u
  empty-stays e = record { groups = groups-same t u rest.lists ∙ e.groups; back = back-stays ∙ e.back }

  pub past-stays : drop SIZE u ≡ drop SIZE t
  past-stays = rest.past

-- ---- empty lists

pub row-empty : (t : List ℕ) → Empty t → in_aRow (list_at t) ≡ []
unfolding in_aRow
row-empty t e = flat-none 16 _ (λ i h. flat-none 32 _ (λ b p. no-list t e (16 + i) b))

-- a fresh state's lists are empty
pub empty-listed : (t : List ℕ) (gs : List Setting) → meant t ≡ fresh gs → Empty t → Listed t
empty-listed t gs state e =
    record {
      solid = empty-solid t e;
      agrees = subst (Agrees (back_at t) (list_at t) (start_at t)) (sym state) (fresh-agrees (back_at t) gs (list_at t) (start_at t) (λ g b lo hi hb. no-list t e g b) (λ g lo hi. no_start t e g));
    }
