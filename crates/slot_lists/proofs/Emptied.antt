-- Lists of which no group has lanes. Assumes nothing.
use mathlib.Core.Path.{◌≡◌, ap, ◌∙◌}
use Prim.Native.Nat.{ℕ}
use mathlib.Core.List.{List, []}
use mathlib.Core.Option.{none}
use native.Mathlib.Omega.{arith}
use lib.Pow.{pow_pos}
use Rattle.words.specs.Bits.{bit}
use Rattle.words.specs.Words.{put_word}
use Rattle.words.proofs.Bits.{bit-above}
use Rattle.words.proofs.Laws.{length-put_word, word_at-put_word-same, word_at-put_word-other}
use Rattle.rings.specs.Rings.{Long}
use Rattle.slot_lists.specs.Lists.{groups_word, back_word, groups_at, map_of, list_at, start_at, Solid, Empty}
use Rattle.slot_lists.specs.Changes.{ListsEmptied}
use Rattle.slot_lists.proofs.Laws.{map-off, start-off, list-off, rest-word}

no-bit : (b x : ℕ) → x ≡ 0 → bit b x ≡ 1 → ⊥
no-bit b x z e = omega (arith, e, ap (bit b) z, bit-above b 0 (pow_pos b))

module _ (t : List ℕ) (m : Empty t) where
  pub no-map : (g : ℕ) → map_of t g ≡ 0
  no-map g = map-off t g (no-bit g (groups_at t) m.groups)

  pub no-list : (g b : ℕ) → list_at t g b ≡ []
  no-list g b = list-off t g (map_of t g) b (no-bit b (map_of t g) (no-map g))

  pub no_start : (g : ℕ) → start_at t g ≡ none
  no_start g = start-off t g (no-bit g (groups_at t) m.groups)

  pub empty-solid : Solid t
  empty-solid =
      record {
        fills = λ g lo hi. record { narrow = omega (arith, no-map g); filled = λ b hb e. absurd (no-bit b (map_of t g) (no-map g) e) };
        groups = λ g e. absurd (no-bit g (groups_at t) m.groups e);
        some_list = λ g e. absurd (no-bit g (groups_at t) m.groups e);
        high = omega (arith, m.groups);
        back_whole = rw m.back;
        back_small = omega (arith, m.back);
      }

pub emptied-as : (t : List ℕ) → Long t → ListsEmptied t (put_word (put_word t groups_word 0) back_word 0)
emptied-as t long =
    let u = put_word t groups_word 0 in
    record {
      empty = record {
        groups = word_at-put_word-other u back_word groups_word 0 (omega arith) ∙ word_at-put_word-same t groups_word 0 (omega arith) (omega arith);
        back = word_at-put_word-same u back_word 0 (omega (arith, length-put_word t groups_word 0)) (omega arith);
      };
      below = λ j h. word_at-put_word-other u back_word j 0 (omega arith) ∙ word_at-put_word-other t groups_word j 0 (omega arith);
      rest = rest-word u back_word 0 (omega arith) ∙ rest-word t groups_word 0 (omega arith);
    }
