-- Laws of `page_tag`, `page_fits` and `page_field_of` of specs/Fields.antt: what they are at each tag.
-- Assumes nothing.
use Prim.Native.Nat.{ℕ, ◌≤◌}
use mathlib.Core.Path.{◌≡◌}
use mathlib.Core.Bool.{true}
use mathlib.Core.List.{List}
use native.Mathlib.Omega.{arith}
use borrow.Author.Tests.{ne_eqb, le-leb}
use lib.Dec.{eqb}
use Rattle.fields.specs.Bytes.{big}
use Rattle.page.specs.Fields.{page_tag, page_fits, page_field_of}
use Rattle.page.specs.declared.parse.PageField.TheVariants.{Edition, Settings, Skipped, End}

module _ (t : ℕ) where
  pub known-skipped : 128 ≤ t → page_tag t ≡ true
  known-skipped h = simp (ne_eqb t 64 (λ e. omega (arith, e)), ne_eqb t 65 (λ e. omega (arith, e)), ne_eqb t 127 (λ e. omega (arith, e)), le-leb 128 t h)

  module _ (n : ℕ) where
    pub fitting-edition : t ≡ 64 → page_fits t n ≡ eqb n 2
    fitting-edition e = rw e

    pub fitting-end : t ≡ 127 → page_fits t n ≡ eqb n 0
    fitting-end e = rw e

    pub fitting-any : (t ≡ 64 → ⊥) → (t ≡ 127 → ⊥) → page_fits t n ≡ true
    fitting-any e f = rw (ne_eqb t 64 e, ne_eqb t 127 f)

    module _ (s : List ℕ) (at : ℕ) where
      pub field-edition : t ≡ 64 → page_field_of s t at n ≡ Edition (big s at 2)
      unfolding page_field_of
      field-edition e = rw e

      pub field-settings : t ≡ 65 → page_field_of s t at n ≡ Settings at n
      unfolding page_field_of
      field-settings e = rw e

      pub field_end : t ≡ 127 → page_field_of s t at n ≡ End
      unfolding page_field_of
      field_end e = rw e

      pub field-skipped : (t ≡ 64 → ⊥) → (t ≡ 65 → ⊥) → (t ≡ 127 → ⊥) → page_field_of s t at n ≡ Skipped
      unfolding page_field_of
      field-skipped e f g = rw (ne_eqb t 64 e, ne_eqb t 65 f, ne_eqb t 127 g)
