-- A field is read where its bytes stand.
--
--   Stood          where the bytes of a field stand: its tag, its length, its value, and what follows
--   edition-item, settings-item, skipped-item, end-item   the field that is read there
--
-- Assumes nothing.
use Prim.Native.Nat.{ℕ, ◌+◌, ◌≤◌, ◌<◌}
use mathlib.Core.Path.{◌≡◌, refl, sym, ap, ◌∙◌}
use mathlib.Core.Bool.{true}
use mathlib.Core.List.{List, [], ◌∷◌, ◌++◌}
use native.Mathlib.Omega.{arith}
use lib.ListN.{length, take, drop, length-append}
use lib.Seq.{drop-drop, drop_at, take_at}
use Rattle.fields.specs.Bytes.{byte_at, big, two, as_field}
use Rattle.fields.proofs.Numbers.{byte-from, two_from, long-from}
use Rattle.fields.specs.Item.{whole_field}
use Rattle.fields.proofs.Item.{item_by}
use Rattle.page.specs.Fields.{page_tag, page_fits, page_field_of, page_kinds, page_item_at}
use Rattle.page.specs.Read.{value_at}
use Rattle.page.specs.declared.parse.PageField.{PageField}
use Rattle.page.specs.declared.parse.PageField.TheVariants.{Edition, Settings, Skipped, End}
use Rattle.page.proofs.Tags.{known-skipped, fitting-any, field-edition, field-settings, field_end, field-skipped}

pub record Stood (s : List ℕ) (at tag : ℕ) (value rest : List ℕ) : Type 0 where
  pub tag_is : byte_at s at ≡ tag
  pub size_is_lem : big s (at + 1) 2 ≡ length value
  pub value_is : value_at s (at + 3) (length value) ≡ value
  pub long : at + 3 + length value + length rest ≡ length s
  pub follows : drop (at + 3 + length value) s ≡ rest

-- what follows at a place of a list, behind the first `at` of its elements
pub rest_from : (s xs : List ℕ) (at : ℕ) → drop at s ≡ xs → (p q : List ℕ) (m : ℕ) → xs ≡ p ++ q → at + length p ≡ m → drop m s ≡ q
rest_from s xs at h p q m e f =
    ap (λ (k : ℕ). drop k s) (sym f) ∙ sym (drop-drop (length p) at s) ∙ ap (drop (length p)) (h ∙ e) ∙ drop_at p q (length p) refl

module _ (s : List ℕ) (at tag : ℕ) (value rest : List ℕ) (short : length value < 65536) (h : drop at s ≡ as_field tag value ++ rest) where
  abbrev xs : List ℕ
  xs = as_field tag value ++ rest

  pub stood : Stood s at tag value rest
  unfolding value_at
  stood = record {
    tag_is = byte-from s xs at h 0 at (omega arith);
    size_is_lem = omega (arith, two_from s xs at h 1 (at + 1) refl);
    value_is = ap (take (length value)) (rest_from s xs at h (tag ∷ two (length value)) (value ++ rest) (at + 3) refl refl) ∙ take_at value rest (length value) refl;
    long = omega (arith, long-from s xs at h (omega arith), length-append value rest);
    follows = rest_from s xs at h (as_field tag value) rest (at + 3 + length value) refl (omega arith);
  }

-- a field of a known tag and a length that fits it
item-stood : (s : List ℕ) (at tag : ℕ) (value rest : List ℕ) (f : PageField) → Stood s at tag value rest → page_tag tag ≡ true → page_fits tag (length value) ≡ true
    → page_field_of s tag (at + 3) (length value) ≡ f → page_item_at s at ≡ whole_field f (at + 3 + length value)
item-stood s at tag value rest f st k g e = item_by page_kinds s at tag (length value) st.tag_is st.size_is_lem k g (omega (arith, st.long)) e refl

module _ (s : List ℕ) (at : ℕ) where
  pub edition-item : (e : ℕ) (rest : List ℕ) → e < 65536 → drop at s ≡ as_field 64 (two e) ++ rest → page_item_at s at ≡ whole_field (Edition e) (at + 3 + 2)
  edition-item e rest b h =
      let st = stood s at 64 (two e) rest (omega arith) h in
      item-stood s at 64 (two e) rest (Edition e) st refl refl
      (field-edition 64 2 s (at + 3) refl ∙ ap Edition (omega (arith, two_from s (as_field 64 (two e) ++ rest) at h 3 (at + 3) refl)))

  pub settings-item : (setup rest : List ℕ) → length setup < 65536 → drop at s ≡ as_field 65 setup ++ rest
      → page_item_at s at ≡ whole_field (Settings (at + 3) (length setup)) (at + 3 + length setup)
  settings-item setup rest b h = item-stood s at 65 setup rest (Settings (at + 3) (length setup)) (stood s at 65 setup rest b h) refl refl (field-settings 65 (length setup) s (at + 3) refl)

  pub skipped-item : (tag : ℕ) (value rest : List ℕ) → 128 ≤ tag → length value < 65536 → drop at s ≡ as_field tag value ++ rest → page_item_at s at ≡ whole_field Skipped (at + 3 + length value)
  skipped-item tag value rest high b h =
      item-stood s at tag value rest Skipped (stood s at tag value rest b h) (known-skipped tag high)
      (fitting-any tag (length value) (λ e. omega (arith, e)) (λ e. omega (arith, e)))
      (field-skipped tag (length value) s (at + 3) (λ e. omega (arith, e)) (λ e. omega (arith, e)) (λ e. omega (arith, e)))

  pub end-item : (rest : List ℕ) → drop at s ≡ as_field 127 [] ++ rest → page_item_at s at ≡ whole_field End (at + 3 + 0)
  end-item rest h = item-stood s at 127 [] rest End (stood s at 127 [] rest (omega arith) h) refl refl (field_end 127 0 s (at + 3) refl)
