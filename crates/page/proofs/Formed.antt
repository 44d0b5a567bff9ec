-- A page that is read is of the form.
--
--   accepted   the theorem
--
-- Assumes nothing.
use Prim.Native.Nat.{ℕ, ◌+◌, ◌<◌}
use mathlib.Core.Path.{◌≡◌, refl, sym, ap, ◌∙◌}
use mathlib.Core.List.{List, [], ◌++◌}
use native.Mathlib.Omega.{arith}
use borrow.Author.Tests.{eqb-true}
use lib.ListN.{take, drop, drop_of_length-le}
use lib.Seq.{take_at}
use Rattle.fields.specs.Bytes.{byte_at, big, two, as_field, Bytes}
use Rattle.fields.proofs.Numbers.{big-two}
use Rattle.fields.proofs.Item.{Stands, stands}
use Rattle.rules.specs.State.{Setting}
use Rattle.plan.specs.Read.{setup_read}
use Rattle.plan.proofs.Accepted.{accepted-whole}
use Rattle.page.specs.Fields.{page_kinds}
use Rattle.page.specs.Read.{page_read, past_skipped, value_at, read_page}
use Rattle.page.specs.Form.{extra_bytes, upto_setup, AcceptedPage}
use Rattle.page.specs.declared.parse.PageField.TheVariants.{Edition, Settings, End}
use Rattle.page.proofs.Tags.{fitting-edition, fitting-end, field-edition}
use Rattle.page.proofs.Answers.{value-fits, value-length}
use Rattle.page.proofs.Parts.{Parts, parts}
use Rattle.page.proofs.Back.{tag_is, two-drop, size-high, field-bytes, skip-back}

-- 0x40, by its bytes
module _ (s : List ℕ) (b : Bytes s) (at e m : ℕ) (st : Stands page_kinds s at (Edition e) m) where
  tag : byte_at s at ≡ 64
  tag = (tag_is s at (Edition e) m st).edition e refl

  size : big s (at + 1) 2 ≡ 2
  size = eqb-true (big s (at + 1) 2) 2 (sym (fitting-edition (byte_at s at) (big s (at + 1) 2) tag) ∙ st.size)

  number : big s (at + 3) 2 ≡ e
  number =
      let h : Edition (big s (at + 3) 2) ≡ Edition e = sym (field-edition (byte_at s at) (big s (at + 1) 2) s (at + 3) tag) ∙ st.field in
      cc

  pub edition_high : e < 65536
  edition_high = omega (arith, number, big-two s (at + 3), b (at + 3), b (at + 3 + 1))

  value : value_at s (at + 3) (big s (at + 1) 2) ≡ two e
  unfolding value_at
  value =
      ap (λ (k : ℕ). take k (drop (at + 3) s)) size
      ∙ ap (take 2) (two-drop s b at (at + 3) (omega (arith, st.fits, size)))
      ∙ take_at (two (big s (at + 3) 2)) (drop (at + 3 + 2) s) 2 refl
      ∙ ap two number

  pub edition-bytes : drop at s ≡ as_field 64 (two e) ++ drop m s
  edition-bytes =
      field-bytes s b at (Edition e) m st
      ∙ ap (λ (t : ℕ). as_field t (value_at s (at + 3) (big s (at + 1) 2)) ++ drop m s) tag
      ∙ ap (λ (l : List ℕ). as_field 64 l ++ drop m s) value

-- 0x41
module _ (s : List ℕ) (b : Bytes s) (at v n m : ℕ) (st : Stands page_kinds s at (Settings v n) m) (start : at + 3 ≡ v) (end : v + n ≡ m) where
  long : big s (at + 1) 2 ≡ n
  long = omega (arith, st.after, start, end)

  pub settings-high : n < 65536
  settings-high = omega (arith, long, size-high s b at)

  pub settings-bytes : drop at s ≡ as_field 65 (value_at s v n) ++ drop m s
  settings-bytes =
      field-bytes s b at (Settings v n) m st
      ∙ ap (λ (t : ℕ). as_field t (value_at s (at + 3) (big s (at + 1) 2)) ++ drop m s) ((tag_is s at (Settings v n) m st).settings v n refl)
      ∙ ap (λ (k : ℕ). as_field 65 (value_at s k (big s (at + 1) 2)) ++ drop m s) start
      ∙ ap (λ (k : ℕ). as_field 65 (value_at s v k) ++ drop m s) long

-- 0x7F
module _ (s : List ℕ) (b : Bytes s) (at m : ℕ) (st : Stands page_kinds s at End m) where
  end-tag : byte_at s at ≡ 127
  end-tag = (tag_is s at End m st).end refl

  empty : big s (at + 1) 2 ≡ 0
  empty = eqb-true (big s (at + 1) 2) 0 (sym (fitting-end (byte_at s at) (big s (at + 1) 2) end-tag) ∙ st.size)

  nothing : value_at s (at + 3) (big s (at + 1) 2) ≡ []
  unfolding value_at
  nothing = ap (λ (k : ℕ). take k (drop (at + 3) s)) empty

  pub end-bytes : drop at s ≡ as_field 127 [] ++ drop m s
  end-bytes =
      field-bytes s b at End m st
      ∙ ap (λ (t : ℕ). as_field t (value_at s (at + 3) (big s (at + 1) 2)) ++ drop m s) end-tag
      ∙ ap (λ (l : List ℕ). as_field 127 l ++ drop m s) nothing

module _ (s : List ℕ) (b : Bytes s) (e v : ℕ) (gs : List Setting) (n : ℕ) (p : Parts s e v gs n) where
  abbrev setup : List ℕ
  setup = value_at s p.value p.size

  of_parts : AcceptedPage s e v gs n
  unfolding upto_setup
  of_parts =
      let xs = skip-back s b p.next₁ in
      let ys = skip-back s b p.next₂ in
      let at₂ = past_skipped s p.next₁ in
      let at₃ = past_skipped s p.next₂ in
      let st₁ = stands p.first in
      let st₂ = stands p.second in
      let st₃ = stands p.third in
      let w = value-fits s at₂ p.value p.size p.next₂ p.second in
      let last : drop at₃ s ≡ as_field 127 [] = end-bytes s b at₃ p.next₃ st₃ ∙ ap (λ (l : List ℕ). as_field 127 [] ++ l) (drop_of_length-le s p.closes) in
      let third : drop p.next₂ s ≡ extra_bytes ys.extras ++ as_field 127 [] = ys.bytes ∙ ap (λ (l : List ℕ). extra_bytes ys.extras ++ l) last in
      let second : drop at₂ s ≡ as_field 65 setup ++ (extra_bytes ys.extras ++ as_field 127 []) =
      settings-bytes s b at₂ p.value p.size p.next₂ st₂ w.start w.end ∙ ap (λ (l : List ℕ). as_field 65 setup ++ l) third
      in
      let first : drop p.next₁ s ≡ extra_bytes xs.extras ++ (as_field 65 setup ++ (extra_bytes ys.extras ++ as_field 127 [])) =
      xs.bytes ∙ ap (λ (l : List ℕ). extra_bytes xs.extras ++ l) second
      in
      record {
        between = xs.extras;
        setup = setup;
        after = ys.extras;
        is = edition-bytes s b 0 e p.next₁ st₁ ∙ ap (λ (l : List ℕ). as_field 64 (two e) ++ l) first;
        edition_high = edition_high s b 0 e p.next₁ st₁;
        skips_between = xs.all;
        short = omega (arith, value-length w, settings-high s b at₂ p.value p.size p.next₂ st₂ w.start w.end);
        skips_after = ys.all;
        reads = p.setup ∙ ap (setup_read v gs n) (accepted-whole setup v gs n p.stop p.setup).1;
      }

pub accepted : (s : List ℕ) → Bytes s → (e v : ℕ) (gs : List Setting) (n : ℕ) → read_page s ≡ page_read e v gs n → AcceptedPage s e v gs n
accepted s b e v gs n h = of_parts s b e v gs n (parts s e v gs n h)
