-- The bytes of a page stand where its fields were read.
--
--   field-bytes   the bytes of a field that was read stand where it was read
--   skip-back     what is passed over is skipped fields
--
-- Assumes nothing.
use Prim.Native.Nat.{ℕ, zero, suc, ◌+◌, ◌≤◌, ◌<◌}
use mathlib.Core.Path.{◌≡◌, refl, sym, ap, ◌∙◌}
use mathlib.Core.Bool.{Bool, true, false, ◌||◌}
use mathlib.Core.List.{List, [], ◌∷◌, ◌++◌, append_assoc}
use native.Mathlib.Omega.{arith}
use borrow.Author.Tests.{eqb-true, leb-true}
use lib.Dec.{eqb, leb}
use lib.ListN.{length, take, drop, take-append-drop, length-drop}
use lib.Seq.{drop-cons, drop-drop, length-take-le}
use Rattle.fields.specs.Bytes.{byte_at, big, two, as_field, Bytes}
use Rattle.fields.proofs.Numbers.{big-two}
use Rattle.fields.specs.Item.{whole_field, bad_field}
use Rattle.fields.proofs.Item.{Stands, stands}
use Rattle.std.specs.Prelude.{if◌then◌else◌}
use Rattle.units.proofs.Bools.{true-false}
use Rattle.units.proofs.Lists.{cons}
use Rattle.page.specs.Fields.{page_kinds, PageItem, page_field_of, page_item_at}
use Rattle.page.specs.Read.{skip_walk, past_skipped, value_at}
use Rattle.page.specs.Form.{Extra, AllSkippable, extra_bytes}
use Rattle.page.specs.declared.parse.PageField.{PageField}
use Rattle.page.specs.declared.parse.PageField.TheVariants.{Edition, Settings, Skipped, End}
use Rattle.page.proofs.Skips.{passed}

differ : {A : Type 0} → ◌≡◌ {A = ℕ} 0 1 → A
differ z = absurd (omega arith)

-- ---- a field, by its kind

-- what the tag is
pub record Tag (t n x : ℕ) (f : PageField) : Type 0 where
  pub edition : (e : ℕ) → f ≡ Edition e → t ≡ 64
  pub settings : (v k : ℕ) → f ≡ Settings v k → t ≡ 65
  pub skipped : f ≡ Skipped → 128 ≤ t
  pub end : f ≡ End → t ≡ 127

by_tests_lem : (s : List ℕ) (t n x : ℕ) (f : PageField) (a b c d : Bool) → eqb t 64 ≡ a → eqb t 65 ≡ b → eqb t 127 ≡ c → leb 128 t ≡ d → (a || (b || (c || d))) ≡ true
    → (if a then Edition (big s x 2) else (if b then Settings x n else (if c then End else Skipped))) ≡ f → Tag t n x f
by_tests_lem s t n x f true b c d p q r u k h = record {
  edition = λ e g. eqb-true t 64 p;
  settings = λ v m g. differ (cc);
  skipped = λ g. differ (cc);
  end = λ g. differ (cc);
}
by_tests_lem s t n x f false true c d p q r u k h = record {
  edition = λ e g. differ (cc);
  settings = λ v m g. eqb-true t 65 q;
  skipped = λ g. differ (cc);
  end = λ g. differ (cc);
}
by_tests_lem s t n x f false false true d p q r u k h = record {
  edition = λ e g. differ (cc);
  settings = λ v m g. differ (cc);
  skipped = λ g. differ (cc);
  end = λ g. eqb-true t 127 r;
}
by_tests_lem s t n x f false false false true p q r u k h = record {
  edition = λ e g. differ (cc);
  settings = λ v m g. differ (cc);
  skipped = λ g. leb-true 128 t u;
  end = λ g. differ (cc);
}
by_tests_lem s t n x f false false false false p q r u k h = true-false (sym k)

pub tag_is : (s : List ℕ) (at : ℕ) (f : PageField) (m : ℕ) → Stands page_kinds s at f m → Tag (byte_at s at) (big s (at + 1) 2) (at + 3) f
unfolding page_field_of
tag_is s at f m st =
    let t = byte_at s at in
    by_tests_lem s t (big s (at + 1) 2) (at + 3) f (eqb t 64) (eqb t 65) (eqb t 127) (leb 128 t) refl refl refl refl st.tag st.field

-- ---- its bytes

module _ (s : List ℕ) (bytes : Bytes s) (at : ℕ) where
  abbrev n : ℕ
  n = big s (at + 1) 2

  pub size-high : n < 65536
  size-high = omega (arith, big-two s (at + 1), bytes (at + 1), bytes (at + 1 + 1))

  -- the two bytes of a number
  pub two_back : (j : ℕ) → two (big s j 2) ≡ byte_at s j ∷ byte_at s (j + 1) ∷ []
  two_back j =
      let a = bytes j in
      let b = bytes (j + 1) in
      let e = big-two s j in
      cons (omega arith) (cons (omega arith) refl)

  pub two-drop : (j : ℕ) → j + 2 ≤ length s → drop j s ≡ two (big s j 2) ++ drop (j + 2) s
  two-drop j h =
      let e : suc j ≡ j + 1 = omega arith in
      let f : suc (j + 1) ≡ j + 2 = omega arith in
      drop-cons s j 0 (omega arith)
      ∙ ap (λ (k : ℕ). byte_at s j ∷ drop k s) e
      ∙ ap (λ (l : List ℕ). byte_at s j ∷ l) (drop-cons s (j + 1) 0 (omega arith))
      ∙ ap (λ (k : ℕ). byte_at s j ∷ byte_at s (j + 1) ∷ drop k s) f
      ∙ ap (λ (l : List ℕ). l ++ drop (j + 2) s) (sym (two_back j))

  module _ (f : PageField) (m : ℕ) (st : Stands page_kinds s at f m) where
    abbrev value : List ℕ
    value = value_at s (at + 3) n

    size : length value ≡ n
    unfolding value_at
    size = length-take-le n (drop (at + 3) s) (omega (arith, st.fits, length-drop (at + 3) s))

    pub value_short : length value < 65536
    value_short = omega (arith, size, size-high)

    value-drop : drop (at + 3) s ≡ value ++ drop m s
    unfolding value_at
    value-drop =
        sym (take-append-drop n (drop (at + 3) s))
        ∙ ap (λ (l : List ℕ). take n (drop (at + 3) s) ++ l) (drop-drop n (at + 3) s ∙ ap (λ (k : ℕ). drop k s) st.after)

    pub field-bytes : drop at s ≡ as_field (byte_at s at) value ++ drop m s
    field-bytes =
        let e : suc at ≡ at + 1 = omega arith in
        let g : at + 1 + 2 ≡ at + 3 = omega arith in
        drop-cons s at 0 (omega (arith, st.fits))
        ∙ ap (λ (k : ℕ). byte_at s at ∷ drop k s) e
        ∙ ap (λ (l : List ℕ). byte_at s at ∷ l) (two-drop (at + 1) (omega (arith, st.fits)) ∙ ap (λ (k : ℕ). two n ++ drop k s) g ∙ ap (λ (l : List ℕ). two n ++ l) value-drop)
        ∙ ap (λ (k : ℕ). byte_at s at ∷ (two k ++ (value ++ drop m s))) (sym size)

-- ---- what is passed over

pub record Passed (s : List ℕ) (at p : ℕ) : Type 0 where
  pub extras : List Extra
  pub all : AllSkippable extras
  pub bytes : drop at s ≡ extra_bytes extras ++ drop p s

none_passed : (s : List ℕ) (at : ℕ) → Passed s at at
unfolding AllSkippable extra_bytes
none_passed s at = record { extras = []; all = tt; bytes = refl }

one-passed : (s : List ℕ) → Bytes s → (at m p : ℕ) → page_item_at s at ≡ whole_field Skipped m → Passed s m p → Passed s at p
unfolding AllSkippable extra_bytes
one-passed s b at m p i q =
    let st = stands i in
    let x : Extra = record { tag = byte_at s at; value = value_at s (at + 3) (big s (at + 1) 2) } in
    record {
      extras = x ∷ q.extras;
      all = (record { high = (tag_is s at Skipped m st).skipped refl; short = value_short s b at Skipped m st }, q.all);
      bytes =
          field-bytes s b at Skipped m st
          ∙ ap (λ (l : List ℕ). as_field x.tag x.value ++ l) q.bytes
          ∙ sym (append_assoc (as_field x.tag x.value) (extra_bytes q.extras) (drop p s));
    }

module _ (s : List ℕ) (b : Bytes s) where
  passing : (turns at : ℕ) (more : (m : ℕ) → Passed s m (skip_walk turns s m)) (i : PageItem) → page_item_at s at ≡ i → Passed s at (passed turns s at i)
  passing turns at more (bad_field n p) i = none_passed s at
  passing turns at more (whole_field (Edition e) m) i = none_passed s at
  passing turns at more (whole_field (Settings v n) m) i = none_passed s at
  passing turns at more (whole_field Skipped m) i = one-passed s b at m (skip_walk turns s m) i (more m)
  passing turns at more (whole_field End m) i = none_passed s at

  skip-turns : (turns at : ℕ) → Passed s at (skip_walk turns s at)
  unfolding skip_walk
  skip-turns zero at = none_passed s at
  skip-turns (suc turns) at = passing turns at (λ m. skip-turns turns m) (page_item_at s at) refl

  pub skip-back : (at : ℕ) → Passed s at (past_skipped s at)
  unfolding past_skipped
  skip-back at = skip-turns _ at
