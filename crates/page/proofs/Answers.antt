-- Laws of `end_at`, `settings_at` and `read_page` of specs/Read.antt: each way that a page goes.
--
--   value-fits          the value of a 0x41 stands in the page
--   end-.., settings-.., page-..   what is answered, by the field where 0x7F, 0x41 or 0x40 is to stand
--   not_end, not-settings, not-edition   what a field is not, by its place in the enum
--
-- Assumes nothing.
use Prim.Native.Nat.{ℕ, ◌+◌, ◌≤◌, ◌<◌}
use mathlib.Core.Path.{◌≡◌, refl, ap, subst, ◌∙◌}
use mathlib.Core.Bool.{Bool, true, false}
use mathlib.Core.List.{List, [], ◌∷◌}
use mathlib.Core.Option.{Option, some}
use native.Mathlib.Omega.{arith}
use borrow.Author.Tests.{lt-ltb, le-ltb}
use denote.Enum.Declared.{tag_of}
use types.Run.{OneOf, miss}
use lib.Dec.{eqb}
use lib.ListN.{length, drop, length-drop}
use lib.Seq.{length-take-le}
use Rattle.fields.specs.Bytes.{byte_at, big}
use Rattle.fields.specs.Item.{whole_field, bad_field}
use Rattle.fields.proofs.Item.{stands}
use Rattle.std.specs.Prelude.{if◌then◌else◌}
use Rattle.rules.specs.State.{Setting}
use Rattle.plan.specs.Read.{read_setup, setup_refused, setup_read}
use Rattle.page.specs.Fields.{page_field_of, page_item_at}
use Rattle.page.specs.Read.{PageReply, page_read, page_refused, past_skipped, ended, end_at, value_at, moved, inside, page_settled, settings_at, page_begun, read_page}
use Rattle.page.specs.declared.parse.PageField.{PageField}
use Rattle.page.specs.declared.parse.PageField.TheVariants.{Edition, Settings, Skipped, End}
use Rattle.page.specs.contracts.parse.PageField as field

-- ---- what a field is not

pub not_end : (f : PageField) → OneOf (0 ∷ 1 ∷ 2 ∷ []) (tag_of field.the_type f) → f ≡ End → ⊥
not_end f o e = miss (0 ∷ 1 ∷ 2 ∷ []) 3 tt (subst (λ (g : PageField). OneOf (0 ∷ 1 ∷ 2 ∷ []) (tag_of field.the_type g)) e o)

pub not-settings : (f : PageField) → OneOf (0 ∷ 2 ∷ 3 ∷ []) (tag_of field.the_type f) → (v n : ℕ) → f ≡ Settings v n → ⊥
not-settings f o v n e = miss (0 ∷ 2 ∷ 3 ∷ []) 1 tt (subst (λ (g : PageField). OneOf (0 ∷ 2 ∷ 3 ∷ []) (tag_of field.the_type g)) e o)

pub not-edition : (f : PageField) → OneOf (1 ∷ 2 ∷ 3 ∷ []) (tag_of field.the_type f) → (n : ℕ) → f ≡ Edition n → ⊥
not-edition f o n e = miss (1 ∷ 2 ∷ 3 ∷ []) 0 tt (subst (λ (g : PageField). OneOf (1 ∷ 2 ∷ 3 ∷ []) (tag_of field.the_type g)) e o)

pub not-skipped : (f : PageField) → OneOf (0 ∷ 1 ∷ 3 ∷ []) (tag_of field.the_type f) → f ≡ Skipped → ⊥
not-skipped f o e = miss (0 ∷ 1 ∷ 3 ∷ []) 2 tt (subst (λ (g : PageField). OneOf (0 ∷ 1 ∷ 3 ∷ []) (tag_of field.the_type g)) e o)

-- ---- 0x7F

module _ (s : List ℕ) (at : ℕ) (r : PageReply) where
  pub end-bad : (n : ℕ) (p : Option ℕ) → page_item_at s at ≡ bad_field n p → end_at s at r ≡ page_refused n p
  unfolding end_at
  end-bad n p h = ap (ended s at r) h

  other-end : (f : PageField) (m : ℕ) → (f ≡ End → ⊥) → ended s at r (whole_field f m) ≡ page_refused 4 (some at)
  other-end (Edition e) m isnt = refl
  other-end (Settings v n) m isnt = refl
  other-end Skipped m isnt = refl
  other-end End m isnt = absurd (isnt refl)

  pub end-other : (f : PageField) (m : ℕ) → page_item_at s at ≡ whole_field f m → (f ≡ End → ⊥) → end_at s at r ≡ page_refused 4 (some at)
  unfolding end_at
  end-other f m h isnt = ap (ended s at r) h ∙ other-end f m isnt

  module _ (m : ℕ) (h : page_item_at s at ≡ whole_field End m) where
    pub end_more : m < length s → end_at s at r ≡ page_refused 4 (some m)
    unfolding end_at
    end_more l = ap (ended s at r) h ∙ simp (lt-ltb m (length s) l)

    pub end-closed : length s ≤ m → end_at s at r ≡ r
    unfolding end_at
    end-closed l = ap (ended s at r) h ∙ simp (le-ltb m (length s) l)

-- ---- 0x41

-- where the value of a 0x41 stands
pub record Value (s : List ℕ) (at v n m : ℕ) : Type 0 where
  pub start : at + 3 ≡ v
  pub end : v + n ≡ m
  pub fits : m ≤ length s

module _ (s : List ℕ) (at : ℕ) where
  by-tag : (x k v n : ℕ) (a b c : Bool) → (if a then Edition (big s x 2) else (if b then Settings x k else (if c then End else Skipped))) ≡ Settings v n → (x ≡ v) × (k ≡ n)
  by-tag x k v n true b c h = absurd (let z : ◌≡◌ {A = ℕ} 0 1 = cc in omega arith)
  by-tag x k v n false true c h = (cc, cc)
  by-tag x k v n false false true h = absurd (let z : ◌≡◌ {A = ℕ} 0 1 = cc in omega arith)
  by-tag x k v n false false false h = absurd (let z : ◌≡◌ {A = ℕ} 0 1 = cc in omega arith)

  pub value-fits : (v n m : ℕ) → page_item_at s at ≡ whole_field (Settings v n) m → Value s at v n m
  unfolding page_field_of
  value-fits v n m h =
      let k = stands h in
      let t = byte_at s at in
      let w = by-tag (at + 3) (big s (at + 1) 2) v n (eqb t 64) (eqb t 65) (eqb t 127) k.field in
      record { start = w.0; end = omega (arith, w.0, w.1, k.after); fits = omega (arith, k.after, k.fits) }

pub value-length : {s : List ℕ} {at v n m : ℕ} → Value s at v n m → length (value_at s v n) ≡ n
unfolding value_at
value-length {s} {at} {v} {n} w = length-take-le n (drop v s) (omega (arith, w.end, w.fits, length-drop v s))

module _ (s : List ℕ) (e at : ℕ) where
  pub settings-bad : (n : ℕ) (p : Option ℕ) → page_item_at s at ≡ bad_field n p → settings_at s e at ≡ page_refused n p
  unfolding settings_at
  settings-bad n p h = ap (page_settled s e at) h

  other-settings : (f : PageField) (m : ℕ) → ((v n : ℕ) → f ≡ Settings v n → ⊥) → page_settled s e at (whole_field f m) ≡ page_refused 4 (some at)
  other-settings (Edition x) m isnt = refl
  other-settings (Settings v n) m isnt = absurd (isnt v n refl)
  other-settings Skipped m isnt = refl
  other-settings End m isnt = refl

  pub settings-other : (f : PageField) (m : ℕ) → page_item_at s at ≡ whole_field f m → ((v n : ℕ) → f ≡ Settings v n → ⊥) → settings_at s e at ≡ page_refused 4 (some at)
  unfolding settings_at
  settings-other f m h isnt = ap (page_settled s e at) h ∙ other-settings f m isnt

  module _ (v n m : ℕ) (h : page_item_at s at ≡ whole_field (Settings v n) m) where
    pub settings-whole : settings_at s e at ≡ inside s e v m (read_setup (value_at s v n))
    unfolding settings_at
    settings-whole = ap (page_settled s e at) h

    pub settings-refused : (k : ℕ) (q : Option ℕ) → read_setup (value_at s v n) ≡ setup_refused k q → settings_at s e at ≡ page_refused k (moved v q)
    settings-refused k q r = settings-whole ∙ ap (inside s e v m) r

    pub settings-read : (w : ℕ) (gs : List Setting) (k p : ℕ) → read_setup (value_at s v n) ≡ setup_read w gs k p → settings_at s e at ≡ end_at s (past_skipped s m) (page_read e w gs k)
    settings-read w gs k p r = settings-whole ∙ ap (inside s e v m) r

-- ---- the page

module _ (s : List ℕ) where
  pub page-bad : (n : ℕ) (p : Option ℕ) → page_item_at s 0 ≡ bad_field n p → read_page s ≡ page_refused n p
  unfolding read_page
  page-bad n p h = ap (page_begun s) h

  other-first : (f : PageField) (m : ℕ) → ((e : ℕ) → f ≡ Edition e → ⊥) → page_begun s (whole_field f m) ≡ page_refused 4 (some 0)
  other-first (Edition e) m isnt = absurd (isnt e refl)
  other-first (Settings v n) m isnt = refl
  other-first Skipped m isnt = refl
  other-first End m isnt = refl

  pub page-other : (f : PageField) (m : ℕ) → page_item_at s 0 ≡ whole_field f m → ((e : ℕ) → f ≡ Edition e → ⊥) → read_page s ≡ page_refused 4 (some 0)
  unfolding read_page
  page-other f m h isnt = ap (page_begun s) h ∙ other-first f m isnt

  pub page-begun : (e m : ℕ) → page_item_at s 0 ≡ whole_field (Edition e) m → read_page s ≡ settings_at s e (past_skipped s m)
  unfolding read_page
  page-begun e m h = ap (page_begun s) h
