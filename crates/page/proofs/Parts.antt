-- What a page that is read is made of.
--
--   Parts   its three fields, where they stand, and its setup
--   parts   a page that is read has them
--
-- Assumes nothing.
use Prim.Native.Nat.{ℕ, ◌≤◌}
use mathlib.Core.Path.{◌≡◌, refl}
use mathlib.Core.Bool.{Bool, true, false}
use mathlib.Core.List.{List}
use mathlib.Core.Option.{Option, some}
use native.Mathlib.Omega.{arith}
use borrow.Author.Tests.{ltb-false}
use lib.Dec.{ltb}
use lib.ListN.{length}
use Rattle.fields.specs.Item.{whole_field, bad_field}
use Rattle.std.specs.Prelude.{if◌then◌else◌}
use Rattle.rules.specs.State.{Setting}
use Rattle.plan.specs.Read.{read_setup, setup_read, SetupReply, setup_refused}
use Rattle.page.specs.Fields.{PageItem, page_item_at}
use Rattle.page.specs.Read.{PageReply, page_read, page_refused, past_skipped, ended, end_at, value_at, inside, page_settled, settings_at, page_begun, read_page}
use Rattle.page.specs.declared.parse.PageField.TheVariants.{Edition, Settings, Skipped, End}

pub record Parts (s : List ℕ) (e v : ℕ) (gs : List Setting) (n : ℕ) : Type 0 where
  pub next₁ : ℕ
  pub first : page_item_at s 0 ≡ whole_field (Edition e) next₁
  pub value : ℕ
  pub size : ℕ
  pub next₂ : ℕ
  pub second : page_item_at s (past_skipped s next₁) ≡ whole_field (Settings value size) next₂
  pub stop : ℕ
  pub setup : read_setup (value_at s value size) ≡ setup_read v gs n stop
  pub next₃ : ℕ
  pub third : page_item_at s (past_skipped s next₂) ≡ whole_field End next₃
  pub closes : length s ≤ next₃

-- 0x7F stands, with no byte behind it, and the reply is the one that waited for it
pub record Ended (s : List ℕ) (at : ℕ) (r q : PageReply) : Type 0 where
  pub next : ℕ
  pub item : page_item_at s at ≡ whole_field End next
  pub closes : length s ≤ next
  pub same : r ≡ q

pub refused-read : {A : Type 0} {n : ℕ} {p : Option ℕ} {e v : ℕ} {gs : List Setting} {k : ℕ} → page_refused n p ≡ page_read e v gs k → A
refused-read h = absurd (let z : ◌≡◌ {A = ℕ} 0 1 = cc in omega arith)

module _ (s : List ℕ) (e v : ℕ) (gs : List Setting) (n : ℕ) where
  module _ (at : ℕ) (r : PageReply) where
    by-test : (m : ℕ) (b : Bool) → page_item_at s at ≡ whole_field End m → ltb m (length s) ≡ b → (if b then page_refused 4 (some m) else r) ≡ page_read e v gs n → Ended s at r (page_read e v gs n)
    by-test m true i t h = refused-read h
    by-test m false i t h = record { next = m; item = i; closes = ltb-false m (length s) t; same = h }

    by_end : (i : PageItem) → page_item_at s at ≡ i → ended s at r i ≡ page_read e v gs n → Ended s at r (page_read e v gs n)
    by_end (bad_field a p) i h = refused-read h
    by_end (whole_field (Edition x) m) i h = refused-read h
    by_end (whole_field (Settings x k) m) i h = refused-read h
    by_end (whole_field Skipped m) i h = refused-read h
    by_end (whole_field End m) i h = by-test m (ltb m (length s)) i refl h

    end_read : end_at s at r ≡ page_read e v gs n → Ended s at r (page_read e v gs n)
    unfolding end_at
    end_read h = by_end (page_item_at s at) refl h

  module _ (d m : ℕ) (first : page_item_at s 0 ≡ whole_field (Edition d) m) where
    by-setup : (x k m₂ : ℕ) (r : SetupReply) → page_item_at s (past_skipped s m) ≡ whole_field (Settings x k) m₂ → read_setup (value_at s x k) ≡ r → inside s d x m₂ r ≡ page_read e v gs n → Parts s e v gs n
    by-setup x k m₂ (setup_refused a p) i j h = refused-read h
    by-setup x k m₂ (setup_read w fs c stop) i j h =
        let t = end_read (past_skipped s m₂) (page_read d w fs c) h in
        let same = t.same in
        let d-is : d ≡ e = cc in
        let w-is : w ≡ v = cc in
        let fs-is : fs ≡ gs = cc in
        let c-is : c ≡ n = cc in
        record {
          next₁ = m;
          first = rw (← d-is) first;
          value = x;
          size = k;
          next₂ = m₂;
          second = i;
          stop = stop;
          setup = rw (← w-is, ← fs-is, ← c-is) j;
          next₃ = t.next;
          third = t.item;
          closes = t.closes;
        }

    by-settings : (i : PageItem) → page_item_at s (past_skipped s m) ≡ i → page_settled s d (past_skipped s m) i ≡ page_read e v gs n → Parts s e v gs n
    by-settings (bad_field a p) i h = refused-read h
    by-settings (whole_field (Edition x) m₂) i h = refused-read h
    by-settings (whole_field (Settings x k) m₂) i h = by-setup x k m₂ (read_setup (value_at s x k)) i refl h
    by-settings (whole_field Skipped m₂) i h = refused-read h
    by-settings (whole_field End m₂) i h = refused-read h

    settings-read : settings_at s d (past_skipped s m) ≡ page_read e v gs n → Parts s e v gs n
    unfolding settings_at
    settings-read h = by-settings (page_item_at s (past_skipped s m)) refl h

  by_first : (i : PageItem) → page_item_at s 0 ≡ i → page_begun s i ≡ page_read e v gs n → Parts s e v gs n
  by_first (bad_field a p) i h = refused-read h
  by_first (whole_field (Edition d) m) i h = settings-read d m i h
  by_first (whole_field (Settings x k) m) i h = refused-read h
  by_first (whole_field Skipped m) i h = refused-read h
  by_first (whole_field End m) i h = refused-read h

  pub parts : read_page s ≡ page_read e v gs n → Parts s e v gs n
  unfolding read_page
  parts h = by_first (page_item_at s 0) refl h
