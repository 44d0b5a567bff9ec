-- Whatever `read_page` refuses has a number of a setup's refusals and a place in the page.
--
--   refuses   the theorem
--
-- Assumes nothing.
use Prim.Native.Nat.{ℕ, ◌+◌, ◌<◌}
use mathlib.Core.Path.{◌≡◌, refl, ap, subst}
use mathlib.Core.Bool.{Bool, true, false}
use mathlib.Core.List.{List}
use mathlib.Core.Option.{Option, some}
use native.Mathlib.Omega.{arith}
use borrow.Author.Tests.{ltb-true}
use lib.Dec.{ltb}
use lib.ListN.{length}
use Rattle.fields.specs.Item.{whole_field, bad_field}
use Rattle.fields.proofs.Item.{Broken, none_left, cut, unknown, wrong, broken, stands}
use Rattle.std.specs.Prelude.{if◌then◌else◌}
use Rattle.rules.specs.State.{Setting}
use Rattle.plan.specs.Read.{read_setup, setup_refused, SetupReply, setup_read}
use Rattle.plan.specs.Accepted.{setup_refusals, among}
use Rattle.page.specs.Fields.{page_kinds, PageItem, page_item_at}
use Rattle.page.specs.Read.{PageReply, page_read, page_refused, past_skipped, ended, end_at, value_at, moved, inside, page_settled, settings_at, page_begun, read_page}
use Rattle.page.specs.Form.{RefusedPage}
use Rattle.page.specs.declared.parse.PageField.{PageField}
use Rattle.page.specs.declared.parse.PageField.TheVariants.{Edition, Settings, Skipped, End}
use Rattle.page.proofs.Refusals.{setup-refused}
use Rattle.page.proofs.Answers.{value-fits, value-length}

module _ (s : List ℕ) where
  -- a refusal at a place before the end
  before-end : (k p : ℕ) → among setup_refusals k ≡ true → p < length s → RefusedPage s k (some p)
  before-end k p a l = record { listed = a; place = p; is = refl; within = omega arith; at_the_end = λ z. absurd (omega (arith, l, z)) }

  -- where a whole field stands there is a byte
  out_of_order : (at : ℕ) {f : PageField} {m : ℕ} → page_item_at s at ≡ whole_field f m → RefusedPage s 4 (some at)
  out_of_order at i = before-end 4 at refl (omega (arith, (stands i).fits))

  item-bad : (at : ℕ) {n : ℕ} {q : Option ℕ} → Broken s at n q → RefusedPage s n q
  item-bad at none_left = record { listed = refl; place = length s; is = refl; within = omega arith; at_the_end = λ z. refl }
  item-bad at (cut l) = before-end 1 at refl l
  item-bad at (unknown l) = before-end 2 at refl l
  item-bad at (wrong l) = before-end 3 at refl l

  -- where it is a refusal, it is one of these
  abbrev Listed : PageReply → Type 0
  Listed (page_read e v gs k) = Unit
  Listed (page_refused n q) = RefusedPage s n q

  -- ---- 0x7F

  by-test : (m : ℕ) (b : Bool) (e v : ℕ) (gs : List Setting) (k : ℕ) → ltb m (length s) ≡ b → Listed (if b then page_refused 4 (some m) else page_read e v gs k)
  by-test m true e v gs k t = before-end 4 m refl (ltb-true m (length s) t)
  by-test m false e v gs k t = tt

  by_end : (at e v : ℕ) (gs : List Setting) (k : ℕ) (i : PageItem) → page_item_at s at ≡ i → Listed (ended s at (page_read e v gs k) i)
  by_end at e v gs k (bad_field a p) i = item-bad at (broken page_kinds s at i)
  by_end at e v gs k (whole_field (Edition x) m) i = out_of_order at i
  by_end at e v gs k (whole_field (Settings x y) m) i = out_of_order at i
  by_end at e v gs k (whole_field Skipped m) i = out_of_order at i
  by_end at e v gs k (whole_field End m) i = by-test m (ltb m (length s)) e v gs k refl

  end-listed : (at e v : ℕ) (gs : List Setting) (k : ℕ) → Listed (end_at s at (page_read e v gs k))
  unfolding end_at
  end-listed at e v gs k = by_end at e v gs k (page_item_at s at) refl

  -- ---- 0x41

  -- a place of the value, moved
  inner-refused : (at v k m a : ℕ) (p : Option ℕ) → page_item_at s at ≡ whole_field (Settings v k) m → read_setup (value_at s v k) ≡ setup_refused a p → RefusedPage s a (moved v p)
  inner-refused at v k m a p i j =
      let w = value-fits s at v k m i in
      let r = setup-refused (value_at s v k) a p j in
      let long = value-length w in
      record {
        listed = r.listed;
        place = v + r.place;
        is = ap (moved v) r.is;
        within = omega (arith, w.end, w.fits, r.within, long);
        at_the_end = λ z. r.at_the_end (omega (arith, z, w.end, w.fits, r.within, long));
      }

  by-setup : (e at v k m : ℕ) (r : SetupReply) → page_item_at s at ≡ whole_field (Settings v k) m → read_setup (value_at s v k) ≡ r → Listed (inside s e v m r)
  by-setup e at v k m (setup_refused a p) i j = inner-refused at v k m a p i j
  by-setup e at v k m (setup_read w gs c stop) i j = end-listed (past_skipped s m) e w gs c

  by-settings : (e at : ℕ) (i : PageItem) → page_item_at s at ≡ i → Listed (page_settled s e at i)
  by-settings e at (bad_field a p) i = item-bad at (broken page_kinds s at i)
  by-settings e at (whole_field (Edition x) m) i = out_of_order at i
  by-settings e at (whole_field (Settings v k) m) i = by-setup e at v k m (read_setup (value_at s v k)) i refl
  by-settings e at (whole_field Skipped m) i = out_of_order at i
  by-settings e at (whole_field End m) i = out_of_order at i

  settings-listed : (e at : ℕ) → Listed (settings_at s e at)
  unfolding settings_at
  settings-listed e at = by-settings e at (page_item_at s at) refl

  -- ---- the page

  by_first : (i : PageItem) → page_item_at s 0 ≡ i → Listed (page_begun s i)
  by_first (bad_field a p) i = item-bad 0 (broken page_kinds s 0 i)
  by_first (whole_field (Edition e) m) i = settings-listed e (past_skipped s m)
  by_first (whole_field (Settings x k) m) i = out_of_order 0 i
  by_first (whole_field Skipped m) i = out_of_order 0 i
  by_first (whole_field End m) i = out_of_order 0 i

  pub refuses : (n : ℕ) (q : Option ℕ) → read_page s ≡ page_refused n q → RefusedPage s n q
  unfolding read_page
  refuses n q h = subst Listed h (by_first (page_item_at s 0) refl)
