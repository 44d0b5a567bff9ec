-- A page of the form is read.
--
--   skip-bytes    skipped fields are passed over
--   upto-reads    a page as far as its 0x41: the setup inside decides
--   page-reads    a whole page: read, if its setup is
--
-- Assumes nothing.
use Prim.Native.Nat.{ℕ, ◌+◌, ◌-◌, ◌≤◌, ◌<◌}
use mathlib.Core.Path.{◌≡◌, refl, ap, ◌∙◌}
use mathlib.Core.List.{List, [], ◌∷◌, ◌++◌, append_assoc}
use mathlib.Core.Option.{Option}
use native.Mathlib.Omega.{arith}
use lib.ListN.{length, drop, length-append}
use Rattle.fields.specs.Bytes.{two, as_field}
use Rattle.fields.specs.Item.{whole_field}
use Rattle.rules.specs.State.{Setting}
use Rattle.plan.specs.Read.{read_setup, setup_refused, setup_read}
use Rattle.page.specs.Fields.{PageItem, page_item_at}
use Rattle.page.specs.Read.{PageReply, page_read, page_refused, skip_walk, past_skipped, end_at, moved, inside, settings_at, read_page}
use Rattle.page.specs.Form.{Extra, AllSkippable, extra_bytes, upto_setup, page_bytes, AcceptedPage}
use Rattle.page.specs.declared.parse.PageField.TheVariants.{Settings}
use Rattle.page.proofs.Skips.{Stops, stopped, turn}
use Rattle.page.proofs.Answers.{end-closed, settings-whole, page-begun}
use Rattle.page.proofs.Bytes.{stood, rest_from, edition-item, settings-item, skipped-item, end-item}

-- ---- skipped fields

skips : (turns : ℕ) (s : List ℕ) (at : ℕ) (xs : List Extra) (rest : List ℕ) (p : ℕ) (i : PageItem) → AllSkippable xs → drop at s ≡ extra_bytes xs ++ rest
    → at + length (extra_bytes xs) ≡ p → length s - at ≤ turns → page_item_at s p ≡ i → Stops s p i → skip_walk turns s at ≡ p
unfolding AllSkippable extra_bytes
skips turns s at [] rest p i all h e low j stop = let q : at ≡ p = omega (arith, e) in ap (skip_walk turns s) q ∙ stopped turns s p i j stop
skips turns s at (x ∷ xs) rest p i all h e low j stop =
    let b = all.0 in
    let f : drop at s ≡ as_field x.tag x.value ++ (extra_bytes xs ++ rest) = h ∙ append_assoc (as_field x.tag x.value) (extra_bytes xs) rest in
    let st = stood s at x.tag x.value (extra_bytes xs ++ rest) b.short f in
    let m = at + 3 + length x.value in
    let here = skipped-item s at x.tag x.value (extra_bytes xs ++ rest) b.high b.short f in
    let size : m + length (extra_bytes xs) ≡ p = omega (arith, e, length-append (as_field x.tag x.value) (extra_bytes xs)) in
    turn turns s at m (omega (arith, low, st.long)) here
    ∙ skips (turns - 1) s m xs rest p i all.1 st.follows size (omega (arith, low, st.long)) j stop

pub skip-bytes : (s : List ℕ) (at : ℕ) (xs : List Extra) (rest : List ℕ) (p : ℕ) (i : PageItem) → AllSkippable xs → drop at s ≡ extra_bytes xs ++ rest
    → at + length (extra_bytes xs) ≡ p → page_item_at s p ≡ i → Stops s p i → past_skipped s at ≡ p
unfolding past_skipped
skip-bytes s at xs rest p i all h e j stop = skips (length s - at) s at xs rest p i all h e (omega arith) j stop

-- ---- a page as far as its 0x41

module _ (e : ℕ) (xs : List Extra) (setup rest : List ℕ) (high : e < 65536) (all : AllSkippable xs) (short : length setup < 65536) where
  abbrev page : List ℕ
  page = upto_setup e xs setup rest

  abbrev body : List ℕ
  body = as_field 65 setup ++ rest

  -- where 0x41 stands, and where its value ends
  abbrev pub at : ℕ
  at = 5 + length (extra_bytes xs)

  abbrev pub end : ℕ
  end = at + 3 + length setup

  first : drop 0 page ≡ as_field 64 (two e) ++ (extra_bytes xs ++ body)
  unfolding upto_setup
  first = refl

  behind-first : drop 5 page ≡ extra_bytes xs ++ body
  behind-first = (stood page 0 64 (two e) (extra_bytes xs ++ body) (omega arith) first).follows

  here : drop at page ≡ body
  here = rest_from page (extra_bytes xs ++ body) 5 behind-first (extra_bytes xs) body at refl refl

  second : page_item_at page at ≡ whole_field (Settings (at + 3) (length setup)) end
  second = settings-item page at setup rest short here

  pub behind-setup : drop end page ≡ rest
  behind-setup = (stood page at 65 setup rest short here).follows

  skipped : past_skipped page 5 ≡ at
  skipped = skip-bytes page 5 xs body at _ all behind-first refl second (λ turns. refl)

  pub upto-reads : read_page page ≡ inside page e (at + 3) end (read_setup setup)
  upto-reads =
      page-begun page e 5 (edition-item page 0 e (extra_bytes xs ++ body) high first)
      ∙ ap (settings_at page e) skipped
      ∙ settings-whole page e at (at + 3) (length setup) end second
      ∙ ap (λ (x : List ℕ). inside page e (at + 3) end (read_setup x)) (stood page at 65 setup rest short here).value_is

  pub upto-refused : (n : ℕ) (q : Option ℕ) → read_setup setup ≡ setup_refused n q → read_page page ≡ page_refused n (moved (8 + length (extra_bytes xs)) q)
  upto-refused n q h =
      let f : at + 3 ≡ 8 + length (extra_bytes xs) = omega arith in
      upto-reads ∙ ap (inside page e (at + 3) end) h ∙ ap (λ (k : ℕ). page_refused n (moved k q)) f

-- ---- a whole page

module _ (e : ℕ) (xs : List Extra) (setup : List ℕ) (ys : List Extra) (high : e < 65536) (all : AllSkippable xs) (short : length setup < 65536) (all' : AllSkippable ys) where
  abbrev full : List ℕ
  full = page_bytes e xs setup ys

  abbrev tail : List ℕ
  tail = extra_bytes ys ++ as_field 127 []

  abbrev last : ℕ
  last = end e xs setup tail high all short + length (extra_bytes ys)

  behind : drop (end e xs setup tail high all short) full ≡ tail
  behind = behind-setup e xs setup tail high all short

  third : drop last full ≡ as_field 127 [] ++ []
  third = rest_from full tail (end e xs setup tail high all short) behind (extra_bytes ys) (as_field 127 []) last refl refl

  ends : (r : PageReply) → end_at full (past_skipped full (end e xs setup tail high all short)) r ≡ r
  ends r =
      let item = end-item full last [] third in
      let st = stood full last 127 [] [] (omega arith) third in
      ap (λ (p : ℕ). end_at full p r) (skip-bytes full (end e xs setup tail high all short) ys (as_field 127 []) last _ all' behind refl item (λ turns. refl))
      ∙ end-closed full last r (last + 3 + 0) item (omega (arith, st.long))

  pub page-reads : (v : ℕ) (gs : List Setting) (n p : ℕ) → read_setup setup ≡ setup_read v gs n p → read_page full ≡ page_read e v gs n
  page-reads v gs n p h = upto-reads e xs setup tail high all short ∙ ap (inside full e (at e xs setup tail high all short + 3) (end e xs setup tail high all short)) h ∙ ends (page_read e v gs n)

pub complete : (s : List ℕ) (e v : ℕ) (gs : List Setting) (n : ℕ) → AcceptedPage s e v gs n → read_page s ≡ page_read e v gs n
complete s e v gs n a =
    ap read_page a.is ∙ page-reads e a.between a.setup a.after a.edition_high a.skips_between a.short a.skips_after v gs n (length a.setup) a.reads
