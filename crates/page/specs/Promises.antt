-- What is promised of reading a page, of every input. Theorems of these names in small letters are in proofs/Promises.antt.
--
--   PageReadsExactly    the pages that are read are exactly those of the form, each with its own edition and its setup's own settings
--   WithoutSkipped      a page is read exactly if it is read without its skipped fields, and as the same
--   PagesWithin         the settings of a page that is read are within the numbers
--   SetupDecides        a fault of the setup inside is the page's, at its place counted from the page's start, whatever stands behind the setup
--   PageRefusesInside   a refusal has a number of a setup's refusals and a place in the page, at its length only for 1
--
-- Assumes nothing.
use Rattle.std.specs.Prelude.{ℕ, ◌+◌, ◌<◌, ◌≡◌, List, [], length}
use Rattle.std.proofs.Math.Option.{Option}
use Rattle.fields.specs.Bytes.{Bytes}
use Rattle.rules.specs.State.{Setting}
use Rattle.plan.specs.Read.{read_setup, setup_refused}
use Rattle.page.specs.Read.{page_read, page_refused, moved, read_page}
use Rattle.page.specs.Form.{Extra, AllSkippable, extra_bytes, upto_setup, page_bytes, AcceptedPage, PageWithin, RefusedPage}

-- R19.1
unfoldable pub PageReadsExactly : Type 0
PageReadsExactly =
    (s : List ℕ) (edition format : ℕ) (gs : List Setting) (n : ℕ)
    → (Bytes s → read_page s ≡ page_read edition format gs n → AcceptedPage s edition format gs n)
    × (AcceptedPage s edition format gs n → read_page s ≡ page_read edition format gs n)

-- R19.2
unfoldable pub WithoutSkipped : Type 0
WithoutSkipped =
    (edition : ℕ) (xs : List Extra) (setup : List ℕ) (ys : List Extra) → edition < 65536 → AllSkippable xs → length setup < 65536 → AllSkippable ys
    → (e format : ℕ) (gs : List Setting) (n : ℕ)
    → (read_page (page_bytes edition xs setup ys) ≡ page_read e format gs n → read_page (page_bytes edition [] setup []) ≡ page_read e format gs n)
    × (read_page (page_bytes edition [] setup []) ≡ page_read e format gs n → read_page (page_bytes edition xs setup ys) ≡ page_read e format gs n)

-- R19.1
unfoldable pub PagesWithin : Type 0
PagesWithin = (s : List ℕ) (edition format : ℕ) (gs : List Setting) (n : ℕ) → read_page s ≡ page_read edition format gs n → PageWithin format gs n

-- R19.5: the value of 0x41 stands behind the five bytes of 0x40, the skipped fields, and its own header of three.
unfoldable pub SetupDecides : Type 0
SetupDecides =
    (edition : ℕ) (xs : List Extra) (setup rest : List ℕ) → edition < 65536 → AllSkippable xs → length setup < 65536
    → (n : ℕ) (q : Option ℕ) → read_setup setup ≡ setup_refused n q → read_page (upto_setup edition xs setup rest) ≡ page_refused n (moved (8 + length (extra_bytes xs)) q)

-- R14.48
unfoldable pub PageRefusesInside : Type 0
PageRefusesInside = (s : List ℕ) (n : ℕ) (q : Option ℕ) → read_page s ≡ page_refused n q → RefusedPage s n q
