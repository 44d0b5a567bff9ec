-- The form of a page, byte for byte, and what a page that is read is. specs/Promises.antt says that exactly these pages are read.
--
--   Extra            a field that is skipped; Skippable: it may be; extra_bytes: some of them, one after another
--   upto_setup        a page as far as its 0x41, that among it; page_bytes: a whole page
--   AcceptedPage     the rule for a page that is read
--   PageWithin       what follows of its settings
--   RefusedPage      the rule for a refusal
--
-- Assumes nothing.
use Rattle.std.specs.Prelude.{ℕ, ◌≤◌, ◌<◌, ◌≡◌, true, List, [], ◌∷◌, ◌++◌, length}
use Rattle.std.proofs.Math.Option.{Option, some}
use Rattle.fields.specs.Bytes.{two, as_field}
use Rattle.rules.specs.State.{Setting}
use Rattle.rules.specs.Setup.{Setup}
use Rattle.plan.specs.Judge.{known_format}
use Rattle.plan.specs.Read.{read_setup, setup_read}
use Rattle.plan.specs.Accepted.{present, setup_refusals, among}

-- ---- bytes

-- R19.2
pub record Extra : Type 0 where
  pub tag : ℕ
  pub value : List ℕ

-- R19.2: A tag of 0x80 or above, and any length that two bytes can say.
pub record Skippable (x : Extra) : Type 0 where
  pub high : 128 ≤ x.tag
  pub short : length x.value < 65536

unfoldable pub AllSkippable : List Extra → Type 0
AllSkippable [] = Unit
AllSkippable (x ∷ xs) = Skippable x × AllSkippable xs

-- R19.2
unfoldable pub extra_bytes : List Extra → List ℕ
extra_bytes [] = []
extra_bytes (x ∷ xs) = as_field x.tag x.value ++ extra_bytes xs

-- 0x40 with the edition, fields that are skipped, 0x41 with a setup, and whatever follows ..
unfoldable pub upto_setup : ℕ → List Extra → List ℕ → List ℕ → List ℕ
upto_setup edition xs setup rest = as_field 64 (two edition) ++ (extra_bytes xs ++ (as_field 65 setup ++ rest))

-- R19.1: .. which in a page is fields that are skipped, and 0x7F.
abbrev pub page_bytes : ℕ → List Extra → List ℕ → List Extra → List ℕ
page_bytes edition xs setup ys = upto_setup edition xs setup (extra_bytes ys ++ as_field 127 [])

-- ---- what is read, and what is refused

-- R19.1: the page's bytes are of the form, its edition is 0 to 65,535, and the one setup reader reads the setup inside, as if it were the whole input.
pub record AcceptedPage (s : List ℕ) (edition format : ℕ) (gs : List Setting) (n : ℕ) : Type 0 where
  pub between : List Extra
  pub setup : List ℕ
  pub after : List Extra
  pub is : s ≡ page_bytes edition between setup after
  pub edition_high : edition < 65536
  pub skips_between : AllSkippable between
  pub short : length setup < 65536
  pub skips_after : AllSkippable after
  pub reads : read_setup setup ≡ setup_read format gs n (length setup)

-- The settings are a setup of the rules, of a known format, and n of its lanes are there.
pub record PageWithin (format : ℕ) (gs : List Setting) (n : ℕ) : Type 0 where
  pub known : known_format format ≡ true
  pub setup : Setup gs
  pub are_there : present gs ≡ n
  pub some_lane : 1 ≤ n
  pub few : n ≤ 64

-- A refusal has one of the setup's numbers and a place in the page, at its length only for 1.
pub record RefusedPage (s : List ℕ) (n : ℕ) (q : Option ℕ) : Type 0 where
  pub listed : among setup_refusals n ≡ true
  pub place : ℕ
  pub is : q ≡ some place
  pub within : place ≤ length s
  pub at_the_end : place ≡ length s → n ≡ 1
