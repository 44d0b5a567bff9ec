-- What specs/Promises.antt promises. Assumes nothing.
use Prim.Native.Nat.{ℕ, ◌<◌}
use mathlib.Core.Path.{◌≡◌, refl, sym, ◌∙◌}
use mathlib.Core.List.{List, [], ◌++◌}
use lib.ListN.{length}
use Rattle.fields.specs.Bytes.{as_field}
use Rattle.rules.specs.State.{Setting}
use Rattle.plan.specs.Read.{read_setup, SetupReply, setup_refused, setup_read}
use Rattle.plan.proofs.Accepted.{accepted-whole}
use Rattle.page.specs.Read.{page_read, read_page}
use Rattle.page.specs.Form.{Extra, AllSkippable, extra_bytes, page_bytes}
use Rattle.page.specs.Promises.{PageReadsExactly, WithoutSkipped, PagesWithin, SetupDecides, PageRefusesInside}
use Rattle.page.proofs.Forth.{upto-refused, page-reads, complete}
use Rattle.page.proofs.Formed.{accepted}
use Rattle.page.proofs.Parts.{parts, refused-read}
use Rattle.page.proofs.Places.{refuses}

pub reads-exactly : PageReadsExactly
unfolding PageReadsExactly
reads-exactly s e v gs n = (λ b h. accepted s b e v gs n h, λ a. complete s e v gs n a)

-- what is read of a page does not turn on what is skipped in it
module _ (d : ℕ) (setup : List ℕ) (high : d < 65536) (short : length setup < 65536) (xs ys xs' ys' : List Extra)
    (a : AllSkippable xs) (b : AllSkippable ys) (a' : AllSkippable xs') (b' : AllSkippable ys') (e v : ℕ) (gs : List Setting) (n : ℕ) where
  by-setup : (r : SetupReply) → read_setup setup ≡ r → read_page (page_bytes d xs setup ys) ≡ page_read e v gs n → read_page (page_bytes d xs' setup ys') ≡ page_read e v gs n
  by-setup (setup_refused k p) j h =
      refused-read (sym (upto-refused d xs setup (extra_bytes ys ++ as_field 127 []) high a short k p j) ∙ h)
  by-setup (setup_read w fs k p) j h = page-reads d xs' setup ys' high a' short b' w fs k p j ∙ sym (page-reads d xs setup ys high a short b w fs k p j) ∙ h

  same_read : read_page (page_bytes d xs setup ys) ≡ page_read e v gs n → read_page (page_bytes d xs' setup ys') ≡ page_read e v gs n
  same_read h = by-setup (read_setup setup) refl h

pub without-skipped : WithoutSkipped
unfolding WithoutSkipped AllSkippable
without-skipped d xs setup ys high a short b e v gs n =
    (λ h. same_read d setup high short xs ys [] [] a b tt tt e v gs n h, λ h. same_read d setup high short [] [] xs ys tt tt a b e v gs n h)

pub pages-within : PagesWithin
unfolding PagesWithin
pages-within s e v gs n h =
    let p = parts s e v gs n h in
    let w = (accepted-whole _ v gs n p.stop p.setup).0 in
    record { known = w.rule.format; setup = w.setup; are_there = w.are_there; some_lane = w.some_lane; few = w.few }

pub setup-decides : SetupDecides
unfolding SetupDecides
setup-decides d xs setup rest high a short n q h = upto-refused d xs setup rest high a short n q h

pub refuses-inside : PageRefusesInside
unfolding PageRefusesInside
refuses-inside s n q h = refuses s n q h
