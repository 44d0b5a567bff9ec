-- The page's part, lent and stored: what the table encodes then. Assumes nothing.
use Prim.Native.Nat.{ℕ, ◌+◌, ◌-◌, ◌≤◌}
use mathlib.Core.Path.{◌≡◌, refl, sym, ap, subst, ◌∙◌}
use mathlib.Core.List.{List}
use mathlib.Core.Option.{Option, none}
use native.Mathlib.Omega.{arith}
use borrow.Rule.Slice.PartMut.{put_mid, same_len_mid}
use lib.ListN.{length, take, drop}
use lib.Seq.{drop-drop}
use Rattle.rules.specs.State.{State, Setting}
use Rattle.rules.specs.Calls.{fresh}
use Rattle.alike.specs.Alike.{Alike}
use Rattle.alike.proofs.Alike.{alike_refl}
use Rattle.pages.specs.Device.{Page, in_force_of}
use Rattle.editions.specs.Part.{part_bytes, last_in, waiting_in, Fits, Stores}
use Rattle.editions.proofs.Lent.{tail_all, lent-tail, lent-front}
use Rattle.table.specs.Layout.{SIZE, table_size, page_part_bytes}
use Rattle.table.specs.Means.{meant}
use Rattle.table.specs.Encodes.{Encodes}
use Rattle.table.proofs.Lists.{empty-listed}
use Rattle.fresh.specs.Makes.{Makes}
use Rattle.paged.specs.Paged.{part_of}
use Rattle.paged.specs.Settles.{Rests, LeadsDevice}
use Rattle.paged.proofs.Core.{meant-core, beside-core, listed-core}
use Rattle.paged.proofs.Units.{filed-encodes}

-- a core that stays encodes what it did
encodes-core : (t u : List ℕ) (s : State) → take SIZE u ≡ take SIZE t → length u ≡ length t → Encodes t s → Encodes u s
encodes-core t u s same long e = record {
  room = omega (arith, e.room, long);
  alike = subst (λ (x : State). Alike x s) (sym (meant-core t u same)) e.alike;
  beside = beside-core t u same e.beside;
  listed = listed-core t u same e.listed;
}

-- bytes that are alike from some place on are so from any later one
pub drop-further : (a b : ℕ) (t u : List ℕ) → drop a u ≡ drop a t → drop (a + b) u ≡ drop (a + b) t
drop-further a b t u e = sym (drop-drop b a u) ∙ ap (drop b) e ∙ drop-drop b a t

-- t before the call, u as its part was lent, q what was lent and p as it came back
module _ (t u p : List ℕ) (n : ℕ) (w : Option Page) (s : State) where
  abbrev q : List ℕ
  q = take (length u - SIZE) (drop SIZE u)

  abbrev r : List ℕ
  r = put_mid SIZE (length u - SIZE) u p

  pub part-stored : table_size ≤ length u → Encodes u s → part_of u ≡ part_of t → length p ≡ length q → Stores q p n w → Fits p → LeadsDevice t r (record { state = s; edition = n; waiting = w })
  part-stored room e kept size st fits =
      let fit : SIZE ≤ length u = omega arith in
      let tail : part_of r ≡ p = lent-tail SIZE u p fit in
      let long : length r ≡ length u = same_len_mid SIZE (length u - SIZE) u p size in
      record {
        encodes = record {
          room = omega (arith, long);
          core = encodes-core u r s (lent-front SIZE u p fit) long e;
          edition = ap last_in tail ∙ st.last;
          waiting = ap waiting_in tail ∙ st.waiting;
          fits = subst Fits (sym tail) fits;
        };
        rest =
            sym (drop-drop page_part_bytes SIZE r)
            ∙ ap (drop page_part_bytes) tail
            ∙ drop-further part_bytes (page_part_bytes - part_bytes) q p st.rest
            ∙ ap (drop page_part_bytes) (tail_all SIZE u ∙ kept)
            ∙ drop-drop page_part_bytes SIZE t;
      }

-- the fresh table of a setup
pub makes-encodes : (t u : List ℕ) (gs : List Setting) → SIZE ≤ length u → Makes t u gs → Encodes u (fresh gs)
makes-encodes t u gs room m = record {
  room = room;
  alike = subst (λ (x : State). Alike x (fresh gs)) (sym m.state) (alike_refl (fresh gs));
  beside = m.beside;
  listed = empty-listed u gs m.state m.empty;
}

pub forced : (t u p : List ℕ) (n : ℕ) (gs : List Setting) → table_size ≤ length u → Makes t u gs → length p ≡ length (take (length u - SIZE) (drop SIZE u))
    → Stores (take (length u - SIZE) (drop SIZE u)) p n none × Fits p → LeadsDevice t (put_mid SIZE (length u - SIZE) u p) (in_force_of (record { edition = n; settings = gs }))
unfolding in_force_of
forced t u p n gs room m size st = part-stored t u p n none (fresh gs) room (makes-encodes t u gs (omega arith) m) m.rest size st.0 st.1

pub waited : (t p : List ℕ) (w : Option Page) → Rests t → length p ≡ length (take (length t - SIZE) (drop SIZE t))
    → Stores (take (length t - SIZE) (drop SIZE t)) p (last_in (take (length t - SIZE) (drop SIZE t))) w
    → LeadsDevice t (put_mid SIZE (length t - SIZE) t p) (record { state = meant t; edition = last_in (part_of t); waiting = w })
waited t p w r size st =
    let all = tail_all SIZE t in
    let q = take (length t - SIZE) (drop SIZE t) in
    part-stored t t p (last_in (part_of t)) w (meant t) r.room (filed-encodes t r.filed) refl size (subst (λ (n : ℕ). Stores q p n w) (ap last_in all) st) (st.fits (subst Fits (sym all) r.fits))
