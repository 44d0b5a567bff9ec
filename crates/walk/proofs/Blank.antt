-- A page's part in which no page was taken and none waits, and the table of a run over it. Assumes nothing.
use Prim.Native.Nat.{ℕ, ◌-◌, ◌≤◌}
use native.Mathlib.Omega.{arith}
use mathlib.Core.Path.{◌≡◌, sym, ap, subst, ◌∙◌}
use mathlib.Core.List.{List}
use mathlib.Core.Option.{none}
use borrow.Rule.Slice.PartMut.{put_mid}
use lib.ListN.{length, take, drop}
use lib.Seq.{drop-drop}
use Rattle.rules.specs.State.{State}
use Rattle.editions.specs.Part.{part_bytes, last_in, waiting_in, Fits, Stores}
use Rattle.editions.proofs.Lent.{tail_all, lent-tail}
use Rattle.table.specs.Layout.{SIZE, page_part_bytes, table_size}
use Rattle.table.specs.Encodes.{Encodes}
use Rattle.paged.specs.Paged.{part_of}
use Rattle.paged.proofs.Lending.{drop-further}
use Rattle.walk.specs.Follows.{Tabled}

pub record Blank (t u : List ℕ) : Type 0 where
  pub last : last_in (part_of u) ≡ 0
  pub waiting : waiting_in (part_of u) ≡ none
  pub fits : Fits (part_of u)
  pub rest : drop table_size u ≡ drop table_size t

pub blank-stored : (t p : List ℕ) → table_size ≤ length t → Stores (take (length t - SIZE) (drop SIZE t)) p 0 none × Fits p → Blank t (put_mid SIZE (length t - SIZE) t p)
blank-stored t p room st =
    let r = put_mid SIZE (length t - SIZE) t p in
    let tail : part_of r ≡ p = lent-tail SIZE t p (omega arith) in
    let q = take (length t - SIZE) (drop SIZE t) in
    record {
      last = ap last_in tail ∙ st.0.last;
      waiting = ap waiting_in tail ∙ st.0.waiting;
      fits = subst Fits (sym tail) st.1;
      rest =
          sym (drop-drop page_part_bytes SIZE r) ∙ ap (drop page_part_bytes) tail ∙ drop-further part_bytes (page_part_bytes - part_bytes) q p st.0.rest ∙ ap (drop page_part_bytes) (tail_all SIZE t)
          ∙ drop-drop page_part_bytes SIZE t;
    }

-- the requests leave it
pub blank-tabled : (t t₀ t' : List ℕ) (σ : State) → table_size ≤ length t' → Blank t t₀ → Encodes t' σ → drop SIZE t' ≡ drop SIZE t₀ → Tabled t t' σ
blank-tabled t t₀ t' σ room b e kept = record {
  encodes = record {
    room = room;
    core = e;
    edition = ap last_in kept ∙ b.last;
    waiting = ap waiting_in kept ∙ b.waiting;
    fits = subst Fits (sym kept) b.fits;
  };
  rest = drop-further SIZE page_part_bytes t₀ t' kept ∙ b.rest;
}
