-- How the walk over skipped fields stands at a place: the invariant of `past_skipped`'s loop, and what each field does to it.
--
--   Standing     the walk from here comes where the whole walk comes
--   stand-first  before the first field; stand-stop: where it stops, at any field but a skipped one (stops); stand-next: behind a skipped field
--
-- Assumes nothing.
use Prim.Native.Nat.{ℕ, zero, suc, ◌-◌, ◌≤◌, ◌<◌}
use mathlib.Core.Path.{◌≡◌, refl, sym, ap, ◌∙◌}
use mathlib.Core.List.{List}
use native.Mathlib.Omega.{arith}
use lib.ListN.{length}
use Rattle.fields.specs.Item.{whole_field, bad_field}
use Rattle.fields.proofs.Item.{stands}
use Rattle.std.specs.Prelude.{if◌then◌else◌}
use Rattle.page.specs.Fields.{PageItem, page_item_at}
use Rattle.page.specs.Read.{is_skipped, skip_walk, past_skipped}
use Rattle.page.specs.declared.parse.PageField.{PageField}
use Rattle.page.specs.declared.parse.PageField.TheVariants.{Edition, Settings, Skipped, End}

pub record Standing (s : List ℕ) (at p : ℕ) : Type 0 where
  pub turns : ℕ
  pub enough : length s - p ≤ turns
  pub same : skip_walk turns s p ≡ past_skipped s at

-- one turn of `skip_walk`, as a function of what stands at its place
abbrev pub passed : ℕ → List ℕ → ℕ → PageItem → ℕ
passed turns s at i = elim i [
  | bad_field n p ↦ at
  | whole_field f next ↦ if is_skipped f then skip_walk turns s next else at
]

-- a field at which the walk stops, whatever follows
abbrev pub Stops : List ℕ → ℕ → PageItem → Type 0
Stops s p i = (turns : ℕ) → passed turns s p i ≡ p

pub stops : (s : List ℕ) (p : ℕ) (f : PageField) (m : ℕ) → (f ≡ Skipped → ⊥) → Stops s p (whole_field f m)
stops s p (Edition e) m isnt turns = refl
stops s p (Settings v n) m isnt turns = refl
stops s p Skipped m isnt turns = absurd (isnt refl)
stops s p End m isnt turns = refl

pub stopped : (turns : ℕ) (s : List ℕ) (p : ℕ) (i : PageItem) → page_item_at s p ≡ i → Stops s p i → skip_walk turns s p ≡ p
unfolding skip_walk
stopped zero s p i e stop = refl
stopped (suc turns) s p i e stop = ap (passed turns s p) e ∙ stop turns

-- one turn over a skipped field
pub turn : (turns : ℕ) (s : List ℕ) (p m : ℕ) → 0 < turns → page_item_at s p ≡ whole_field Skipped m → skip_walk turns s p ≡ skip_walk (turns - 1) s m
unfolding skip_walk
turn zero s p m h e = absurd (omega (arith, h))
turn (suc turns) s p m h e =
    let less : suc turns - 1 ≡ turns = omega arith in
    rw less (ap (passed turns s p) e)

pub stand-first : (s : List ℕ) (at : ℕ) → Standing s at at
unfolding past_skipped
stand-first s at = record { turns = length s - at; enough = omega arith; same = refl }

module _ (s : List ℕ) (at p : ℕ) (st : Standing s at p) where
  pub stand-stop : (i : PageItem) → page_item_at s p ≡ i → Stops s p i → p ≡ past_skipped s at
  stand-stop i e stop = sym (stopped st.turns s p i e stop) ∙ st.same

  module _ (m : ℕ) (e : page_item_at s p ≡ whole_field Skipped m) where
    pub moves : (p < m) × (m ≤ length s)
    moves = let k = stands e in omega (arith, k.after, k.fits)

    pub stand-next : Standing s at m
    stand-next = record {
      turns = st.turns - 1;
      enough = omega (arith, st.enough, moves.0, moves.1);
      same = sym (turn st.turns s p m (omega (arith, st.enough, moves.0, moves.1)) e) ∙ st.same;
    }
