-- How the walk stands at a place: the invariant of `read_plan`'s loop, and what each field does to it.
--
--   Standing     the walk from here answers what the whole reading answers, and the numbers so far are small
--   stand-first  before the first field
--   stand-no     at a refused field; stand-end: at 0x7F; stand-next: after any other field
--
-- Assumes nothing.
use Prim.Native.Nat.{ℕ, zero, suc, ◌-◌, ◌≤◌, ◌<◌}
use mathlib.Core.Path.{◌≡◌, refl, sym, subst, ap, ◌∙◌}
use mathlib.Core.Bool.{true, false}
use mathlib.Core.List.{List}
use mathlib.Core.Option.{Option, some}
use native.Mathlib.Decide.{dec_le}
use native.Mathlib.Omega.{arith}
use lib.ListN.{length}
use Rattle.fields.proofs.Header.{header-none}
use Rattle.fields.proofs.Item.{item-none}
use Rattle.rules.specs.State.{Setting}
use Rattle.fields.specs.Item.{whole_field, bad_field}
use Rattle.plan.specs.Fields.{setup_kinds, ends}
use Rattle.plan.specs.Judge.{judged_at, seen_after}
use Rattle.plan.specs.Read.{setup_read, setup_refused, nothing_seen, no_lanes, placed, setup_walk, read_plan}
use Rattle.plan.specs.declared.judge.Seen.{Seen}
use Rattle.plan.specs.declared.parse.SetupField.{SetupField}
use Rattle.plan.proofs.Turn.{turned}
use Rattle.plan.proofs.Judged.{judged-no}
use Rattle.plan.proofs.Taken.{Taken, is-taken}
use Rattle.plan.proofs.Sound.{Sound, sound-first, sound-after}

pub record Standing (s : List ℕ) (at : ℕ) (seen : Seen) (gs : List Setting) (p : ℕ) : Type 0 where
  pub sound : Sound seen gs
  pub turns : ℕ
  pub enough : length s - p ≤ turns
  pub same : setup_walk turns s seen gs p ≡ read_plan s at

-- one turn of the walk
turn : (turns : ℕ) (s : List ℕ) (seen : Seen) (gs : List Setting) (p : ℕ) → 0 < turns
    → setup_walk turns s seen gs p ≡ turned (turns - 1) s seen gs (judged_at seen s p)
unfolding setup_walk
turn zero s seen gs p h = absurd (omega (arith, h))
turn (suc t) s seen gs p h = let e : suc t - 1 ≡ t = omega arith in rw e

pub stand-first : (s : List ℕ) (at : ℕ) → Standing s at nothing_seen no_lanes at
unfolding read_plan
stand-first s at = record { sound = sound-first; turns = length s - at; enough = omega arith; same = refl }

module _ (s : List ℕ) (at : ℕ) (seen : Seen) (gs : List Setting) (p : ℕ) (st : Standing s at seen gs p) where
  -- with no turn left there is no byte left
  stand-last : (n : ℕ) (q : Option ℕ) → st.turns ≡ 0 → judged_at seen s p ≡ bad_field n q → setup_refused n q ≡ read_plan s at
  unfolding setup_walk
  stand-last n q z h =
      let e : judged_at seen s p ≡ bad_field 1 (some (length s)) = judged-no seen s p 1 (some (length s)) (item-none setup_kinds s p (header-none s p (omega (arith, st.enough, z)))) in
      let f : bad_field 1 (some (length s)) ≡ bad_field n q = sym e ∙ h in
      let a : setup_refused n q ≡ setup_refused 1 (some (length s)) = cc in
      a ∙ subst (λ (t : ℕ). setup_walk t s seen gs p ≡ read_plan s at) z st.same

  pub stand-no : (n : ℕ) (q : Option ℕ) → judged_at seen s p ≡ bad_field n q → setup_refused n q ≡ read_plan s at
  stand-no n q h =
      elim (dec_le 1 st.turns) [
        | yes b ↦ sym (turn st.turns s seen gs p b ∙ ap (turned (st.turns - 1) s seen gs) h) ∙ st.same
        | no b ↦ stand-last n q (omega arith) h
      ]

  module _ (f : SetupField) (m : ℕ) (h : judged_at seen s p ≡ whole_field f m) where
    pub taken_here : Taken seen s p f m
    taken_here = is-taken seen s p f m h

    pub moves : (p < m) × (m ≤ length s)
    moves = omega (arith, taken_here.stand.fits, taken_here.stand.after)

    here : setup_walk st.turns s seen gs p ≡ turned (st.turns - 1) s seen gs (whole_field f m)
    here =
        turn st.turns s seen gs p (omega (arith, st.enough, moves.0, moves.1))
        ∙ ap (turned (st.turns - 1) s seen gs) h

    pub stand-end : ends f ≡ true → setup_read seen.format gs seen.count m ≡ read_plan s at
    stand-end e = sym (here ∙ simp e) ∙ st.same

    pub stand-next : ends f ≡ false → Standing s at (seen_after seen f) (placed seen.format seen.framing gs f) m
    stand-next e = record {
      sound = sound-after seen gs f st.sound taken_here.in_place taken_here.inside taken_here.under;
      turns = st.turns - 1;
      enough = omega (arith, st.enough, moves.0, moves.1);
      same = sym (here ∙ simp e) ∙ st.same;
    }
