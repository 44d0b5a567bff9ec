-- From the stores of `take_back` to the rules' state with the clock taken back, and to a table that is known to be good. Assumes nothing.
use mathlib.Core.Path.{◌≡◌, refl, sym, ap, subst, ◌∙◌}
use mathlib.Core.Option.{Option, none, some}
use Prim.Native.Nat.{ℕ, ◌+◌, ◌-◌, ◌*◌, ◌/◌, ◌%◌, ◌^◌, ◌≤◌, ◌<◌}
use mathlib.Core.List.{List}
use native.Mathlib.Omega.{arith}
use lib.ListN.{length}
use borrow.Author.Tests.{le-leb, lt-leb}
use Rattle.rules.specs.State.{State, clock_far, clock_kept, clock_step, lane_at}
use Rattle.rules.specs.Good.{Good}
use Rattle.rules.specs.Calls.{taken_off, lower_all, shifted}
use Rattle.rules.proofs.Further.{mapped, plus}
use Rattle.rules.proofs.Shift.{taken_off-is}
use Rattle.rules.proofs.GoodShift.{good-above, shifted-good}
use Rattle.slot_lists.specs.Lists.{back_at, list_at, start_at}
use Rattle.slot_lists.specs.Changes.{earlier_by, Lowered}
use Rattle.slot_lists.proofs.Lowered.{lowered-lists, lowered-solid}
use Rattle.filing.specs.Filing.{in_aRow, Agrees}
use Rattle.filing.proofs.Flat.{flat-ext}
use Rattle.filing.proofs.TakenBack.{start-above, shifted-agrees}
use Rattle.table.specs.Layout.{Behind, cells}
use Rattle.table.specs.Means.{state_of, meant, Leaves, with_clock}
use Rattle.table.proofs.Stores.{behind-then}
use Rattle.table.proofs.Lists.{cells-around, past-rings, back-stays, lists-stay, starts-stay, solid-stays}
use Rattle.table.proofs.Footprint.{lanes-many}
use Rattle.choice.specs.Known.{Known}
use Rattle.back.specs.Back.{NotBelow, lowered_to, TakesBack}
use Rattle.back.proofs.States.{lowered-all}

-- the clock is not far on
pub back-near : (t : List ℕ) (v : ℕ) → Known t → v ≡ (meant t).clock → v < clock_far → TakesBack t t
unfolding shifted
back-near t v known e h = record { state = simp (lt-leb clock_far (meant t).clock (omega arith)); known = known; rest = refl }

module _ (t : List ℕ) (v d : ℕ) (known : Known t) (ev : v ≡ (meant t).clock) (far : clock_far ≤ v) (ed : d ≡ (v - clock_kept) / clock_step * clock_step) where
  is-far : clock_far ≤ (meant t).clock
  is-far = omega arith

  -- K
  off : d ≡ taken_off (meant t).clock
  off = omega (arith, taken_off-is (meant t).clock)

  whole : d % 2 ^ 31 ≡ 0
  whole = omega arith

  pub back_above : (k : ℕ) → NotBelow d (lane_at (meant t) k)
  back_above k h = omega (arith, off, (good-above (meant t) known.good is-far k h).0)

  module _ (t₁ t₂ : List ℕ) (a : Leaves t t₁ (lowered_to 64 d (meant t))) (b : Leaves t₁ t₂ (with_clock (meant t₁) (v - d))) where
    apart : Behind t t₂
    apart = behind-then a.rest b.rest

    state₂ : meant t₂ ≡ shifted (meant t)
    unfolding shifted lower_all
    state₂ =
        let clock : v - d ≡ (meant t).clock - taken_off (meant t).clock = omega (arith, off) in
        let lanes = lowered-all d (meant t) (lanes-many t) in
        let state : with_clock (lowered_to 64 d (meant t)) (v - d) ≡ lower_all (taken_off (meant t).clock) (meant t) = rw (clock, lanes, off) in
        let now : shifted (meant t) ≡ lower_all (taken_off (meant t).clock) (meant t) = simp (le-leb clock_far (meant t).clock is-far) in
        b.state ∙ ap (λ (s : State). with_clock s (v - d)) a.state ∙ state ∙ sym now

    pub back_small : back_at t₂ < 2 ^ 36
    back_small = omega (arith, back-stays t t₂ apart, known.listed.solid.back_small)

    module _ (t₃ : List ℕ) (len : length t₃ ≡ length t) (l : Lowered t₂ t₃ d) where
      same-cells : cells t₃ ≡ cells t₂
      same-cells = cells-around t₂ t₃ l.below l.rest

      lists₃ : (g i : ℕ) → 16 ≤ g → g ≤ 31 → i < 32 → list_at t₃ g i ≡ list_at t g i
      lists₃ g i lo hi hi' = lowered-lists t₂ t₃ d l g i lo hi hi' ∙ lists-stay t t₂ apart g i hi hi'

      row₃ : in_aRow (list_at t₃) ≡ in_aRow (list_at t₂)
      unfolding in_aRow
      row₃ = flat-ext 16 _ _ (λ i h. flat-ext 32 _ _ (λ j p. lowered-lists t₂ t₃ d l (16 + i) j (omega arith) (omega arith) p))

      state₃ : meant t₃ ≡ shifted (meant t)
      state₃ = ap (λ (w : List ℕ). state_of w (in_aRow (list_at t₃))) same-cells ∙ ap (state_of (cells t₂)) row₃ ∙ state₂

      -- the starts are K less, and were K or more
      start_back : (o : Option ℕ) → ((r : ℕ) → o ≡ some r → taken_off (meant t).clock ≤ r) → o ≡ mapped (plus (taken_off (meant t).clock)) (earlier_by d o)
      start_back none h = refl
      start_back (some r) h =
          let e : r ≡ r - d + taken_off (meant t).clock = omega (arith, off, h r refl) in
          ap some e

      starts₃ : (g : ℕ) → 16 ≤ g → g ≤ 31 → start_at t g ≡ mapped (plus (taken_off (meant t).clock)) (start_at t₃ g)
      starts₃ g lo hi =
          start_back (start_at t g) (λ r e. start-above (meant t) known.good is-far (back_at t) (list_at t) (start_at t) known.listed.agrees g r lo hi e)
          ∙ ap (λ (o : Option ℕ). mapped (plus (taken_off (meant t).clock)) (earlier_by d o)) (sym (starts-stay t t₂ apart g hi)) ∙ ap (mapped (plus (taken_off (meant t).clock))) (sym (l.starts g lo hi))

      back₃ : back_at t₃ ≡ (back_at t + taken_off (meant t).clock) % 2 ^ 36
      back₃ = l.back ∙ ap (λ (x : ℕ). (x + d) % 2 ^ 36) (back-stays t t₂ apart) ∙ ap (λ (x : ℕ). (back_at t + x) % 2 ^ 36) off

      agrees₃ : Agrees (back_at t₃) (list_at t₃) (start_at t₃) (meant t₃)
      agrees₃ =
          let ag = shifted-agrees (meant t) known.good is-far (back_at t) (list_at t) (start_at t) (start_at t₃) starts₃ known.listed.agrees in
          rw (state₃, back₃) (record { filed = λ g i lo hi hi'. lists₃ g i lo hi hi' ∙ ag.filed g i lo hi hi'; started = ag.started })

      pub back-taken : TakesBack t t₃
      back-taken = record {
        state = state₃;
        known = record {
          sound = record { room = omega (arith, known.sound.room, len); beside = rw same-cells (b.beside (a.beside known.sound.beside)) };
          listed = record { solid = lowered-solid t₂ t₃ d l (solid-stays t t₂ apart known.listed.solid) whole; agrees = agrees₃ };
          good = subst Good (sym state₃) (shifted-good (meant t) known.good);
        };
        rest = past-rings t₂ t₃ l.rest ∙ apart.past;
      }
