-- The refusals of a setup: which they are, and where.
--
--   setup-refused   whatever `read_setup` refuses has a number of `setup_refusals` and a place in the setup
--   other-refusal   a refusal that `moved` leaves alone is none of these
--
-- Assumes nothing.
use Prim.Native.Nat.{ℕ}
use mathlib.Core.Path.{◌≡◌, refl, sym, ap, ◌∙◌}
use mathlib.Core.Bool.{Bool, true, false}
use mathlib.Core.List.{List, [], ◌∷◌}
use mathlib.Core.Option.{Option, some}
use native.Mathlib.Omega.{arith}
use borrow.Author.Tests.{ltb-true}
use denote.Enum.Declared.{tag_of}
use types.Run.{OneOf, miss}
use lib.Dec.{ltb}
use lib.ListN.{length}
use Rattle.std.specs.Prelude.{if◌then◌else◌}
use Rattle.units.proofs.Bools.{true-false}
use Rattle.rules.specs.State.{Setting}
use Rattle.rules.specs.Reads.{number}
use Rattle.rules.specs.declared.Refusal.{Refusal}
use Rattle.rules.specs.declared.Refusal.TheVariants.{Cut, UnknownTag, WrongLength, OutOfOrder, WeightsOver, TableShort, NotGood, NoLane, BadLength, LaneFull, StillHolds, NothingHeld, RunBounds, InputLong, FormatOutside, LaneOutside, WeightOutside, LongestOutside, FramingOutside, WrongByte, SheetCut, NoSheet, NoTrain, TrainFull}
use Rattle.rules.specs.contracts.Refusal as refusal
use Rattle.plan.specs.Read.{SetupReply, setup_read, setup_refused, read_plan, setup_closed, read_setup}
use Rattle.plan.specs.Accepted.{setup_refusals, among, RefusedSetup}
use Rattle.plan.proofs.Refusals.{refused-place, read-refused}

module _ (s : List ℕ) (n : ℕ) (q : Option ℕ) where
  -- a byte behind the setup's 0x7F
  by-test : (v : ℕ) (gs : List Setting) (k p : ℕ) (b : Bool) → ltb p (length s) ≡ b → (if b then setup_refused 4 (some p) else setup_read v gs k p) ≡ setup_refused n q → RefusedSetup s 0 n q
  by-test v gs k p false t h = read-refused h
  by-test v gs k p true t h =
      let e : 4 ≡ n = cc in
      let f : some p ≡ q = cc in
      let inside = ltb-true p (length s) t in
      record {
        listed = sym (ap (among setup_refusals) e);
        place = p;
        is = sym f;
        from = λ l. omega arith;
        within = omega arith;
        at_the_end = λ z. absurd (omega (arith, z));
        shows = rw (← e);
      }

  by-reply : (r : SetupReply) → read_plan s 0 ≡ r → setup_closed s r ≡ setup_refused n q → RefusedSetup s 0 n q
  by-reply (setup_refused a b) e h = refused-place s n q 0 (e ∙ h)
  by-reply (setup_read v gs k p) e h = by-test v gs k p (ltb p (length s)) refl h

  pub setup-refused : read_setup s ≡ setup_refused n q → RefusedSetup s 0 n q
  unfolding read_setup
  setup-refused h = by-reply (read_plan s 0) refl h

-- the places in the enum of the refusals that no setup gives
abbrev pub others : List ℕ
others = 5 ∷ 6 ∷ 7 ∷ 8 ∷ 9 ∷ 10 ∷ 11 ∷ 12 ∷ 13 ∷ 19 ∷ 20 ∷ 21 ∷ 22 ∷ 23 ∷ []

pub other-refusal : {A : Type 0} (x : Refusal) → OneOf others (tag_of refusal.the_type x) → among setup_refusals (number x) ≡ true → A
other-refusal (Cut p) o h = absurd (miss others 0 tt o)
other-refusal (UnknownTag p) o h = absurd (miss others 1 tt o)
other-refusal (WrongLength p) o h = absurd (miss others 2 tt o)
other-refusal (OutOfOrder p) o h = absurd (miss others 3 tt o)
other-refusal (WeightsOver p) o h = absurd (miss others 4 tt o)
other-refusal TableShort o h = true-false (sym h)
other-refusal NotGood o h = true-false (sym h)
other-refusal NoLane o h = true-false (sym h)
other-refusal BadLength o h = true-false (sym h)
other-refusal LaneFull o h = true-false (sym h)
other-refusal StillHolds o h = true-false (sym h)
other-refusal NothingHeld o h = true-false (sym h)
other-refusal RunBounds o h = true-false (sym h)
other-refusal InputLong o h = true-false (sym h)
other-refusal (FormatOutside p) o h = absurd (miss others 14 tt o)
other-refusal (LaneOutside p) o h = absurd (miss others 15 tt o)
other-refusal (WeightOutside p) o h = absurd (miss others 16 tt o)
other-refusal (LongestOutside p) o h = absurd (miss others 17 tt o)
other-refusal (FramingOutside p) o h = absurd (miss others 18 tt o)
other-refusal (WrongByte p) o h = true-false (sym h)
other-refusal (SheetCut p) o h = true-false (sym h)
other-refusal NoSheet o h = true-false (sym h)
other-refusal NoTrain o h = true-false (sym h)
other-refusal TrainFull o h = true-false (sym h)
