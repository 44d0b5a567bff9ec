-- What is known of a line that was judged, and of one that passes.
--
--   Bare       what the walk has fixed: a line of the sheet stands where a lane field may, the format is 2, and there are no framing bytes
--   TakenRow   no refusal is due: the setup's own tests of a lane field pass too
--   is-taken   `verdict` answers `Taken`
--   passes     a line within the numbers, above those before it, is taken
--
-- Assumes nothing.
use Prim.Native.Nat.{◌+◌, ◌≤◌}
use mathlib.Core.Path.{◌≡◌, refl, sym}
use mathlib.Core.Bool.{Bool, true, false, not}
use lib.Dec.{leb, ltb}
use borrow.Author.Tests.{leb-true, le-ltb, le-leb}
use Rattle.std.specs.Prelude.{Err, None, Ok, Some}
use Rattle.std.specs.Prelude.{if◌then◌else◌}
use Rattle.units.proofs.Bools.{and_parts}
use Rattle.rules.specs.declared.Refusal.{Refusal}
use Rattle.rules.specs.declared.Refusal.TheVariants.{OutOfOrder}
use Rattle.plan.specs.Judge.{last_lane, within, misplaced, lane_outside, over}
use Rattle.plan.specs.declared.judge.Fault.TheVariants.{BadLane, BadWeight, BadLongest, TotalOver}
use Rattle.plan.specs.declared.judge.Seen.{Seen}
use Rattle.plan.specs.declared.parse.SetupField.TheVariants.{Lane}
use Rattle.sheet.specs.Judge.{Verdict, row_verdict, verdict, row_field}
use Rattle.sheet.specs.Read.{sheet_format}
use Rattle.sheet.specs.declared.form.Row.{Row}

pub record Bare (seen : Seen) : Type 0 where
  pub begun : seen.begun ≡ true
  pub format : seen.format ≡ sheet_format
  pub framing : seen.framing ≡ 0

pub refused-taken : {A : Type 0} {x : Refusal} → ◌≡◌ {A = Verdict} (Err x) (Ok tt) → A
refused-taken h = absurd (cc)

pub record TakenRow (seen : Seen) (r : Row) : Type 0 where
  pub number : r.lane.value ≤ 63
  pub weight_low : 1 ≤ r.weight.value
  pub weight_high : r.weight.value ≤ 1024
  pub longest_high : r.longest.value ≤ 1500
  pub inside : lane_outside (row_field r) ≡ None
  pub rising : ltb r.lane.value seen.floor ≡ false
  pub under : over seen (Lane (row_field r)) ≡ None

module _ (seen : Seen) (r : Row) where
  abbrev number : Bool
  number = leb r.lane.value last_lane

  abbrev weight : Bool
  weight = within 1 1024 r.weight.value

  abbrev longest : Bool
  longest = within 64 1500 r.longest.value

  abbrev falls : Bool
  falls = ltb r.lane.value seen.floor

  abbrev heavy : Bool
  heavy = ltb 1024 (seen.total + r.weight.value)

  -- the answer by its tests
  abbrev pub by_tests : Bool → Bool → Bool → Bool → Bool → Verdict
  by_tests a b c d e =
      row_verdict r (if not a then Some BadLane else (if not b then Some BadWeight else (if not c then Some BadLongest else None)))
      (if d then Err (OutOfOrder r.lane.place) else row_verdict r (if e then Some TotalOver else None) (Ok tt))

  tests : (a b c d e : Bool) → number ≡ a → weight ≡ b → longest ≡ c → falls ≡ d → heavy ≡ e → by_tests a b c d e ≡ Ok tt → TakenRow seen r
  unfolding lane_outside
  tests false b c d e p q s t u h = refused-taken h
  tests true false c d e p q s t u h = refused-taken h
  tests true true false d e p q s t u h = refused-taken h
  tests true true true true e p q s t u h = refused-taken h
  tests true true true false true p q s t u h = refused-taken h
  tests true true true false false p q s t u h =
      let w = and_parts (leb 1 r.weight.value) (leb r.weight.value 1024) q in
      record {
        number = leb-true r.lane.value 63 p;
        weight_low = leb-true 1 r.weight.value w.0;
        weight_high = leb-true r.weight.value 1024 w.1;
        longest_high = leb-true r.longest.value 1500 (and_parts (leb 64 r.longest.value) (leb r.longest.value 1500) s).1;
        inside = rw (p, q, s);
        rising = t;
        under = rw u;
      }

  pub is-taken : verdict seen r ≡ Ok tt → TakenRow seen r
  unfolding verdict lane_outside
  is-taken h = tests number weight longest falls heavy refl refl refl refl refl h

  pub in_place : Bare seen → TakenRow seen r → misplaced seen (Lane (row_field r)) ≡ false
  in_place b t = rw (b.begun, t.rising)

  -- the later tests may be unknown
  pub verdict-by : {a b c d e : Bool} → number ≡ a → weight ≡ b → longest ≡ c → falls ≡ d → heavy ≡ e → by_tests a b c d e ≡ verdict seen r
  unfolding verdict lane_outside
  verdict-by p q s t u = rw (← p, ← q, ← s, ← t, ← u)

  pub passes : r.lane.value ≤ 63 → 1 ≤ r.weight.value → r.weight.value ≤ 1024 → 64 ≤ r.longest.value → r.longest.value ≤ 1500 → seen.floor ≤ r.lane.value
      → seen.total + r.weight.value ≤ 1024 → verdict seen r ≡ Ok tt
  passes a b c d e f g =
      let weight-in : weight ≡ true = rw (le-leb 1 r.weight.value b) (le-leb r.weight.value 1024 c) in
      let longest-in : longest ≡ true = rw (le-leb 64 r.longest.value d) (le-leb r.longest.value 1500 e) in
      sym (verdict-by (le-leb r.lane.value 63 a) weight-in longest-in (le-ltb r.lane.value seen.floor f) (le-ltb 1024 (seen.total + r.weight.value) g))
