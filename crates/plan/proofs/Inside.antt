-- What a test of specs/Judge.antt that was passed says of the numbers.
-- Assumes nothing.
use Prim.Native.Nat.{ℕ, ◌+◌, ◌≤◌}
use mathlib.Core.Path.{◌≡◌, refl}
use mathlib.Core.Bool.{Bool, true, false, not, ◌||◌}
use native.Mathlib.Omega.{arith}
use borrow.Author.Tests.{leb-true, ltb-false, eqb-true}
use lib.Dec.{leb, ltb, eqb}
use Rattle.std.specs.Prelude.{Option, Some, None, if◌then◌else◌}
use Rattle.units.proofs.Bools.{and_parts, or_parts, true-false}
use Rattle.rules.specs.Setup.{InNumbers}
use Rattle.plan.specs.Judge.{known_format, longest_of, longest_right, given, last_lane, most_framing, within, misplaced, lane_outside, Inside, over}
use Rattle.plan.specs.declared.judge.Fault.{Fault}
use Rattle.plan.specs.declared.judge.Fault.TheVariants.{BadFormat, BadLane, BadWeight, BadLongest, BadFraming, TotalOver}
use Rattle.plan.specs.declared.judge.Seen.{Seen}
use Rattle.plan.specs.declared.parse.LaneField.{LaneField}
use Rattle.plan.specs.declared.parse.SetupField.TheVariants.{Format, Lane, Framing, Shared}

within-true : (low high n : ℕ) → within low high n ≡ true → (low ≤ n) × (n ≤ high)
within-true low high n h = let w = and_parts (leb low n) (leb n high) h in (leb-true low n w.0, leb-true n high w.1)

-- a default is in the numbers
default-right : (b : Bool) → (64 ≤ (if b then 1500 else 576)) × ((if b then 1500 else 576) ≤ 1500)
default-right true = (omega arith, omega arith)
default-right false = (omega arith, omega arith)

longest-true : (v : ℕ) (x : Option ℕ) → longest_right x ≡ true → (64 ≤ longest_of v x) × (longest_of v x ≤ 1500)
longest-true v (Some n) h = within-true 64 1500 n h
longest-true v None h = default-right (eqb v 1)

-- a fault is one, and no other
pub fault-none : {A : Type 0} {x : Fault} → Some x ≡ None → A
fault-none e = absurd (cc)

module _ (l : LaneField) (h : lane_outside l ≡ None) where
  abbrev number : Bool
  number = leb l.lane last_lane

  abbrev weight : Bool
  weight = within 1 1024 l.weight

  abbrev longest : Bool
  longest = longest_right l.longest

  by_tests_lem : (a b c : Bool) → (if not a then Some BadLane else (if not b then Some BadWeight else (if not c then Some BadLongest else None))) ≡ None → (a ≡ true) × ((b ≡ true) × (c ≡ true))
  by_tests_lem false b c e = fault-none e
  by_tests_lem true false c e = fault-none e
  by_tests_lem true true false e = fault-none e
  by_tests_lem true true true e = (refl, (refl, refl))

  tests : (number ≡ true) × ((weight ≡ true) × (longest ≡ true))
  unfolding lane_outside
  tests = by_tests_lem number weight longest h

  pub lane-number : l.lane ≤ 63
  lane-number = let n : l.lane ≤ last_lane = leb-true l.lane last_lane tests.0 in omega arith

  pub in-numbers : (v h : ℕ) → InNumbers (given v h l)
  in-numbers v h =
      let w = within-true 1 1024 l.weight tests.1.0 in
      let g = longest-true v l.longest tests.1.1 in
      record { weight_low = w.0; weight_high = w.1; longest_low = g.0; longest_high = g.1 }

-- a lane that 0x12 names has its 0x10 directly before it
module _ (seen : Seen) (k : ℕ) (h : misplaced seen (Shared k) ≡ false) where
  tests-shared : (a b : Bool) → (not a || not b) ≡ false → (a ≡ true) × (b ≡ true)
  tests-shared true true e = (refl, refl)
  tests-shared true false e = true-false e
  tests-shared false b e = true-false e

  pub is-laned : seen.laned ≡ true
  is-laned = (tests-shared seen.laned (eqb (k + 1) seen.floor) h).0

  pub is_last : k + 1 ≡ seen.floor
  is_last = eqb-true (k + 1) seen.floor (tests-shared seen.laned (eqb (k + 1) seen.floor) h).1

module _ (seen : Seen) (l : LaneField) where
  pub is-rising : misplaced seen (Lane l) ≡ false → seen.floor ≤ l.lane
  is-rising h = ltb-false l.lane seen.floor (or_parts (not seen.begun) (ltb l.lane seen.floor) h).1

  by-test : (b : Bool) → (if b then Some TotalOver else None) ≡ None → b ≡ false
  by-test true e = fault-none e
  by-test false e = refl

  pub is-under : over seen (Lane l) ≡ None → seen.total + l.weight ≤ 1024
  is-under h = ltb-false 1024 (seen.total + l.weight) (by-test (ltb 1024 (seen.total + l.weight)) h)

-- a format is a known one
format-test : (b : Bool) → (if b then None else Some BadFormat) ≡ None → b ≡ true
format-test true e = refl
format-test false e = fault-none e

pub format-known : (v : ℕ) → Inside (Format v) → known_format v ≡ true
format-known v h = format-test (known_format v) h

-- and the framing bytes are at most 64
framing-test : (b : Bool) → (if b then Some BadFraming else None) ≡ None → b ≡ false
framing-test true e = fault-none e
framing-test false e = refl

pub framing-small : (h : ℕ) → Inside (Framing h) → h ≤ 64
framing-small h e = ltb-false most_framing h (framing-test (ltb most_framing h) e)
