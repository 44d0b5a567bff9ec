-- A fault's place lies in the field that it is a fault of.
--
--   outside-in   of a field's own numbers
--   over-in      of the weights so far
--   fits         so of an answer that is such a fault
--
-- Assumes nothing.
use Prim.Native.Nat.{ℕ, ◌+◌, ◌≤◌, ◌<◌}
use mathlib.Core.Path.{◌≡◌, sym, ap}
use mathlib.Core.Bool.{Bool, true, false, not, ◌||◌}
use mathlib.Core.List.{List}
use mathlib.Core.Logic.{⊎_elim}
use native.Mathlib.Omega.{arith}
use borrow.Author.Tests.{eqb-true}
use lib.Dec.{leb, ltb, eqb}
use Rattle.fields.specs.Bytes.{byte_at, big}
use Rattle.fields.proofs.Item.{Stands}
use Rattle.std.specs.Prelude.{Option, Some, None, if◌then◌else◌}
use Rattle.units.proofs.Bools.{true-false}
use Rattle.plan.specs.Fields.{setup_kinds, lane_field_at, longest_at, setup_field_of}
use Rattle.plan.specs.Judge.{known_format, longest_right, last_lane, most_framing, within, lane_outside, outside, over, offset}
use Rattle.plan.specs.declared.judge.Fault.{Fault}
use Rattle.plan.specs.declared.judge.Fault.TheVariants.{BadFormat, BadLane, BadWeight, BadLongest, BadFraming, TotalOver}
use Rattle.plan.specs.declared.judge.Seen.{Seen}
use Rattle.plan.specs.declared.parse.SetupField.{SetupField}
use Rattle.plan.specs.declared.parse.SetupField.TheVariants.{Format, Lane, Framing, Shared, End}
use Rattle.plan.proofs.Tags.{lane-size, lane-three, longest-short}

format-in : (b : Bool) → offset (if b then None else Some BadFormat) ≤ 3
format-in true = omega arith
format-in false = omega arith

framing-in : (b : Bool) → offset (if b then Some BadFraming else None) ≤ 3
framing-in true = omega arith
framing-in false = omega arith

weights-in : (b : Bool) → offset (if b then Some TotalOver else None) ≤ 4
weights-in true = omega arith
weights-in false = omega arith

-- the longest is the one number past the first three bytes of a value
lane_in_lem : (a b c : Bool) → offset (if not a then Some BadLane else (if not b then Some BadWeight else (if not c then Some BadLongest else None))) ≤ 7
lane_in_lem false b c = omega arith
lane_in_lem true false c = omega arith
lane_in_lem true true false = omega arith
lane_in_lem true true true = omega arith

lane-in-three : (a b c : Bool) → c ≡ true → offset (if not a then Some BadLane else (if not b then Some BadWeight else (if not c then Some BadLongest else None))) ≤ 4
lane-in-three false b c e = omega arith
lane-in-three true false c e = omega arith
lane-in-three true true false e = true-false (sym e)
lane-in-three true true true e = omega arith

module _ (s : List ℕ) (v n : ℕ) where
  -- a longest that is left out is right
  pub short-right : n ≡ 3 → longest_right (longest_at s v n) ≡ true
  short-right e = ap (λ (x : Option ℕ). longest_right x) (longest-short s v n e)

  short-in : n ≡ 3 → offset (lane_outside (lane_field_at s v n)) < 3 + n
  unfolding lane_outside
  short-in e =
      let z = lane-in-three (leb (byte_at s v) last_lane) (within 1 1024 (big s (v + 1) 2)) (longest_right (longest_at s v n)) (short-right e) in
      omega (arith, e, z)

  long-in : n ≡ 5 → offset (lane_outside (lane_field_at s v n)) < 3 + n
  unfolding lane_outside
  long-in e =
      let z = lane_in_lem (leb (byte_at s v) last_lane) (within 1 1024 (big s (v + 1) 2)) (longest_right (longest_at s v n)) in
      omega (arith, e, z)

  abbrev sized : Bool → Bool → Bool → Bool → Bool
  sized a b c d = if a then eqb n 2 else (if b then eqb n 3 || eqb n 5 else (if c then eqb n 1 else (if d then eqb n 1 else eqb n 0)))

  abbrev valued : Bool → Bool → Bool → Bool → SetupField
  valued a b c d = if a then Format (big s v 2) else (if b then Lane (lane_field_at s v n) else (if c then Framing (byte_at s v) else (if d then Shared (byte_at s v) else End)))

  own_in : (a b c d : Bool) → sized a b c d ≡ true → offset (outside (valued a b c d)) < 3 + n
  own_in true b c d h = omega (arith, eqb-true n 2 h, format-in (known_format (big s v 2)))
  own_in false true c d h = ⊎_elim (λ e. short-in e) (λ e. long-in e) (lane-size n h)
  own_in false false true d h = omega (arith, eqb-true n 1 h, framing-in (ltb most_framing (byte_at s v)))
  own_in false false false true h = omega arith
  own_in false false false false h = omega arith

  sum-in : (seen : Seen) (a b c d : Bool) → sized a b c d ≡ true → offset (over seen (valued a b c d)) < 3 + n
  sum-in seen true b c d h = omega arith
  sum-in seen false true c d h = omega (arith, lane-three n h, weights-in (ltb 1024 (seen.total + big s (v + 1) 2)))
  sum-in seen false false true d h = omega arith
  sum-in seen false false false true h = omega arith
  sum-in seen false false false false h = omega arith

module _ (s : List ℕ) (at : ℕ) (f : SetupField) (m : ℕ) (k : Stands setup_kinds s at f m) where
  abbrev t : ℕ
  t = byte_at s at

  abbrev n : ℕ
  n = big s (at + 1) 2

  pub outside-in : at + offset (outside f) < m
  unfolding setup_field_of
  outside-in =
      let z = own_in s (at + 3) n (eqb t 1) (eqb t 16) (eqb t 17) (eqb t 18) k.size in
      let e = ap (λ (g : SetupField). offset (outside g)) k.field in
      omega (arith, z, e, k.after)

  pub over-in : (seen : Seen) → at + offset (over seen f) < m
  unfolding setup_field_of
  over-in seen =
      let z = sum-in s (at + 3) n seen (eqb t 1) (eqb t 16) (eqb t 17) (eqb t 18) k.size in
      let e = ap (λ (g : SetupField). offset (over seen g)) k.field in
      omega (arith, z, e, k.after)

pub fits : (at m : ℕ) (x y : Option Fault) → x ≡ y → at + offset y < m → at + offset x ≤ m
fits at m x y e h = let z : offset x ≡ offset y = ap offset e in omega (arith, z, h)
