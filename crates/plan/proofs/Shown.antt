-- What stands at the place of a fault of a field's own numbers is the number that is wrong.
--
--   Shows     the place of a fault shows what is wrong
--   shows     of a field's own numbers; over-shows: of the weights so far, of which nothing is asked
--
-- Assumes nothing.
use Prim.Native.Nat.{ℕ, ◌+◌}
use mathlib.Core.Path.{◌≡◌, refl, sym, ap, subst, ◌∙◌}
use mathlib.Core.Bool.{Bool, true, false, not, ◌||◌}
use mathlib.Core.List.{List}
use mathlib.Core.Logic.{⊎_elim}
use native.Mathlib.Omega.{arith}
use lib.Dec.{leb, ltb, eqb}
use Rattle.fields.specs.Bytes.{byte_at, big}
use Rattle.fields.proofs.Item.{Stands}
use Rattle.std.specs.Prelude.{Option, Some, None, if◌then◌else◌}
use Rattle.units.proofs.Bools.{true-false}
use Rattle.plan.specs.Fields.{setup_kinds, lane_field_at, longest_at, setup_field_of}
use Rattle.plan.specs.Judge.{known_format, longest_right, last_lane, most_framing, within, lane_outside, outside, over, faults, offset}
use Rattle.plan.specs.Accepted.{wrong_at}
use Rattle.plan.specs.declared.judge.Fault.{Fault}
use Rattle.plan.specs.declared.judge.Fault.TheVariants.{BadFormat, BadLane, BadWeight, BadLongest, BadFraming, TotalOver}
use Rattle.plan.specs.declared.judge.Seen.{Seen}
use Rattle.plan.specs.declared.parse.SetupField.{SetupField}
use Rattle.plan.specs.declared.parse.SetupField.TheVariants.{Format, Lane, Framing, Shared, End}
use Rattle.plan.proofs.Offsets.{short-right}
use Rattle.plan.proofs.Tags.{lane-size, longest-long}

abbrev number_in : Option Fault → ℕ
number_in None = 0
number_in (Some x) = (faults x).0

abbrev pub Shows : List ℕ → ℕ → Option Fault → Type 0
Shows s at x = wrong_at s (number_in x) (at + offset x) ≡ true

module _ (s : List ℕ) (at n : ℕ) where
  abbrev v : ℕ
  v = at + 3

  format-shows : (b : Bool) → known_format (big s v 2) ≡ b → Shows s at (if b then None else Some BadFormat)
  format-shows true e = refl
  format-shows false e = ap not e

  framing-shows : (b : Bool) → ltb most_framing (byte_at s v) ≡ b → Shows s at (if b then Some BadFraming else None)
  framing-shows true e = e
  framing-shows false e = refl

  -- the longest of a lane field that has one
  longest-shows : (fits : (eqb n 3 || eqb n 5) ≡ true) → longest_right (longest_at s v n) ≡ false → Shows s at (Some BadLongest)
  longest-shows fits h =
      ⊎_elim (λ e. true-false (sym (short-right s v n e) ∙ h))
      (λ e.
      let three : n ≡ 3 → ⊥ = λ f. absurd (omega (arith, e, f)) in
      let p : v + 3 ≡ at + 6 = omega arith in
      sym (ap (λ (x : ℕ). not (within 64 1500 (big s x 2))) p) ∙ sym (ap (λ (x : Option ℕ). not (longest_right x)) (longest-long s v n three)) ∙ ap not h)
      (lane-size n fits)

  weight-shows : within 1 1024 (big s (v + 1) 2) ≡ false → Shows s at (Some BadWeight)
  weight-shows h = let p : v + 1 ≡ at + 4 = omega arith in sym (ap (λ (x : ℕ). not (within 1 1024 (big s x 2))) p) ∙ ap not h

  lane-shows : (eqb n 3 || eqb n 5) ≡ true → (a b c : Bool) → leb (byte_at s v) last_lane ≡ a → within 1 1024 (big s (v + 1) 2) ≡ b → longest_right (longest_at s v n) ≡ c
      → Shows s at (if not a then Some BadLane else (if not b then Some BadWeight else (if not c then Some BadLongest else None)))
  lane-shows fits false b c x y z = ap not x
  lane-shows fits true false c x y z = weight-shows y
  lane-shows fits true true false x y z = longest-shows fits z
  lane-shows fits true true true x y z = refl

  lanes-shows : (eqb n 3 || eqb n 5) ≡ true → Shows s at (lane_outside (lane_field_at s v n))
  unfolding lane_outside
  lanes-shows fits =
      lane-shows fits (leb (byte_at s v) last_lane) (within 1 1024 (big s (v + 1) 2)) (longest_right (longest_at s v n)) refl refl refl

  own-shows : (a b c d : Bool) → (if a then eqb n 2 else (if b then eqb n 3 || eqb n 5 else (if c then eqb n 1 else (if d then eqb n 1 else eqb n 0)))) ≡ true
      → Shows s at (outside (if a then Format (big s v 2) else (if b then Lane (lane_field_at s v n) else (if c then Framing (byte_at s v) else (if d then Shared (byte_at s v) else End)))))
  own-shows true b c d h = format-shows (known_format (big s v 2)) refl
  own-shows false true c d h = lanes-shows h
  own-shows false false true d h = framing-shows (ltb most_framing (byte_at s v)) refl
  own-shows false false false true h = refl
  own-shows false false false false h = refl

module _ (s : List ℕ) (at : ℕ) (f : SetupField) (m : ℕ) (k : Stands setup_kinds s at f m) where
  abbrev t : ℕ
  t = byte_at s at

  pub shows : Shows s at (outside f)
  unfolding setup_field_of
  shows = subst (λ (g : SetupField). Shows s at (outside g)) k.field (own-shows s at (big s (at + 1) 2) (eqb t 1) (eqb t 16) (eqb t 17) (eqb t 18) k.size)

-- 6 is of all the weights
pub over-shows : (s : List ℕ) (at : ℕ) (seen : Seen) (f : SetupField) → Shows s at (over seen f)
over-shows s at seen (Format v) = refl
over-shows s at seen (Lane l) = go (ltb 1024 (seen.total + l.weight))
  where
    go : (b : Bool) → Shows s at (if b then Some TotalOver else None)
    go true = refl
    go false = refl
over-shows s at seen (Framing h) = refl
over-shows s at seen (Shared k) = refl
over-shows s at seen End = refl
