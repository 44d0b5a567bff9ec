-- `page::moved` meets its contract. Assumes nothing.
use mathlib.Core.Path.{◌≡◌, refl, ap}
use native.Mathlib.Omega.{arith}
use Prim.Native.Nat.{ℕ, ◌+◌, ◌^◌, ◌<◌}
use Rattle.rules.specs.Reads.{place_of}
use Rattle.rules.specs.declared.Refusal.{Refusal}
use Rattle.page.specs.Read.{distance}
use Rattle.page.proofs.Refusals.{other-refusal}
use borrow.Enum.Refused.{opened}
use Rattle.page.proofs.moved.Goals as goal

-- the place of a refusal that was taken apart is near enough to be moved
near : (by p : ℕ) (x y : Refusal) → by + distance (place_of x) < 2 ^ 64 → x ≡ y → distance (place_of y) ≡ p → by + p < 2 ^ 64
near by p x y h e d = omega (arith, ap (λ (z : Refusal). distance (place_of z)) e)

pub overflow_add-result : goal.overflow_add-result
overflow_add-result c = record { fits = near _ _ _ _ c.requires.1 c.in-Cut.is refl }

pub overflow_add-result-in-UnknownTag : goal.overflow_add-result-in-UnknownTag
overflow_add-result-in-UnknownTag c = record { fits = near _ _ _ _ c.requires.1 c.in-UnknownTag.is refl }

pub overflow_add-result-in-WrongLength : goal.overflow_add-result-in-WrongLength
overflow_add-result-in-WrongLength c = record { fits = near _ _ _ _ c.requires.1 c.in-WrongLength.is refl }

pub overflow_add-result-in-OutOfOrder : goal.overflow_add-result-in-OutOfOrder
overflow_add-result-in-OutOfOrder c = record { fits = near _ _ _ _ c.requires.1 c.in-OutOfOrder.is refl }

pub overflow_add-result-in-WeightsOver : goal.overflow_add-result-in-WeightsOver
overflow_add-result-in-WeightsOver c = record { fits = near _ _ _ _ c.requires.1 c.in-WeightsOver.is refl }

pub overflow_add-result-in-FormatOutside : goal.overflow_add-result-in-FormatOutside
overflow_add-result-in-FormatOutside c = record { fits = near _ _ _ _ c.requires.1 c.in-FormatOutside.is refl }

pub overflow_add-result-in-LaneOutside : goal.overflow_add-result-in-LaneOutside
overflow_add-result-in-LaneOutside c = record { fits = near _ _ _ _ c.requires.1 c.in-LaneOutside.is refl }

pub overflow_add-result-in-WeightOutside : goal.overflow_add-result-in-WeightOutside
overflow_add-result-in-WeightOutside c = record { fits = near _ _ _ _ c.requires.1 c.in-WeightOutside.is refl }

pub overflow_add-result-in-LongestOutside : goal.overflow_add-result-in-LongestOutside
overflow_add-result-in-LongestOutside c = record { fits = near _ _ _ _ c.requires.1 c.in-LongestOutside.is refl }

pub overflow_add-result-in-FramingOutside : goal.overflow_add-result-in-FramingOutside
overflow_add-result-in-FramingOutside c = record { fits = near _ _ _ _ c.requires.1 c.in-FramingOutside.is refl }

pub returns-in-Cut : goal.returns-in-Cut
returns-in-Cut c = rw c.in-Cut.is (refl, refl)

pub returns-in-UnknownTag : goal.returns-in-UnknownTag
returns-in-UnknownTag c = rw c.in-UnknownTag.is (refl, refl)

pub returns-in-WrongLength : goal.returns-in-WrongLength
returns-in-WrongLength c = rw c.in-WrongLength.is (refl, refl)

pub returns-in-OutOfOrder : goal.returns-in-OutOfOrder
returns-in-OutOfOrder c = rw c.in-OutOfOrder.is (refl, refl)

pub returns-in-WeightsOver : goal.returns-in-WeightsOver
returns-in-WeightsOver c = rw c.in-WeightsOver.is (refl, refl)

pub returns-in-FormatOutside : goal.returns-in-FormatOutside
returns-in-FormatOutside c = rw c.in-FormatOutside.is (refl, refl)

pub returns-in-LaneOutside : goal.returns-in-LaneOutside
returns-in-LaneOutside c = rw c.in-LaneOutside.is (refl, refl)

pub returns-in-WeightOutside : goal.returns-in-WeightOutside
returns-in-WeightOutside c = rw c.in-WeightOutside.is (refl, refl)

pub returns-in-LongestOutside : goal.returns-in-LongestOutside
returns-in-LongestOutside c = rw c.in-LongestOutside.is (refl, refl)

pub returns-in-FramingOutside : goal.returns-in-FramingOutside
returns-in-FramingOutside c = rw c.in-FramingOutside.is (refl, refl)

pub returns-in_default : goal.returns-in_default
returns-in_default c = other-refusal c.args.x (opened c.in_default.in_default-own.keys11) c.requires.0
