-- From the numbers that the code works out to the worst wait of the lane's setting. Assumes nothing.
use Prim.Native.Nat.{ℕ, ◌+◌, ◌*◌, ◌/◌, ◌^◌, ◌≤◌, ◌<◌}
use native.Mathlib.Omega.{arith}
use native.Mathlib.Nat.{mul-le-mul}
use mathlib.Core.Path.{◌≡◌, sym, ap, subst, ◌∙◌}
use mathlib.Core.Bool.{Bool, true, false}
use Rattle.units.specs.Numbers.{line_rate, least_power, Least}
use Rattle.std.specs.Prelude.{if◌then◌else◌}
use Rattle.units.proofs.Group.{least-unique}
use Rattle.rounds.specs.Round.{train_depth}
use Rattle.rules.specs.State.{Setting, lane_depth, charge, rate, group, slot}
use Rattle.rules.specs.Waits.{worst_wait, worst_shared, worst_of}
use Rattle.waits.specs.Lane.{InRange, four_slots}
use Rattle.waits.specs.declared.LaneNumbers.{LaneNumbers}

-- the product of which the group is found
pub product_small : (b c : ℕ) → b ≤ 1564 → c ≤ 2 ^ 20 → b * c ≤ 2 ^ 31
product_small b c h k = omega (arith, mul-le-mul {n₁ = b} {m₁ = c} {n₂ = 1564} {m₂ = 2 ^ 20} h k)

-- i is the group, found of the product p
module _ (b c p i : ℕ) (is : p ≡ b * c) (least : Least p i) where
  pub index_is : i ≡ least_power (b * c)
  index_is = least-unique p i least ∙ ap least_power is

  pub index-small : p ≤ 2 ^ 31 → i ≤ 31
  index-small h = least.none_below 31 h

  pub slots-are : 4 * 2 ^ i ≡ four_slots b c
  slots-are = ap (λ (x : ℕ). 4 * 2 ^ x) index_is

-- ahead of an accepted put
pub room-plain : (l : LaneNumbers) (n : ℕ) → InRange l n → n < 64
room-plain l n r = go l.shared r.room
  where
    go : (b : Bool) → n < (if b then train_depth else lane_depth) → n < 64
    go true h = omega arith
    go false h = omega arith

pub room-shared : (l : LaneNumbers) (n : ℕ) → InRange l n → l.shared ≡ true → n < 8
room-shared l n r e = let h = subst (λ (b : Bool). n < (if b then train_depth else lane_depth)) e r.room in omega (arith, h)

module _ (g : Setting) (c n M own slots : ℕ) (rated : c ≡ rate g) (four : slots ≡ four_slots (g.longest + g.framing) c) where
  four-slots : slots ≡ 4 * slot g
  unfolding slot group charge
  four-slots = four ∙ ap (λ (x : ℕ). four_slots (g.longest + g.framing) x) rated

  kind : (b : Bool) → g.shared ≡ b → {r : ℕ} → r ≡ (if b then worst_shared M g n else worst_wait M g n) → r ≡ worst_of M g n
  kind b e {r} h = subst (λ (x : Bool). r ≡ (if x then worst_shared M g n else worst_wait M g n)) (sym e) h

  swap : (c n x : ℕ) → c * (1 * (n * x)) ≡ n * (c * x)
  swap c n x = omega arith

  pub plain-as : g.shared ≡ false → own ≡ c * (1 * (n * (g.longest + g.framing))) → (own + slots + M + 1023) / line_rate ≡ worst_of M g n
  unfolding worst_wait charge
  plain-as alone o =
      let x = g.longest + g.framing in
      let o' : own ≡ n * (rate g * x) = o ∙ ap (λ (y : ℕ). y * (1 * (n * x))) rated ∙ swap (rate g) n x in
      kind false alone (ap (λ (y : ℕ). (y + 1023) / line_rate) (ap (λ (y : ℕ). y + slots + M) o' ∙ ap (λ (y : ℕ). n * (rate g * x) + y + M) four-slots))

  pub shared-as : g.shared ≡ true → own ≡ c * ((1 + g.framing) * ((8 * n + 21) * g.longest)) → (own + slots + M + 1023) / line_rate ≡ worst_of M g n
  unfolding worst_shared
  shared-as shared o =
      let x = (1 + g.framing) * ((8 * n + 21) * g.longest) in
      let o' : own ≡ rate g * x = o ∙ ap (λ (y : ℕ). y * x) rated in
      kind true shared (ap (λ (y : ℕ). (y + 1023) / line_rate) (ap (λ (y : ℕ). y + slots + M) o' ∙ ap (λ (y : ℕ). rate g * x + y + M) four-slots))
