-- The slots of a good state's lanes: those of one group lie within 29 of each other, so that 32 lists tell them apart. Assumes nothing.
use Prim.Native.Nat.{ℕ, ◌+◌, ◌*◌, ◌/◌, ◌^◌, ◌≤◌, ◌<◌}
use native.Mathlib.Nat.{mul-le-mul_right, div-mul-le_self}
use native.Mathlib.Omega.{arith}
use native.Mathlib.Decide.{dec_le}
use lib.Pow.{pow_mono, pow_pos, shl-shr}
use mathlib.Core.Path.{◌≡◌, refl, sym, ap, subst, ◌∙◌}
use mathlib.Core.Bool.{Bool, true, false≢true}
use mathlib.Core.Logic.{⊎_elim}
use mathlib.Core.List.{List}
use mathlib.Core.Option.{Option, none, some}
use Rattle.units.proofs.Round.{round-div}
use Rattle.units.proofs.Whole.{whole-slots, slot-part}
use Rattle.waiting.specs.Waiting.{GoodWaiting}
use Rattle.waiting.proofs.Laws.{first_fits}
use Rattle.rules.specs.State.{Setting, Lane, State, group, slot, start_r, first_of, holds, lane_at, setup_of}
use Rattle.rules.specs.Setup.{InNumbers, Setup, margin}
use Rattle.rules.specs.Good.{Times, Good}
use Rattle.rules.specs.Sets.{in_group, group_start}
use Rattle.rules.proofs.Lane.{group-least}
use Rattle.rules.proofs.Figures.{framing-at, group_at}
use Rattle.rules.proofs.Lowest.{LowOf}
use Rattle.rules.proofs.GroupRule.{in_group_lem, group-low}
use Rattle.rules.proofs.SameSetup.{setting-lane}
use Rattle.rules.proofs.Moves.{busy-first}
use Rattle.filing.specs.Filing.{Whole, slot_at, Window}

pub low-unique : (p : Lane → Bool) (ls : List Lane) (o o' : Option ℕ) → LowOf p ls o → LowOf p ls o' → o ≡ o'
low-unique p ls none none a b = refl
low-unique p ls none (some r) a b = absurd (false≢true (sym (a b.at) ∙ b.is))
low-unique p ls (some r) none a b = absurd (false≢true (sym (b a.at) ∙ a.is))
low-unique p ls (some r) (some q) a b = ap some (omega (arith, a.bound b.at b.is, b.bound a.at a.is, a.start, b.start))

-- ---- what was taken off the clock

-- R by the slot
pub start-slot : (B g : ℕ) (l : Lane) → Whole B → g ≤ 31 → group l.given ≡ g → start_r l + B ≡ slot_at B l * 2 ^ g
unfolding slot
start-slot B g l w h e =
    let r : start_r l ≡ l.start / 2 ^ g * 2 ^ g = round-div (slot l.given) l.start ∙ ap (λ (i : ℕ). l.start / 2 ^ i * 2 ^ i) e in
    let s : slot_at B l ≡ l.start / 2 ^ g + B / 2 ^ g = ap (λ (i : ℕ). (l.start + B) / 2 ^ i) e ∙ slot-part B g l.start w h in
    omega (arith, r, ap (λ (n : ℕ). n * 2 ^ g) s, whole-slots B g w h)

-- ---- the arithmetic

-- two starts of slots of 2 ^ 16 or more, at one clock; with 64 framing bytes the margin is 1,024 times 1,564
pub within : (m s v x y : ℕ) → m ≤ 1601536 → 2 ^ 16 ≤ s → x < v + 2 * s → v < y / s * s + 2 * s + m → x / s < y / s + 29
within m s v x y few big a b =
    elim (dec_le (y / s + 29) (x / s)) [
      | yes q ↦ absurd (omega (arith, mul-le-mul_right s q, div-mul-le_self x s))
      | no q ↦ omega arith
    ]

-- slots are in the order of the starts that they make
pub no_less : (g a b : ℕ) → a * 2 ^ g ≤ b * 2 ^ g → a ≤ b
no_less g a b h = elim (dec_le a b) [ yes q ↦ q | no q ↦ absurd (omega (arith, mul-le-mul_right (2 ^ g) (more q), pow_pos g)) ]
  where
    more : ¬ (a ≤ b) → b + 1 ≤ a
    more q = omega arith

-- ---- a state of a setup

module _ (s : State) (setup : Setup (setup_of s)) (waiting : (k : ℕ) → GoodWaiting (lane_at s k).given.longest (lane_at s k).waiting) where
  pub numbers-in : (k : ℕ) → holds (lane_at s k) ≡ true → InNumbers (lane_at s k).given
  numbers-in k h =
      let f = busy-first (first_of (lane_at s k)) h in
      let fits = first_fits (lane_at s k).given.longest (lane_at s k).waiting f.0 (waiting k) f.1 in
      ⊎_elim
      (λ n. subst InNumbers (setting-lane s k) n)
      (λ e. absurd (omega (arith, fits.0, fits.1, ap (λ (g : Setting). g.longest) (sym (setting-lane s k) ∙ e))))
      (setup.each k)

  pub group-in : (k : ℕ) → holds (lane_at s k) ≡ true → (16 ≤ group (lane_at s k).given) × (group (lane_at s k).given ≤ 31)
  group-in k h = (group-least (lane_at s k).given (numbers-in k h), group_at s setup k)

-- ---- a good state

module _ (s : State) (good : Good s) where
  -- a holding lane's times
  pub times-held : (k : ℕ) → holds (lane_at s k) ≡ true → ((lane_at s k).start < s.clock + 2 * slot (lane_at s k).given) × (s.clock < start_r (lane_at s k) + 2 * slot (lane_at s k).given + margin (lane_at s k).given.framing)
  times-held k h =
      let f = busy-first (first_of (lane_at s k)) h in
      let t : Times s.clock (lane_at s k) (some f.0) = subst (Times s.clock (lane_at s k)) f.1 (good.numbers k) in
      (t.1, t.2)

  pub group-held : (k : ℕ) → holds (lane_at s k) ≡ true → (16 ≤ group (lane_at s k).given) × (group (lane_at s k).given ≤ 31)
  group-held = group-in s good.setup good.waiting

  -- two lanes of one group that hold records
  pub close : (B j k : ℕ) → Whole B → holds (lane_at s j) ≡ true → holds (lane_at s k) ≡ true → group (lane_at s j).given ≡ group (lane_at s k).given
      → slot_at B (lane_at s j) < slot_at B (lane_at s k) + 29
  unfolding slot
  close B j k w hj hk e =
      let g = group (lane_at s k).given in
      let bounds = group-held k hk in
      let big : 2 ^ 16 ≤ 2 ^ g = pow_mono {i = 16} {j = g} bounds.0 in
      let same : 2 ^ group (lane_at s j).given ≡ 2 ^ g = ap (λ (i : ℕ). 2 ^ i) e in
      let a = (times-held j hj).0 in
      let b = (times-held k hk).1 in
      let near = within (margin (lane_at s k).given.framing) (2 ^ g) s.clock (lane_at s j).start (lane_at s k).start (omega (arith, framing-at s good.setup k)) big (omega (arith, a, same)) (omega (arith, b, round-div (2 ^ g) (lane_at s k).start)) in
      let at_j : slot_at B (lane_at s j) ≡ (lane_at s j).start / 2 ^ g + B / 2 ^ g = ap (λ (i : ℕ). ((lane_at s j).start + B) / 2 ^ i) e ∙ slot-part B g (lane_at s j).start w bounds.1 in
      omega (arith, near, at_j, slot-part B g (lane_at s k).start w bounds.1)

  -- a group's lanes, from its start on
  pub window : (B g r : ℕ) → Whole B → group_start s.lanes g ≡ some r → Window B s g ((r + B) / 2 ^ g) × (r + B ≡ (r + B) / 2 ^ g * 2 ^ g)
  window B g r w e = go (group_start s.lanes g) e (group-low s.lanes g)
    where
      go : (o : Option ℕ) → o ≡ some r → LowOf (in_group g) s.lanes o → Window B s g ((r + B) / 2 ^ g) × (r + B ≡ (r + B) / 2 ^ g * 2 ^ g)
      go none q low = let z : ◌≡◌ {A = ℕ} 0 1 = cc in absurd (omega arith)
      go (some x) q low =
          let same : x ≡ r = cc in
          let l = lane_at s low.at in
          let i = in_group_lem g l low.is in
          let hi : g ≤ 31 = omega (arith, (group-held low.at i.0).1, i.1) in
          let r-is : r + B ≡ slot_at B l * 2 ^ g = omega (arith, same, low.start, start-slot B g l w hi i.1) in
          let a-is : (r + B) / 2 ^ g ≡ slot_at B l = ap (λ (y : ℕ). y / 2 ^ g) r-is ∙ shl-shr (slot_at B l) g in (
            record {
              from = λ k h.
                  let j = in_group_lem g (lane_at s k) h in
                  let le : slot_at B l * 2 ^ g ≤ slot_at B (lane_at s k) * 2 ^ g = omega (arith, low.bound k h, same, r-is, start-slot B g (lane_at s k) w hi j.1) in
                  rw a-is (no_less g (slot_at B l) (slot_at B (lane_at s k)) le);
              to = λ k h.
                  let j = in_group_lem g (lane_at s k) h in
                  rw a-is (omega (arith, close B k low.at w j.0 i.0 (j.1 ∙ sym i.1)));
            },
            r-is ∙ ap (λ (y : ℕ). y * 2 ^ g) (sym a-is),
          )
