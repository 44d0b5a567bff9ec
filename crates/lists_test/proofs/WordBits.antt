-- Bits of a word whose low or high part is 0. Assumes nothing.
use mathlib.Core.Path.{◌≡◌, ap}
use Prim.Native.Nat.{ℕ, ◌+◌, ◌-◌, ◌*◌, ◌/◌, ◌%◌, ◌^◌, ◌≤◌, ◌<◌}
use native.Mathlib.Omega.{arith}
use lib.Pow.{pow_mono, pow_pos}
use native.Mathlib.Decide.{dec_lt}
use Rattle.words.specs.Bits.{bit}
use Rattle.words.proofs.Bits.{bit-above}
use Rattle.slot_lists.proofs.Bits.{bit-low}

pub bit-under : (n b m : ℕ) → m < 2 ^ n → bit b m ≡ 1 → b < n
bit-under n b m small e =
    elim (dec_lt b n) [
      | yes q ↦ q
      | no q ↦ absurd (omega (arith, e, bit-above b m (omega (arith, pow_mono {i = n} {j = b} (omega arith)))))
    ]

pub bit-over : (b m : ℕ) → m % 65536 ≡ 0 → bit b m ≡ 1 → 16 ≤ b
bit-over b m low e =
    elim (dec_lt b 16) [
      | yes q ↦
          let m-is : m ≡ 0 + m / 65536 * 2 ^ 16 = omega arith in
          absurd (omega (arith, e, ap (bit b) m-is, bit-low 16 b 0 (m / 65536) q, bit-above b 0 (pow_pos b)))
      | no q ↦ omega arith
    ]
