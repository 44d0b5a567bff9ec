-- The highest set bit is given, and what is left is the word without it. Assumes nothing.
use Prim.Native.Nat.{ℕ, suc, ◌-◌, ◌^◌, ◌≤◌, ◌<◌}
use native.Mathlib.Nat.{two-pow-succ}
use native.Mathlib.Omega.{arith}
use mathlib.Core.Path.{◌≡◌}
use lib.Count.{count_leading_zeros, leading_top}
use Rattle.words.proofs.Bits.{shift_one}
use Rattle.words.proofs.SetBitsDoubleEndedIterator.next_back.Goals as goal

top-bit : (word : ℕ) → 0 < word → word < 2 ^ 64 → (63 - count_leading_zeros 64 word < 64) × (2 ^ (63 - count_leading_zeros 64 word) ≤ word) × (word < 2 ^ suc (63 - count_leading_zeros 64 word))
top-bit word p h =
    let t = leading_top 64 word p h in
    let same : 63 - count_leading_zeros 64 word ≡ t.0 = omega (arith, t.1) in
    rw same (omega (arith, t.1), t.2, t.3)

pub overflow_sub-self : goal.overflow_sub-self
overflow_sub-self c =
    let t = top-bit c.args.self.now.0 (omega arith) (omega arith) in rw (shift_one (63 - count_leading_zeros 64 c.args.self.now.0) t.0) t.1

pub returns-clause-steps : goal.returns-clause-steps
returns-clause-steps c =
    let word = c.args.self.now.0 in
    let k = 63 - count_leading_zeros 64 word in
    let t = top-bit word (omega arith) (omega arith) in
    rw (shift_one (63 - count_leading_zeros 64 c.args.self.now.0) t.0) (record { small = t.0; is = omega (arith, t.1); below = omega (arith, t.1, t.2, two-pow-succ k) })
