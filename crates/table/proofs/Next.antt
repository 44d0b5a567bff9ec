-- Laws of the walk over the word of present lanes. Assumes nothing.
use mathlib.Core.Path.{◌≡◌}
use mathlib.Core.Bool.{true, false}
use Prim.Native.Nat.{ℕ}
use mathlib.Core.List.{List}
use native.Mathlib.Omega.{arith}
use borrow.Author.Tests.{eq-eqb, ne_eqb}
use lib.ListN.{get_or}
use Rattle.table.specs.Layout.{present_word}
use Rattle.table.specs.Means.{present_at, Next}
use Rattle.words.specs.Bits.{bit, Lowest}
use Rattle.words.proofs.Walk.{Left, none_left, next-on, next-present, none_between}

-- ---- the walk by the set bits of the word

pub next-bit : {lanes left n k rest : ℕ} → Left lanes left n → Lowest left k rest → Next lanes n k
next-bit l b = record { on = next-on l b; ends = omega (arith, b.small); absent = none_between l b; present = λ q. next-present l b }

pub next-end : {lanes left n : ℕ} → Left lanes left n → left ≡ 0 → Next lanes n 64
next-end l z = record { on = l.ends; ends = omega arith; absent = λ i p q. none_left l z i p; present = λ q. absurd (omega arith) }

-- ---- a bit of the word, and a lane in the setup

pub bit-present : (w : List ℕ) (k : ℕ) → bit k (get_or w present_word 0) ≡ 1 → present_at w k ≡ true
unfolding present_at
bit-present w k e = eq-eqb _ 1 e

pub bit-absent : (w : List ℕ) (k : ℕ) → bit k (get_or w present_word 0) ≡ 0 → present_at w k ≡ false
unfolding present_at
bit-absent w k e = ne_eqb (bit k (get_or w present_word 0)) 1 (λ (q : bit k (get_or w present_word 0) ≡ 1). omega arith)
