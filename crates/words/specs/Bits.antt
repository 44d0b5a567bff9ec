-- The bits of a word: bit k of x, as a number. Assumes nothing.
--
--   Lowest    k is the lowest set bit of a word, and `left` is the word without it
--   Highest   the same of the highest
--   NextBit   a step over the set bits of a word, from the lowest up
--   LastBit   a step from the highest down
use Rattle.std.specs.Prelude.{ℕ, ◌≡◌, ◌+◌, ◌/◌, ◌%◌, ◌^◌, ◌<◌, Option, MatchOption}

abbrev pub bit : ℕ → ℕ → ℕ
bit k x = x / 2 ^ k % 2

pub record Lowest (word k left : ℕ) : Type 0 where
  pub small : k < 64
  pub on : bit k word ≡ 1
  pub below : (i : ℕ) → i < k → bit i word ≡ 0
  pub gone : bit k left ≡ 0
  pub stays : (i : ℕ) → (i ≡ k → ⊥) → bit i left ≡ bit i word

abbrev pub NextBit : ℕ → Option ℕ → ℕ → Type 0
NextBit word r left = MatchOption r ((word ≡ 0) × (left ≡ 0)) (λ k. Lowest word k left)

pub record Highest (word k left : ℕ) : Type 0 where
  pub small : k < 64
  pub is : word ≡ 2 ^ k + left
  pub below : left < 2 ^ k

abbrev pub LastBit : ℕ → Option ℕ → ℕ → Type 0
LastBit word r left = MatchOption r ((word ≡ 0) × (left ≡ 0)) (λ k. Highest word k left)
