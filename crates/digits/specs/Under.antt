-- Whether all digits of words are below a bound, by the top bits of a sum.
--
--   Under L x      each quarter of x is below L
--   Clear n y      the top bit of each of the n lowest quarters of y is 0
--   AllUnder       each quarter of 16 words is below L
--   Gathered       a number whose quarters' top bits are 0 exactly if that is so
--
-- Assumes nothing.
use Rattle.std.specs.Prelude.{◌≡◌, ℕ, zero, suc, ◌+◌, ◌/◌, ◌^◌, ◌<◌, List}
use Rattle.words.specs.Bits.{bit}
use Rattle.words.specs.Words.{word_at}
use Rattle.digits.specs.Digits.{digit}

abbrev pub Under : ℕ → ℕ → Type 0
Under L x = (d : ℕ) → d < 4 → digit 16 d x < L

unfoldable pub Clear : ℕ → ℕ → Type 0
Clear zero y = Unit {0}
Clear (suc n) y = (bit 15 y ≡ 0) × Clear n (y / 2 ^ 16)

abbrev pub AllUnder : List ℕ → ℕ → ℕ → ℕ → Type 0
AllUnder t from n L = (i : ℕ) → i < n → Under L (word_at t (from + i))

pub record Gathered (t : List ℕ) (from n L r : ℕ) : Type 0 where
  pub shows : Clear 4 r → AllUnder t from n L
  pub clear : AllUnder t from n L → Clear 4 r
