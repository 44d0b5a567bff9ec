-- What the rules' definitions are written with. No rule is stated here.
--
--   count           1 where a test passes, else 0
--   sum             the sum of a figure over a list
--   place, times    where a number first stands in a list; how often it does
--   without         a list without a number
--   any_below        a test passes at some number below n
--   word_of          the word of the numbers below n at which a test passes
--
-- Assumes nothing.
use Rattle.std.specs.Prelude.{ℕ, zero, suc, ◌+◌, ◌^◌, Bool, true, false, ◌||◌, List, [], ◌∷◌, eqb, if◌then◌else◌}

abbrev pub count : Bool → ℕ
count true = 1
count false = 0

abbrev pub sum : {A : Type 0} → (A → ℕ) → List A → ℕ
sum f [] = 0
sum f (x ∷ xs) = f x + sum f xs

-- the list's length where the number is not in it
unfoldable pub place : ℕ → List ℕ → ℕ
place j [] = 0
place j (k ∷ ks) = if eqb j k then 0 else suc (place j ks)

abbrev pub times : ℕ → List ℕ → ℕ
times k [] = 0
times k (j ∷ js) = (if eqb j k then 1 else 0) + times k js

unfoldable pub without : ℕ → List ℕ → List ℕ
without j [] = []
without j (k ∷ ks) = if eqb j k then without j ks else k ∷ without j ks

unfoldable pub any_below : (ℕ → Bool) → ℕ → Bool
any_below p zero = false
any_below p (suc n) = p n || any_below p n

unfoldable pub word_of : (ℕ → Bool) → ℕ → ℕ
word_of p zero = 0
word_of p (suc n) = (if p n then 2 ^ n else 0) + word_of p n
