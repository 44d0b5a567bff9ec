-- Runs of a list of numbers, and lists made by a rule.
--
--   elements_from l a n   the n elements of l from index a on, 0 past its end
--   tab n f              f 0, f 1, .., n of them
--
-- Assumes nothing.
use Rattle.std.specs.Prelude.{ℕ, zero, suc, List, [], ◌∷◌, get_or}

abbrev pub elements_from : List ℕ → ℕ → ℕ → List ℕ
elements_from l a zero = []
elements_from l a (suc n) = get_or l a 0 ∷ elements_from l (suc a) n

-- f a, f (a + 1), .., n of them
unfoldable pub tab_from : {A : Type 0} → ℕ → ℕ → (ℕ → A) → List A
tab_from a zero f = []
tab_from a (suc n) f = f a ∷ tab_from (suc a) n f

unfoldable pub tab : {A : Type 0} → ℕ → (ℕ → A) → List A
tab n f = tab_from 0 n f
