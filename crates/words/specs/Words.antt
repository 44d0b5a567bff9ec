-- The 64-bit words of a run of bytes, low byte first.
--
--   le_val bs        the number whose base-256 digits, lowest first, are bs
--   le_bytes k v     the lowest k base-256 digits of v, lowest first
--   word_at t i      word i of the bytes t
--   put_word t i v   t with word i changed to v
--
-- Assumes nothing.
use Rattle.std.specs.Prelude.{ℕ, zero, suc, ◌+◌, ◌*◌, ◌/◌, ◌%◌, List, [], ◌∷◌}
use Rattle.std.proofs.lemmas.List.Edits.{sets}
use Rattle.words.specs.Runs.{elements_from}

unfoldable pub le_val : List ℕ → ℕ
le_val [] = 0
le_val (b ∷ bs) = b + 256 * le_val bs

unfoldable pub le_bytes : ℕ → ℕ → List ℕ
le_bytes zero v = []
le_bytes (suc k) v = v % 256 ∷ le_bytes k (v / 256)

unfoldable pub word_at : List ℕ → ℕ → ℕ
word_at t i = le_val (elements_from t (i * 8) 8)

unfoldable pub put_word : List ℕ → ℕ → ℕ → List ℕ
put_word t i v = sets t (i * 8) (le_bytes 8 v)
