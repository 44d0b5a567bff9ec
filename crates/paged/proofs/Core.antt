-- Bytes with the same core mean the same state, and have the same slot lists. Assumes nothing.
use mathlib.Core.Path.{◌≡◌, sym, ap, subst, ◌∙◌}
use mathlib.Core.Logic.{⊎_elim}
use Prim.Native.Nat.{ℕ, ◌+◌, ◌*◌, ◌≤◌, ◌<◌}
use mathlib.Core.List.{List}
use native.Mathlib.Omega.{arith}
use lib.ListN.{take}
use Rattle.words.proofs.Runs.{le-or-lt, tab-ext}
use Rattle.slot_lists.specs.Lists.{back_at, list_at, start_at}
use Rattle.filing.specs.Filing.{in_aRow, Agrees}
use Rattle.editions.proofs.Lent.{bytes-before}
use Rattle.editions.proofs.Lent as lent
use Rattle.table.specs.Layout.{CELLS, SIZE, marks_cell, word_of_cell, cells}
use Rattle.table.specs.Means.{state_of, meant, RowsFit, Listed}
use Rattle.table.proofs.Stores.{word-before, word-behind}
use Rattle.table.proofs.Lists.{SameLists, order_same, solid-same, agrees-same}

module _ (t u : List ℕ) (same : take SIZE u ≡ take SIZE t) where
  word-inside : (i : ℕ) → i < CELLS → word_of_cell i * 8 + 8 ≤ SIZE
  word-inside i h = ⊎_elim (λ (p : marks_cell ≤ i). omega (arith, word-behind i p)) (λ (p : i < marks_cell). omega (arith, word-before i p)) (le-or-lt marks_cell i)

  pub cells-core : cells u ≡ cells t
  unfolding cells
  cells-core = tab-ext CELLS _ _ (λ i h. lent.word-before SIZE t u same (word_of_cell i) (word-inside i h))

  lists-core : SameLists t u
  lists-core a p q = bytes-before SIZE t u same a (omega arith)

  pub meant-core : meant u ≡ meant t
  meant-core = ap (λ (w : List ℕ). state_of w (in_aRow (list_at u))) cells-core ∙ ap (state_of (cells t)) (order_same t u lists-core)

  pub beside-core : RowsFit (cells t) → RowsFit (cells u)
  beside-core b = subst RowsFit (sym cells-core) b

  pub listed-core : Listed t → Listed u
  listed-core l = record {
    solid = solid-same t u lists-core l.solid;
    agrees = subst (Agrees (back_at u) (list_at u) (start_at u)) (sym meant-core) (agrees-same t u lists-core (meant t) l.agrees);
  }
