-- `group_met` meets its contract. The loop's invariant: the lists below some number are walked, and what is left of the word are its bits from there
-- on. Assumes nothing.
use Prim.Native.Nat.{ℕ}
use Rattle.words.specs.Words.{word_at}
use Rattle.words.proofs.Walk.{Left}
use Rattle.slot_lists.specs.Lists.{map_word}
use Rattle.lists_test.proofs.ListWalk.{Walked}
use Rattle.lists_test.proofs.group_met.Given as goal

abbrev pub invariant-loop-b : goal.invariant-loop-b
invariant-loop-b l = (n : ℕ) × Left (word_at l.t (map_word l.g)) l.b-iterator.0 n × Walked l.t l.g l.before n l.met
