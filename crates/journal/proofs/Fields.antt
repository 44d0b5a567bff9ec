-- The numbers of a handover record, and the tests of one record against the last. Assumes nothing.
use Prim.Native.Nat.{ℕ, ◌+◌, ◌≤◌, ◌<◌}
use native.Mathlib.Omega.{arith}
use mathlib.Core.Path.{◌≡◌}
use mathlib.Core.Bool.{true, false}
use mathlib.Core.List.{List}
use lib.Dec.{eqb}
use borrow.Author.Tests.{eq-eqb, ne_eqb, lt-ltb, le-ltb}
use Rattle.fields.specs.Bytes.{byte_at, big}
use Rattle.desk.specs.Board.{Handover}
use Rattle.desk.specs.Calls.{known_kind, in_sequence, follows}

pub big-one : (s : List ℕ) (at : ℕ) → byte_at s at ≡ big s at 1
unfolding big
big-one s at = omega arith

pub known_joined : (n : ℕ) → n ≡ 1 → true ≡ known_kind n
known_joined n e = rw e

pub known-left : (n : ℕ) → (n ≡ 1 → ⊥) → eqb n 2 ≡ known_kind n
known-left n e = rw (ne_eqb n 1 e)

module _ (o r : Handover) where
  pub turn-spent : 4294967295 ≤ o.sequence → false ≡ in_sequence o r
  turn-spent h = rw (le-ltb o.sequence 4294967295 h)

  pub turn-next : o.sequence < 4294967295 → eqb r.sequence (o.sequence + 1) ≡ in_sequence o r
  turn-next h = rw (lt-ltb o.sequence 4294967295 h)

  pub leave-joined : r.kind ≡ 2 → o.kind ≡ 1 → eqb r.cell o.cell ≡ follows o r
  leave-joined e q = rw (eq-eqb r.kind 2 e, eq-eqb o.kind 1 q)

  pub leave-else : r.kind ≡ 2 → (o.kind ≡ 1 → ⊥) → false ≡ follows o r
  leave-else e q = rw (eq-eqb r.kind 2 e, ne_eqb o.kind 1 q)

  pub join-after : (r.kind ≡ 2 → ⊥) → eqb o.kind 2 ≡ follows o r
  join-after n = rw (ne_eqb r.kind 2 n)
