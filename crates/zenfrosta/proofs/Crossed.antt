-- How an exported call comes to its promise: the buffer is too short, or the call is made and told. Assumes nothing.
use Prim.Native.Nat.{ℕ, ◌≤◌, ◌<◌}
use native.Mathlib.Omega.{arith}
use mathlib.Core.Path.{◌≡◌, refl}
use mathlib.Core.List.{List}
use lib.ListN.{length}
use Rattle.zenfrosta.specs.Crossing.{buffer_size, Spoken, Crosses}
use Rattle.zenfrosta.specs.declared.Four.{Four}

module _ {A : Type 0} {code : A → ℕ} {words : A → Four} {Does : A → Type 0} {Same : Type 0} {out : List ℕ} where
  pub not_made_lem : length out < buffer_size → Same → Crosses code words Does Same out 255 out
  not_made_lem h same = record { short = λ _. (refl, same, refl); told = λ room. absurd (omega arith) }

  pub crossed : {r : ℕ} {out' : List ℕ} → buffer_size ≤ length out → (a : A) → Does a → (r ≡ code a) × Spoken out (words a) out'
      → Crosses code words Does Same out r out'
  crossed h a does said = record { short = λ small. absurd (omega arith); told = λ _. (a, does, said.0, said.1) }
