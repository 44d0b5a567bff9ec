-- Laws of `request_size` of specs/Request.antt: what it is at each tag. Assumes nothing.
use Prim.Native.Nat.{ℕ, ◌≤◌, ◌<◌}
use mathlib.Core.Path.{◌≡◌}
use mathlib.Core.Logic.{◌⊎◌, inl, inr, ⊎_elim}
use mathlib.Core.Option.{none, some}
use native.Mathlib.Decide.{dec_le}
use native.Mathlib.Omega.{arith}
use borrow.Author.Tests.{ne_eqb}
use Rattle.requests.specs.Request.{request_size}

module _ (t : ℕ) where
  pub size-put : t ≡ 32 → request_size t ≡ some 7
  size-put e = rw e

  pub size-put-train : t ≡ 38 → request_size t ≡ some 8
  size-put-train e = rw e

  pub size-lag : t ≡ 36 → request_size t ≡ some 1
  size-lag e = rw e

  pub size-empty : (t ≡ 37) ⊎ (t ≡ 127) → request_size t ≡ some 0
  size-empty h = ⊎_elim (λ e. rw e) (λ e. rw e) h

  -- take, look and sets stand beside each other
  pub size-between : 33 ≤ t → t ≤ 35 → request_size t ≡ some 0
  size-between l h =
      elim (dec_le t 33) [
        | yes a ↦ (let e : t ≡ 33 = omega arith in rw e)
        | no a ↦ elim (dec_le t 34) [
          | yes b ↦ (let e : t ≡ 34 = omega arith in rw e)
          | no b ↦ (let e : t ≡ 35 = omega arith in rw e)
        ]
      ]

  pub size_none : ((t ≡ 37) ⊎ (t ≡ 127) → ⊥) → (t ≡ 38 → ⊥) → ((t < 32) ⊎ (37 ≤ t)) → request_size t ≡ none
  size_none f g h =
      let no : (k : ℕ) → 32 ≤ k → k ≤ 36 → t ≡ k → ⊥ = λ k l m e. ⊎_elim (λ a. omega arith) (λ a. omega arith) h in
      simp (ne_eqb t 32 (no 32 (omega arith) (omega arith)), ne_eqb t 38 g, ne_eqb t 36 (no 36 (omega arith) (omega arith)), ne_eqb t 33 (no 33 (omega arith) (omega arith)), ne_eqb t 34 (no 34 (omega arith) (omega arith)), ne_eqb t 35 (no 35 (omega arith) (omega arith)), ne_eqb t 37 (λ e. f (inl e)), ne_eqb t 127 (λ e. f (inr e)))
