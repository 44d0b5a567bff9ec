-- What the least start of the lanes that pass a test is: the start of one of them, and none is below it. And what `any_holds` says. Assumes nothing.
use Prim.Native.Nat.{ℕ, zero, suc}
use native.Mathlib.Omega.{arith}
use native.Mathlib.Nat.{le_refl}
use mathlib.Core.Path.{◌≡◌, refl, sym, ◌∙◌}
use mathlib.Core.Bool.{Bool, true, false, false≢true}
use mathlib.Core.Option.{Option, none, some}
use mathlib.Core.List.{List, [], ◌∷◌}
use lib.Dec.{leb}
use lib.ListN.{get_or}
use borrow.Author.Tests.{leb-true, leb-false}
use Rattle.units.proofs.Bools.{if-ind, or_parts}
use Rattle.rules.specs.State.{Lane, start_r, holds, no_lane, any_holds}
use Rattle.rules.specs.Choice.{least, least_of}
pub use Rattle.rules.specs.Lowest.{LowestOf, LowOf}
use Rattle.rules.specs.Lowest.{LowestRule}

module _ (p : Lane → Bool) (l : Lane) (ls : List Lane) where
  low-skip : (o : Option ℕ) → p l ≡ false → LowOf p ls o → LowOf p (l ∷ ls) o
  low-skip none e h = elim [ zero ↦ e | suc k ↦ h k ]
  low-skip (some r) e h =
      record { at = suc h.at; is = h.is; start = h.start; bound = elim [ zero ↦ λ t. absurd (false≢true (sym e ∙ t)) | suc k ↦ h.bound k ] }

  low-keep : (o : Option ℕ) → p l ≡ true → LowOf p ls o → LowOf p (l ∷ ls) (least (start_r l) o)
  low-keep none e h =
      record { at = 0; is = e; start = refl; bound = elim [ zero ↦ λ t. le_refl (start_r l) | suc k ↦ λ t. absurd (false≢true (sym (h k) ∙ t)) ] }
  low-keep (some r) e h =
      if-ind (LowestOf p (l ∷ ls)) (leb (start_r l) r) (start_r l) r
      (λ b. record { at = 0; is = e; start = refl; bound = elim [ zero ↦ λ t. le_refl (start_r l) | suc k ↦ λ t. omega (arith, leb-true (start_r l) r b, h.bound k t) ] })
      (λ b. record { at = suc h.at; is = h.is; start = h.start; bound = elim [ zero ↦ λ t. omega (arith, leb-false (start_r l) r b) | suc k ↦ h.bound k ] })

pub lowest-of : (p : Lane → Bool) → p no_lane ≡ false → (ls : List Lane) → LowOf p ls (least_of p ls)
unfolding least_of
lowest-of p z [] = λ k. z
lowest-of p z (l ∷ ls) =
    if-ind (LowOf p (l ∷ ls)) (p l) _ _ (λ e. low-keep p l ls (least_of p ls) e (lowest-of p z ls)) (λ e. low-skip p l ls (least_of p ls) e (lowest-of p z ls))

abbrev pub Low : List Lane → Option ℕ → Type 0
Low ls o = LowOf holds ls o

pub lowest : (ls : List Lane) → Low ls (least_of holds ls)
lowest = lowest-of holds refl

pub lowest-rule : LowestRule
unfolding LowestRule
lowest-rule = lowest

-- ---- no lane holds a record

pub none-holds : (ls : List Lane) → any_holds ls ≡ false → (k : ℕ) → holds (get_or ls k no_lane) ≡ false
unfolding any_holds
none-holds [] e k = refl
none-holds (l ∷ ls) e zero = (or_parts (holds l) (any_holds ls) e).0
none-holds (l ∷ ls) e (suc k) = none-holds ls (or_parts (holds l) (any_holds ls) e).1 k
