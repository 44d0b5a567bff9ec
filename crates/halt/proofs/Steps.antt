-- From the test of the halt and the scheduler's promise to the halt's. Assumes nothing.
use Prim.Native.Nat.{ℕ, ◌≤◌, ◌<◌}
use native.Mathlib.Omega.{arith}
use mathlib.Core.Path.{◌≡◌, refl, sym, ap, subst}
use mathlib.Core.Bool.{Bool, true, false, false≢true}
use mathlib.Core.List.{List}
use mathlib.Core.Option.{none}
use lib.ListN.{length}
use Rattle.rules.specs.Calls.{Call, Reply, refused}
use Rattle.rules.specs.Reads.{reads}
use Rattle.rules.specs.declared.Answer.{Answer}
use Rattle.std.specs.Prelude.{Result, Ok, Err}
use Rattle.rules.specs.declared.Refusal.{Refusal}
use Rattle.rules.specs.declared.Refusal.TheVariants.{NotGood, TableShort}
use Rattle.plan.specs.Read.{read_setup, SetupReply, setup_refused, setup_read}
use Rattle.table.specs.Layout.{table_size}
use Rattle.pages.specs.Device.{answered}
use Rattle.engine.specs.Does.{Unchanged}
use Rattle.paged.specs.Paged.{GoodUnit}
use Rattle.scheduler.specs.Step.{Step}
use Rattle.scheduler.specs.Make.{MakeStep, make_reply}
use Rattle.scheduler.proofs.Made as its-proofs
use Rattle.halt.specs.Halt.{HaltTable, HaltStep, OtherPlan, OwnPlan, Judged, HaltMake}
use Rattle.halt.specs.declared.NotMade.TheVariants.{NotAHalt, Refused}

module _ (c : Call) (t : List ℕ) where
  pub refused-step : (x : Refusal) → (HaltTable t → ⊥) × (x ≡ NotGood) → HaltStep c t (Err x) t
  refused-step x (bad, e) = rw e (record { other = λ _. (refl, refl); same = λ h. absurd (bad h) })

  -- bytes that are no good table have the scheduler's own 10
  pub same_step : (a : Result Answer Refusal) (u : List ℕ) → (GoodUnit t → HaltTable t) → Step c t a u → HaltStep c t a u
  same_step a u own p = record { other = λ n. ten (reads a) (p.not_good (λ g. n (own g))) p.unchanged; same = λ _. p }
    where
      ten : (r : Reply) → answered r ≡ answered (refused 10 none) → Unchanged r t u → (r ≡ refused 10 none) × (u ≡ t)
      ten r q k = let same : r ≡ refused 10 none = cc in (same, subst (λ (x : Reply). Unchanged x t u) same k)

-- ---- making

judged-own : (r : SetupReply) (b : Bool) → Judged b r → b ≡ false → OwnPlan r
judged-own r true h e = absurd (false≢true (sym e))
judged-own r false h e = h

judged-other : (r : SetupReply) (b : Bool) → Judged b r → b ≡ true → OtherPlan r
judged-other r true h e = h
judged-other r false h e = absurd (false≢true e)

-- the two exclude each other
not-both : (r : SetupReply) → OwnPlan r → OtherPlan r → ⊥
not-both (setup_refused n p) own other = other
not-both (setup_read format gs lanes at) own other = other own

module _ (setup t : List ℕ) where
  pub make-short : length t < table_size → HaltMake setup t (Err (Refused TableShort)) t
  make-short h = record {
    other = λ room. absurd (omega arith);
    same = λ _. (Err TableShort, its-proofs.make-short setup t h, refl);
    own = λ n e. let z : ◌≡◌ {A = ℕ} 0 1 = cc in absurd (omega arith);
  }

  module _ (b : Bool) (j : Judged b (read_setup setup)) where
    pub make-other : table_size ≤ length t → b ≡ true → HaltMake setup t (Err NotAHalt) t
    make-other room e = record {
      other = λ _ _. (refl, refl);
      same = λ n. absurd (n room (judged-other (read_setup setup) b j e));
      own = λ n q. let z : ◌≡◌ {A = ℕ} 0 1 = cc in absurd (omega arith);
    }

    module _ (e : b ≡ false) (u : List ℕ) where
      pub make-made : (n : ℕ) → MakeStep setup t (Ok n) u → HaltMake setup t (Ok n) u
      make-made n p = record {
        other = λ _ o. absurd (not-both (read_setup setup) (judged-own (read_setup setup) b j e) o);
        same = λ _. (Ok n, p, refl);
        own = λ _ _. judged-own (read_setup setup) b j e;
      }

      pub make-refused : (x : Refusal) → MakeStep setup t (Err x) u → HaltMake setup t (Err (Refused x)) u
      make-refused x p = record {
        other = λ _ o. absurd (not-both (read_setup setup) (judged-own (read_setup setup) b j e) o);
        same = λ _. (Err x, p, refl);
        own = λ n r. let z : ◌≡◌ {A = ℕ} 0 1 = cc in absurd (omega arith);
      }
