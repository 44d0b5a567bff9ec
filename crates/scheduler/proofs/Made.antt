-- From what making found to what it promises. Assumes nothing.
use Prim.Native.Nat.{ℕ, ◌≤◌, ◌<◌}
use native.Mathlib.Omega.{arith}
use mathlib.Core.Path.{◌≡◌, refl, sym, ap, subst, ◌∙◌}
use mathlib.Core.List.{List}
use lib.ListN.{length}
use Rattle.rules.specs.declared.Refusal.{Refusal}
use Rattle.rules.specs.declared.Refusal.TheVariants.{TableShort}
use Rattle.pages.specs.Device.{fresh_device}
use Rattle.plan.specs.Read.{read_setup, settings, setup_reply, SetupReply}
use Rattle.plan.specs.declared.Reading.{Reading}
use Rattle.table.specs.Layout.{table_size}
use Rattle.paged.specs.Settles.{LeadsDevice}
use Rattle.scheduler.specs.Make.{TableBySetup, MakeStep}
use Rattle.std.specs.Prelude.{Ok}
use Rattle.std.specs.Prelude.{Err}

pub make-short : (setup t : List ℕ) → length t < table_size → MakeStep setup t (Err TableShort) t
make-short setup t h = record { short = λ _. (refl, refl); follows = λ q. absurd (omega arith); size = refl }

pub make-refused : (setup t : List ℕ) (x : Refusal) → table_size ≤ length t → setup_reply (Err x) ≡ read_setup setup → MakeStep setup t (Err x) t
make-refused setup t x h e = record {
  short = λ q. absurd (omega arith);
  follows = λ _. subst (λ (y : SetupReply). TableBySetup y t (Err x) t) e (refl, refl);
  size = refl;
}

-- what the check tries by itself where making hands back a refusal, whichever way the program comes there
pub ruleset refusing = (make-refused)

pub make-made : (setup t u : List ℕ) → table_size ≤ length t → (r : Reading) → setup_reply (Ok r) ≡ read_setup setup → length u ≡ length t
    → LeadsDevice t u (fresh_device (settings r.plan)) → MakeStep setup t (Ok r.plan.count) u
make-made setup t u h r e len m = record {
  short = λ q. absurd (omega arith);
  follows = λ _. subst (λ (y : SetupReply). TableBySetup y t (Ok r.plan.count) u) e (refl, m.encodes, m.rest);
  size = len;
}
