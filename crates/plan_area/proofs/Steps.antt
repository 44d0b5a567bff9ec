-- The promises of the two calls, from what their parts ensure.
--
--   read_short, read-refused, read-stored   of reading, a setup or another text; setup-good: a setup that was read
--   write-short, write-plan    of writing
--
-- Assumes nothing.
use Prim.Native.Nat.{ℕ, ◌≤◌, ◌<◌}
use mathlib.Core.Path.{◌≡◌, refl, sym, ap, subst, ◌∙◌}
use mathlib.Core.List.{List}
use native.Mathlib.Omega.{arith}
use lib.ListN.{length, drop}
use Rattle.rules.specs.Setup.{Setup}
use Rattle.rules.specs.declared.Refusal.{Refusal}
use Rattle.rules.specs.declared.Refusal.TheVariants.{TableShort}
use Rattle.plan.specs.Read as plan
use Rattle.plan.specs.Read.{read_setup, settings, setup_reply}
use Rattle.plan.specs.declared.Reading.{Reading}
use Rattle.plan.proofs.Accepted.{accepted-setup}
use Rattle.plan_writer.proofs.Parts.{format_small}
use Rattle.plan_writer.specs.Write.{Planned, Writes}
use Rattle.std.specs.Prelude.{Result, Ok, Err}
use Rattle.plan_writer.specs.declared.Unwritten.{Unwritten}
use Rattle.plan_writer.specs.declared.Unwritten.TheVariants.{Outside}
use Rattle.plan_area.specs.Area.{area_size, AreaRoom, plan_in, Gives, ShowsPlan, AreaWithin}
use Rattle.plan_area.specs.Step.{AreaBySetup, AreaRead, WriteStep}

-- what is read, whatever reader it is
module _ {said : plan.SetupReply} {a : List ℕ} where
  pub read_short : length a < area_size → AreaRead said a (Err TableShort) a
  read_short h = record { short = λ _. (refl, refl); follows = λ room. absurd (omega (arith, room, h)); size = refl }

  module _ (room : AreaRoom a) where
    pub read-refused : (x : Refusal) → setup_reply (Err x) ≡ said → AreaRead said a (Err x) a
    read-refused x e = record {
      short = λ h. absurd (omega (arith, room, h));
      follows = λ _. subst (λ (y : plan.SetupReply). AreaBySetup y a (Err x) a) e (refl, refl);
      size = refl;
    }

    pub read-stored : (r : Reading) → setup_reply (Ok r) ≡ said → (b : List ℕ) → length b ≡ length a
        → ShowsPlan (record { format = r.plan.format; lanes = settings r.plan; count = r.plan.count }) b × (drop area_size b ≡ drop area_size a)
        → AreaRead said a (Ok r.plan.count) b
    read-stored r e b size w = record {
      short = λ h. absurd (omega (arith, room, h));
      follows = λ _. subst (λ (y : plan.SetupReply). AreaBySetup y a (Ok r.plan.count) b) e (refl, w.0, w.1);
      size = size;
    }

-- a setup that was read can be stored
module _ (s : List ℕ) (r : Reading) (e : setup_reply (Ok r) ≡ read_setup s) where
  pub setup-good : Setup (settings r.plan)
  setup-good = (accepted-setup r s e).0.setup

  pub setup-low : r.plan.format ≤ 2
  setup-low = format_small r.plan.format (accepted-setup r s e).0.rule.format

module _ (area before : List ℕ) where
  not_within : (AreaWithin area → ⊥) → WriteStep area before (Err Outside) before
  not_within n = record { outside = λ _. (refl, refl); short = λ w _. absurd (n w); written = λ w _. absurd (n w) }

  pub write-short : length area < area_size → WriteStep area before (Err Outside) before
  write-short h = not_within (λ w. omega (arith, w.room, h))

  pub write-plan : AreaRoom area → (p : Planned) → Gives (plan_in area) p → (a : Result ℕ Unwritten) (after : List ℕ) → Writes p before a after → WriteStep area before a after
  write-plan room p g a after h =
      let own : AreaWithin area → Writes (plan_in area) before a after = λ v. subst (λ (x : Planned). Writes x before a after) (g.same v.plan) h in
      record {
        outside = λ o. h.outside (λ v. o (record { room = room; plan = g.within v }));
        short = λ v l. (own v).short v.plan l;
        written = λ v l. (own v).written v.plan l;
      }
