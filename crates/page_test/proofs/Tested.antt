-- What the tests of a page's part show of it. Assumes nothing.
use Prim.Native.Nat.{ℕ, ◌≤◌, ◌<◌}
use mathlib.Core.Path.{◌≡◌, refl, sym, ap, subst, ◌∙◌}
use mathlib.Core.Bool.{Bool, true, false, not, false≢true}
use mathlib.Core.List.{List}
use native.Mathlib.Omega.{arith}
use borrow.Author.Tests.{not-false}
use Rattle.rules.specs.Setup.{Setup}
use Rattle.plan_writer.specs.Write.{Planned, Within, Tells}
use Rattle.plan_area.specs.Area.{Gives}
use Rattle.lane_test.specs.Says.{Says}
use Rattle.editions.specs.Part.{last_in, new_in, plan_of, GoodWait, GoodPart}
use Rattle.editions.proofs.Stored.{waits-none, waits-some}

module _ (held : Bool) (p : List ℕ) where
  -- no page waits
  pub good_none : new_in p ≡ 0 → last_in p ≤ 65535 → GoodPart held p
  unfolding GoodWait
  good_none e l = record {
    fits = record { last = omega arith; new = omega arith; format = λ ne. absurd (ne e) };
    page = subst (GoodWait held (last_in p)) (sym (waits-none p e)) tt;
  }

  module _ (ne : new_in p ≡ 0 → ⊥) where
    -- a page waits
    pub good-some : GoodPart held p → (held ≡ true) × Setup (plan_of p).lanes × (last_in p < new_in p)
    unfolding GoodWait
    good-some g = subst (GoodWait held (last_in p)) (waits-some p ne) g.page

    pub not-held : not held ≡ true → GoodPart held p → ⊥
    not-held e g = false≢true (sym (ap not (good-some g).0) ∙ e)

    module _ (h : not held ≡ false) (last : last_in p ≤ 65535) (new : new_in p ≤ 65535) (above : last_in p < new_in p) where
      made : Within (plan_of p) → GoodPart held p
      unfolding GoodWait
      made w = record {
        fits = record { last = omega arith; new = omega arith; format = λ z. w.format };
        page = subst (GoodWait held (last_in p)) (sym (waits-some p ne)) (not-false held h, w.setup, above);
      }

      unmade : GoodPart held p → Within (plan_of p)
      unmade g = record { format = g.fits.format ne; setup = (good-some g).1; count = refl }

      pub plan-tells : (b : Bool) (q : Planned) → Gives (plan_of p) q → Tells b (Within q) → Says b (GoodPart held p)
      plan-tells true q e t = made (e.within (t.yes refl))
      plan-tells false q e t = λ g. let w = unmade g in t.no refl (subst Within (sym (e.same w)) w)
