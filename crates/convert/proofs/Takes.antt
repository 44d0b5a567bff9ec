-- R7.6: takes answer from both tables alike, up to a 10 of the old one. Assumes nothing.
use Prim.Native.Nat.{ℕ}
use mathlib.Core.Path.{◌≡◌, refl, sym, ◌∙◌}
use mathlib.Core.Logic.{inl, inr}
use mathlib.Core.List.{List}
use Rattle.rules.specs.State.{State}
use Rattle.rules.specs.Calls.{Reply, take, step}
use Rattle.rules.specs.Good.{Good}
use Rattle.pages.specs.Device.{ruled, answered, settled_device, device_step_by}
use Rattle.pages.specs.Claims.{GoodPage}
use Rattle.alike.specs.Alike.{Alike}
use Rattle.alike.proofs.Alike.{alike_refl, alike-sym, alike-trans, alike-good, step-alike}
use Rattle.paged.specs.Paged.{EncodesDevice, GoodUnit}
use Rattle.scheduler.specs.Step.{UnitStep}
use Rattle.scheduler.proofs.Chains.{encoded-good}
use Rattle.old_table.specs.Old.{old_meant, OldTable, OldEncodes}
use Rattle.convert.specs.Converts.{unpaged, TakenOver}
use Rattle.convert.specs.Takes.{OldTakes, old_done, old_then, refuses, takes, TakeChain, done, then, UntilTen, SameTakes}

-- the new bytes encode a unit with a state like the one that the old bytes mean
pub record Along (t u : List ℕ) : Type 0 where
  pub state : State
  pub encodes : EncodesDevice u (unpaged state)
  pub alike : Alike state (old_meant t)

-- one take by each, the old table being good
pub record Alongside (t u : List ℕ) (p : Along t u) (r : Reply) (t₁ u₁ : List ℕ) : Type 0 where
  pub good : Good p.state
  pub by_rules : r ≡ (step p.state take).reply
  pub same : (step (old_meant t) take).reply ≡ r
  pub next : Along t₁ u₁

pub along-over : (old before after : List ℕ) → TakenOver old before after → Along old after
along-over old before after o = record { state = old_meant old; encodes = o.encodes; alike = alike_refl (old_meant old) }

-- bytes that encode the unit of a good state that has taken no page are a good table
pub unpaged-good : (t : List ℕ) (s : State) → EncodesDevice t (unpaged s) → Good s → GoodUnit t
unfolding GoodPage
unpaged-good t s e g = encoded-good t (unpaged s) e (record { state = g; waiting = tt })

pub along-take : (t u t₁ u₁ : List ℕ) (p : Along t u) (r : Reply) → OldTable t → OldEncodes t₁ (step (old_meant t) take).state → UnitStep (ruled take) u (answered r) u₁
    → Alongside t u p r t₁ u₁
unfolding device_step_by settled_device
along-take t u t₁ u₁ p r g after y =
    let s = p.state in
    let s₁ = (step s take).state in
    let good = alike-good (old_meant t) s (alike-sym s (old_meant t) p.alike) g.good.good in
    let table = unpaged-good u s p.encodes good in
    let says : answered r ≡ answered (step s take).reply = y.reply table (unpaged s) p.encodes in
    let by : r ≡ (step s take).reply = cc in
    let same = step-alike s (old_meant t) good p.alike take in
    record {
      good = good;
      by_rules = by;
      same = sym (by ∙ same.reply);
      next = record {
        state = s₁;
        encodes = y.device table (unpaged s) p.encodes;
        alike = alike-trans s₁ (step (old_meant t) take).state (old_meant t₁) same.state (alike-sym (old_meant t₁) (step (old_meant t) take).state after.alike);
      };
    }

along-takes : {t t' u u' : List ℕ} {rs qs : List Reply} → Along t u → OldTakes t rs t' → TakeChain u qs u' → UntilTen rs qs
unfolding UntilTen
along-takes p old_done new = tt
along-takes p (old_then x more) done = tt
along-takes p (old_then (refuses bad) more) (then y rest) = inl refl
along-takes {t} {u = u} p (old_then {u = t₁} (takes g after) more) (then {u = u₁} {r = r} y rest) =
    let one = along-take t u t₁ u₁ p r g after y in
    inr (one.same, along-takes one.next more rest)

pub same_takes : SameTakes
unfolding SameTakes
same_takes old before after a room g c rs qs u v x y = along-takes (along-over old before after (c.converts room g).1) x y
