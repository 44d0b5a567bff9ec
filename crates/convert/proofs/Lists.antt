-- A list of calls that began before the update goes on after it. Assumes nothing.
use Prim.Native.Nat.{ℕ, ◌<◌}
use mathlib.Core.Path.{◌≡◌, refl, sym, ap, subst}
use mathlib.Core.List.{List, [], ◌∷◌, map}
use mathlib.Core.Option.{Option, none, some}
use borrow.Author.Tests.{lt-leb}
use Rattle.rules.specs.State.{Rec, Setting, State, clock_far}
use Rattle.rules.specs.Setup.{Setup}
use Rattle.rules.specs.Calls.{Call, put, take, look, sets, lag, restart, fresh, put_refusal, shifted, accept, put_of, do_put, step}
use Rattle.rules.specs.Runs.{after}
use Rattle.rules.specs.Endless.{endless, endless_put, endless_put_of}
use Rattle.rules.proofs.Runs.{after-append}
use Rattle.rules.proofs.AlwaysGood.{fresh-reached, reached, reached-good}
use Rattle.alike.specs.Alike.{Alike}
use Rattle.alike.proofs.Alike.{alike-sym, alike-trans, step-alike}
use Rattle.pages.specs.Device.{ruled}
use Rattle.pages.specs.Carried.{WithoutOffers}
use Rattle.pages.proofs.Carried.{without-offers}
use Rattle.paged.specs.Paged.{EncodesDevice}
use Rattle.scheduler.proofs.Chains.{led-by, all-ruled}
use Rattle.scheduler.proofs.Steps.{alike-encoded}
use Rattle.old_table.specs.Old.{old_meant}
use Rattle.convert.specs.Lists.{Early, OldList, makes, does, ListsGoOn}

list-setup : {gs : List Setting} {cs : List Call} {t : List ℕ} → OldList gs cs t → Setup gs
list-setup (makes s e) = s
list-setup (does c l h e) = list-setup l

-- the calls of that time are today's
near : (s : State) → s.clock < clock_far → shifted s ≡ s
unfolding shifted
near s h = simp (lt-leb clock_far s.clock h)

put-early : (s : State) (j : ℕ) (r : Rec) (o : Option ℕ) → s.clock < clock_far → (endless_put_of s j r o).state ≡ (put_of s j r o).state
unfolding endless_put_of put_of
put-early s j r none h = ap (λ (u : State). accept u j r) (sym (near s h))
put-early s j r (some n) h = refl

same-early : (s : State) (c : Call) → Early c s → (endless s c).state ≡ (step s c).state
unfolding endless step endless_put do_put
same-early s (put j k m n) h = let r : Rec = record { train = k; mark = m; len = n } in put-early s j r (put_refusal s j r) h
same-early s take h = refl
same-early s look h = refl
same-early s sets h = refl
same-early s (lag j) h = refl
same-early s restart h = refl

-- what the old bytes mean is alike what today's rules reach by the same calls
list-alike : {gs : List Setting} {cs : List Call} {t : List ℕ} → OldList gs cs t → Alike (old_meant t) (after (fresh gs) cs)
unfolding after
list-alike (makes s e) = e.alike
list-alike {gs} (does {cs} {t} {u} c l h e) =
    let s = after (fresh gs) cs in
    let good = reached-good s (reached (fresh gs) cs (fresh-reached gs (list-setup l))) in
    let one = step-alike s (old_meant t) good (alike-sym (old_meant t) s (list-alike l)) c in
    subst (Alike (old_meant u)) (sym (after-append (fresh gs) cs (c ∷ [])))
    (alike-trans (old_meant u) (step (old_meant t) c).state (step s c).state (subst (Alike (old_meant u)) (same-early (old_meant t) c h) e.alike) (alike-sym (step s c).state (step (old_meant t) c).state one.state))

pub lists-go-on : ListsGoOn
unfolding ListsGoOn WithoutOffers
lists-go-on gs cs old before t l o =
    let e = o.encodes in
    led-by gs (map ruled cs) t (list-setup l) (all-ruled cs)
    (subst (EncodesDevice t) (sym (without-offers gs cs).1) (alike-encoded t _ _ (record { state = list-alike l; edition = refl; waiting = refl }) e))
