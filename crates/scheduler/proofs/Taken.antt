-- A take, and the page that waits. Assumes nothing.
use Prim.Native.Nat.{ℕ, ◌<◌}
use native.Mathlib.Omega.{arith}
use mathlib.Core.Path.{◌≡◌, refl, sym, ap, subst, ◌∙◌}
use mathlib.Core.Bool.{Bool, true, false, not}
use mathlib.Core.List.{List}
use mathlib.Core.Option.{Option, none, some}
use lib.ListN.{length}
use Rattle.std.specs.Prelude.{if◌then◌else◌}
use Rattle.rules.specs.State.{Lane, State, any_holds}
use Rattle.rules.specs.Setup.{Setup}
use Rattle.rules.specs.Calls.{take, Reply, accepted, taken, seen, words, lagged, restarted, refused, Pick, picked, take_of, do_take, step}
use Rattle.rules.specs.Reads.{number, place_of, answer, reads}
use Rattle.rules.specs.declared.Answer.{Answer}
use Rattle.rules.specs.declared.Answer.TheVariants.{Accepted, Taken, Seen, Sets, Lag, Restarted}
use Rattle.std.specs.Prelude.{Result, Ok, Err}
use Rattle.rules.specs.declared.Refusal.{Refusal}
use Rattle.rules.proofs.Sound.{step-sound}
use Rattle.rules.proofs.SameSetup.{same_setup}
use Rattle.alike.specs.Alike.{Alike}
use Rattle.pages.specs.Device.{Page, ruled, answered, in_force_of, settled_device, device_step, device_step_by}
use Rattle.pages.specs.Claims.{RefusedKeeps}
use Rattle.pages.proofs.Answers.{refused-keeps}
use Rattle.editions.specs.Part.{last_in, waiting_in, Fits}
use Rattle.table.specs.Means.{meant}
use Rattle.paged.specs.Paged.{part_of, device_of, EncodesDevice, GoodUnit}
use Rattle.paged.specs.Settles.{PageReady, Rests, LeadsDevice}
use Rattle.paged.proofs.Units.{device-good, device-encoded, good-rests, encodes-filed}
use Rattle.engine.specs.Does.{Unchanged, Does}
use Rattle.scheduler.specs.Step.{Step}
use Rattle.scheduler.proofs.Steps.{alike-encoded, unit-step, past-table}

-- a reply's variant, by number
unfoldable pub kind_of : Reply → ℕ
kind_of (accepted n) = 0
kind_of (taken j k m n) = 1
kind_of (seen j k m n) = 2
kind_of (words a b c d) = 3
kind_of (lagged z) = 4
kind_of restarted = 5
kind_of (refused n p) = 6

-- a take that is refused is refused by 16
take-or : (s : State) (o : Option Pick) (n : ℕ) (p : Option ℕ) → refused n p ≡ (take_of s o).reply → (take_of s o).reply ≡ refused 16 none
unfolding take_of kind_of
take-or s none n p e = refl
take-or s (some q) n p e = let z : ◌≡◌ {A = ℕ} 6 1 = ap kind_of e in absurd (omega arith)

-- and leaves the unit as it was
pub took-none : (t : List ℕ) (x : Refusal) (u : List ℕ) → GoodUnit t → length u ≡ length t → Does take t (Err x) u → Step take t (Err x) u
unfolding device_of device_step_by step do_take RefusedKeeps
took-none t x u g len d =
    let sixteen : reads (Err x) ≡ refused 16 none = d.says ∙ take-or (meant t) (picked (meant t)) (number x) (place_of x) d.says in
    let kept : (device_step (device_of t) (ruled take)).device ≡ device_of t = refused-keeps (device_of t) (device-good t g) (ruled take) 16 none (ap answered (sym d.says ∙ sixteen)) in
    unit-step (ruled take) t (answered (reads (Err x))) u g (ap answered d.says)
    (subst (EncodesDevice u) (sym kept) (subst (λ (y : List ℕ). EncodesDevice y (device_of t)) (sym d.unchanged) (device-encoded t g))) d.unchanged (past-table t u d.rest) len

-- an answer that is no refusal is read as none ..
pub answer-kind : (a : Answer) → kind_of (answer a) < 6
unfolding kind_of
answer-kind (Accepted n) = omega arith
answer-kind (Taken r) = omega arith
answer-kind (Seen r) = omega arith
answer-kind (Sets w) = omega arith
answer-kind (Lag z) = omega arith
answer-kind Restarted = omega arith

-- .. and leaves the bytes open
may-change : (a : Answer) (t u : List ℕ) → Unchanged (answer a) t u
may-change (Accepted n) t u = tt
may-change (Taken r) t u = tt
may-change (Seen r) t u = tt
may-change (Sets w) t u = tt
may-change (Lag z) t u = tt
may-change Restarted t u = tt

-- what the engine's take leaves for the page that waits
pub take-rests : (t : List ℕ) (a : Result Answer Refusal) (u : List ℕ) → GoodUnit t → length u ≡ length t → Does take t a u → Rests u
take-rests t a u g len d =
    let s = (step (meant t) take).state in
    let old = good-rests t g in
    record {
      room = omega (arith, g.room, len);
      filed = encodes-filed u s d.encodes (subst Setup (sym (same_setup (meant t) take)) g.core.good.setup) (step-sound (meant t) take g.core.good.waiting);
      fits = subst Fits (sym d.rest) g.part.fits;
      page = subst (λ (p : List ℕ). PageReady (waiting_in p)) (sym d.rest) old.page;
    }

-- of states alike, one page comes into force or waits on
settled_on : (v : List ℕ) (s s' : State) → Alike s s' → (n : ℕ) (w : Option Page) → EncodesDevice v (settled_device s n w) → EncodesDevice v (settled_device s' n w)
unfolding settled_device
settled_on v s s' a n none e = alike-encoded v _ _ (record { state = a; edition = refl; waiting = refl }) e
settled_on v s s' a n (some p) e =
    go (any_holds s'.lanes)
    (subst (λ (ls : List Lane). EncodesDevice v (if any_holds ls then record { state = s; edition = n; waiting = some p } else in_force_of p)) a.lanes e)
  where
    go : (b : Bool) → EncodesDevice v (if b then record { state = s; edition = n; waiting = some p } else in_force_of p)
        → EncodesDevice v (if b then record { state = s'; edition = n; waiting = some p } else in_force_of p)
    go true h = alike-encoded v _ _ (record { state = a; edition = refl; waiting = refl }) h
    go false h = h

-- and one that hands a record out brings the page into force where nothing is held any more
pub took_one : (t : List ℕ) (a : Answer) (u v : List ℕ) → GoodUnit t → length u ≡ length t → length v ≡ length u → Does take t (Ok a) u
    → LeadsDevice u v (settled_device (meant u) (last_in (part_of u)) (waiting_in (part_of u))) → Step take t (Ok a) v
unfolding device_of device_step_by
took_one t a u v g len len' d leads =
    let s = (step (meant t) take).state in
    let at : EncodesDevice v (settled_device (meant u) (last_in (part_of t)) (waiting_in (part_of t))) =
    subst (λ (p : List ℕ). EncodesDevice v (settled_device (meant u) (last_in p) (waiting_in p))) d.rest leads.encodes in
    unit-step (ruled take) t (answered (answer a)) v g (ap answered d.says)
    (settled_on v (meant u) s d.encodes.alike (last_in (part_of t)) (waiting_in (part_of t)) at)
    (may-change a t v) (leads.rest ∙ past-table t u d.rest) (len' ∙ len)
