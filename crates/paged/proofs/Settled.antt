-- A page that waits, once a call is done. Assumes nothing.
use Prim.Native.Nat.{ℕ}
use mathlib.Core.Path.{◌≡◌, refl, sym, ap, subst, ◌∙◌}
use mathlib.Core.Bool.{true, false}
use mathlib.Core.List.{List}
use mathlib.Core.Option.{Option, none, some}
use native.Mathlib.Omega.{arith}
use Rattle.rules.specs.State.{Setting, State, any_holds}
use Rattle.rules.specs.Setup.{Setup}
use Rattle.pages.specs.Device.{Page, in_force_of, settled_device}
use Rattle.plan_writer.specs.Write.{Within}
use Rattle.editions.specs.Part.{last_in, new_in, plan_of, waiting_in}
use Rattle.editions.proofs.Stored.{waits-none, waits-some}
use Rattle.table.specs.Means.{meant}
use Rattle.paged.specs.Paged.{part_of}
use Rattle.paged.specs.Settles.{PageReady, Rests, LeadsDevice}
use Rattle.paged.proofs.Units.{filed-encodes}

-- it waits on
waits-on : (s : State) (n : ℕ) (w : Option Page) → any_holds s.lanes ≡ true → settled_device s n w ≡ record { state = s; edition = n; waiting = w }
unfolding settled_device
waits-on s n none h = refl
waits-on s n (some p) h = rw h

-- or none does
none-waits : (s : State) (n : ℕ) (w : Option Page) → w ≡ none → settled_device s n w ≡ record { state = s; edition = n; waiting = w }
unfolding settled_device
none-waits s n none e = refl
none-waits s n (some p) e = let z : ◌≡◌ {A = ℕ} 0 1 = cc in absurd (omega arith)

-- or it comes into force
pub comes : (s : State) (n : ℕ) (w : Option Page) (p : Page) → w ≡ some p → any_holds s.lanes ≡ false → settled_device s n w ≡ in_force_of p
unfolding settled_device
comes s n w p e h = ap (settled_device s n) e ∙ rw h

module _ (t : List ℕ) (r : Rests t) where
  stays : LeadsDevice t t (record { state = meant t; edition = last_in (part_of t); waiting = waiting_in (part_of t) })
  stays = record { encodes = record { room = r.room; core = filed-encodes t r.filed; edition = refl; waiting = refl; fits = r.fits }; rest = refl }

  pub ready-plan : (new_in (part_of t) ≡ 0 → ⊥) → Setup (plan_of (part_of t)).lanes
  ready-plan ne = subst PageReady (waits-some (part_of t) ne) r.page

  -- so it is read whole, from the part as it is lent
  pub ready-lanes : (new_in (part_of t) ≡ 0 → ⊥) → (gs : List Setting) (p : List ℕ) → p ≡ part_of t → (Within (plan_of p) → gs ≡ (plan_of p).lanes) → gs ≡ (plan_of (part_of t)).lanes
  ready-lanes ne gs p e f =
      let within : Within (plan_of (part_of t)) = record { format = r.fits.format ne; setup = ready-plan ne; count = refl } in
      subst (λ (q : List ℕ). Within (plan_of q) → gs ≡ (plan_of q).lanes) e f within

  pub settled-held : any_holds (meant t).lanes ≡ true → LeadsDevice t t (settled_device (meant t) (last_in (part_of t)) (waiting_in (part_of t)))
  settled-held h = subst (LeadsDevice t t) (sym (waits-on (meant t) (last_in (part_of t)) (waiting_in (part_of t)) h)) stays

  pub settled-none : new_in (part_of t) ≡ 0 → LeadsDevice t t (settled_device (meant t) (last_in (part_of t)) (waiting_in (part_of t)))
  settled-none e = subst (LeadsDevice t t) (sym (none-waits (meant t) (last_in (part_of t)) (waiting_in (part_of t)) (waits-none (part_of t) e))) stays

  pub settled-comes : any_holds (meant t).lanes ≡ false → (new_in (part_of t) ≡ 0 → ⊥) → (u : List ℕ) (n : ℕ) (gs : List Setting) → n ≡ new_in (part_of t) → gs ≡ (plan_of (part_of t)).lanes
      → LeadsDevice t u (in_force_of (record { edition = n; settings = gs })) → LeadsDevice t u (settled_device (meant t) (last_in (part_of t)) (waiting_in (part_of t)))
  settled-comes h ne u n gs e f l =
      let is : waiting_in (part_of t) ≡ some (record { edition = n; settings = gs }) =
      waits-some (part_of t) ne
      ∙ ap (λ (x : ℕ). some (record { edition = x; settings = (plan_of (part_of t)).lanes })) (sym e)
      ∙ ap (λ (x : List Setting). some (record { edition = n; settings = x })) (sym f) in
      subst (LeadsDevice t u) (sym (comes (meant t) (last_in (part_of t)) (waiting_in (part_of t)) (record { edition = n; settings = gs }) is h)) l
