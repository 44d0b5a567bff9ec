-- If a lane holds a record, some lane is eligible: so take is refused only where nothing is held.
-- Assumes nothing.
use Prim.Native.Nat.{ℕ, zero, suc, ◌+◌, ◌*◌, ◌≤◌, ◌<◌}
use native.Mathlib.Omega.{arith}
use native.Mathlib.Nat.{le_refl}
use mathlib.Core.Path.{◌≡◌, refl, sym, ap, subst, ◌∙◌}
use mathlib.Core.Bool.{Bool, true, false, not, ◌&&◌, false≢true, or-true}
use mathlib.Core.Option.{Option, none, some}
use mathlib.Core.List.{List, [], ◌∷◌}
use lib.Dec.{ltb}
use lib.ListN.{length, get_or, set}
use borrow.Author.Tests.{ltb-false}
use Rattle.std.specs.Prelude.{if◌then◌else◌}
use Rattle.units.proofs.Bools.{if-ind, or_right}
use Rattle.units.proofs.Lists.{set_cases}
use Rattle.rules.specs.State.{Setting, setup_of, Lane, Rec, State, charge, start_r, holds, no_lane, lane_at, eligible, any_holds}
use Rattle.rules.specs.Choice.{least_of}
use Rattle.rules.specs.Calls.{Pick, Call, Outcome, put, take, look, sets, lag, restart, served, woken, appended, settled, settled_at, serve, take_of, picked, do_take, put_refusal, accept, do_look, do_sets, do_restart, idle, fresh}
use Rattle.rules.specs.Endless.{endless_put_of, endless_put, endless}
use Rattle.rules.proofs.Claim.{in-range}
use Rattle.rules.proofs.Moves.{appended-holds, woken-holds}
use Rattle.rules.proofs.Bounds.{fresh-free}
use Rattle.rules.proofs.Lowest.{Low, lowest}
use Rattle.rules.proofs.Keep.{eligible-is, is-eligible, PickIs, AllSound, Allowed, allowed-enters, PutOk, put-ok, look-same, lag-same}

unfoldable pub Live : State → Type 0
Live s = (k : ℕ) → holds (lane_at s k) ≡ true → (i : ℕ) × (eligible s.clock (lane_at s i) ≡ true)

-- ---- take

settle-live : (v : ℕ) (ls : List Lane) (o : Option ℕ) → Low ls o → (k : ℕ) → holds (get_or ls k no_lane) ≡ true → (i : ℕ) × (eligible (settled_at v o) (get_or ls i no_lane) ≡ true)
unfolding settled_at
settle-live v ls none h k e = absurd (false≢true (sym (h k) ∙ e))
settle-live v ls (some r) h k e = (
  h.at,
  is-eligible (settled_at v (some r)) (get_or ls h.at no_lane) h.is
      (if-ind (λ (x : ℕ). start_r (get_or ls h.at no_lane) ≤ x) (ltb v r) r v (λ b. omega (arith, h.start)) (λ b. omega (arith, h.start, ltb-false v r b))),
)

take-live : (s : State) (o : Option Pick) → Live s → Live (take_of s o).state
unfolding take_of serve settled Live
take-live s none h = h
take-live s (some p) h =
    let ls = set s.lanes p.lane (served (lane_at s p.lane)) in
    settle-live (s.clock + 1024 * charge (lane_at s p.lane).given p.first.len) ls (least_of holds ls) (lowest ls)

-- ---- put

pub some_holds : (ls : List Lane) → any_holds ls ≡ true → (k : ℕ) × (holds (get_or ls k no_lane) ≡ true)
unfolding any_holds
some_holds [] e = absurd (false≢true e)
some_holds (l ∷ ls) e = go (holds l) refl (some_holds ls)
  where
    go : (b : Bool) → holds l ≡ b → (any_holds ls ≡ true → (k : ℕ) × (holds (get_or ls k no_lane) ≡ true)) → (k : ℕ) × (holds (get_or (l ∷ ls) k no_lane) ≡ true)
    go true f r = (0, f)
    go false f r = let i = r (or_right (holds l) (any_holds ls) e f) in (suc i.0, i.1)

pub holds-some : (ls : List Lane) (k : ℕ) → holds (get_or ls k no_lane) ≡ true → any_holds ls ≡ true
unfolding any_holds
holds-some [] k e = absurd (false≢true e)
holds-some (l ∷ ls) zero e = simp e
holds-some (l ∷ ls) (suc k) e = simp (holds-some ls k e, or-true (holds l))

module _ (s : State) (j : ℕ) (r : Rec) (w : AllSound s) (a : Allowed s j r) (live : (k : ℕ) → holds (lane_at s k) ≡ true → (i : ℕ) × (eligible s.clock (lane_at s i) ≡ true)) where
  inside : j < length s.lanes
  inside = in-range s.lanes j a.has

  append-live : holds (lane_at s j) ≡ true → (k : ℕ) → holds (get_or (set s.lanes j (appended (lane_at s j) r)) k no_lane) ≡ true
      → (i : ℕ) × (eligible s.clock (get_or (set s.lanes j (appended (lane_at s j) r)) i no_lane) ≡ true)
  unfolding appended
  append-live b k e =
      let i = live j b in (
        i.0,
        set_cases (λ (m : Lane). eligible s.clock m ≡ true) s.lanes j i.0 (appended (lane_at s j) r) no_lane inside
            (λ q. is-eligible s.clock (appended (lane_at s j) r) (appended-holds (lane_at s j) r (w j) (allowed-enters s j r a) b)
            (eligible-is s.clock (lane_at s j) (subst (λ (n : ℕ). eligible s.clock (lane_at s n) ≡ true) (sym q) i.1)).1)
            (λ n. i.1),
      )

  abbrev l' : Lane
  l' = woken s.clock (lane_at s j) r

  wake-live : (b : Bool) → any_holds s.lanes ≡ b → holds (lane_at s j) ≡ false → (k : ℕ) → holds (get_or (set s.lanes j l') k no_lane) ≡ true
      → (i : ℕ) × (eligible (if not b && ltb s.clock (start_r l') then start_r l' else s.clock) (get_or (set s.lanes j l') i no_lane) ≡ true)
  unfolding woken
  wake-live true q idle k e =
      let o = some_holds s.lanes q in
      let i = live o.0 o.1 in (
        i.0,
        set_cases (λ (m : Lane). eligible s.clock m ≡ true) s.lanes j i.0 l' no_lane inside
            (λ same. absurd (false≢true (sym idle ∙ ap (λ (n : ℕ). holds (lane_at s n)) same ∙ (eligible-is s.clock (lane_at s i.0) i.1).0)))
            (λ n. i.1),
      )
  wake-live false q idle k e = (
    j,
    set_cases (λ (m : Lane). eligible (if ltb s.clock (start_r l') then start_r l' else s.clock) m ≡ true) s.lanes j j l' no_lane inside
        (λ same. is-eligible _ l' (woken-holds s.clock (lane_at s j) r (w j) (allowed-enters s j r a) idle)
        (if-ind (λ (x : ℕ). start_r l' ≤ x) (ltb s.clock (start_r l')) (start_r l') s.clock (λ b. le_refl (start_r l')) (λ b. ltb-false s.clock (start_r l') b)))
        (λ n. absurd (n refl)),
  )

  accept-live : Live (accept s j r)
  unfolding accept Live
  accept-live =
      if-ind Live (holds (lane_at s j)) _ _ append-live (λ e. wake-live (any_holds s.lanes) refl e)

put-live : (s : State) (j : ℕ) (r : Rec) (o : Option ℕ) → AllSound s → PutOk s j r o → Live s → Live (endless_put_of s j r o).state
unfolding endless_put_of Live
put-live s j r none w a live = accept-live s j r w a live
put-live s j r (some c) w a live = live

pub fresh-live : (gs : List Setting) → Live (fresh gs)
unfolding fresh idle Live
fresh-live gs k e = absurd (false≢true (sym (fresh-free gs k) ∙ e))

restart-live : (s : State) → Live s → Live (do_restart s).state
unfolding do_restart
restart-live s live = if-ind (λ (o : Outcome). Live o.state) (any_holds s.lanes) _ _ (λ e. live) (λ e. fresh-live (setup_of s))

pub step-live : (s : State) (c : Call) → AllSound s → Live s → Live (endless s c).state
unfolding endless endless_put do_take do_look do_sets
step-live s (put j k m n) w live = put-live s j (record { train = k; mark = m; len = n }) (put_refusal s j (record { train = k; mark = m; len = n })) w (put-ok s j (record { train = k; mark = m; len = n })) live
step-live s take w live = take-live s (picked s) live
step-live s look w live = subst Live (sym (look-same s (picked s))) live
step-live s sets w live = live
step-live s (lag j) w live = subst Live (sym (lag-same s j)) live
step-live s restart w live = restart-live s live

-- take is refused only where nothing is held
pub nothing-held : (s : State) → Live s → PickIs s none → (k : ℕ) → holds (lane_at s k) ≡ false
unfolding Live
nothing-held s live h k = go (holds (lane_at s k)) refl
  where
    go : (b : Bool) → holds (lane_at s k) ≡ b → holds (lane_at s k) ≡ false
    go true e = let i = live k e in absurd (false≢true (sym (h i.0) ∙ i.1))
    go false e = e
