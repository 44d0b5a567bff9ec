-- The tie order names each lane that holds records once, and no other.
-- Assumes nothing.
use Prim.Native.Nat.{ℕ}
use native.Mathlib.Omega.{arith}
use mathlib.Core.Path.{◌≡◌, refl, sym, ap, subst, ◌∙◌}
use mathlib.Core.Bool.{Bool, true, false, false≢true}
use mathlib.Core.Option.{Option, none, some}
use mathlib.Core.List.{List, [], ◌∷◌, ◌++◌}
use lib.Dec.{eqb}
use borrow.Author.Tests.{eqb-true, eq-eqb, ne_eqb}
use Rattle.std.specs.Prelude.{if◌then◌else◌}
use Rattle.units.specs.Plain.{times, without}
use Rattle.units.proofs.Bools.{if-ind}
use Rattle.units.proofs.Lists.{set_cases, times-append}
use Rattle.waiting.specs.Waiting.{Waiting, first}
use Rattle.rules.specs.State.{Setting, setup_of, Lane, Rec, State, holds, some?, no_lane, lane_at, any_holds}
use Rattle.rules.specs.Calls.{Pick, Call, Outcome, put, take, look, sets, lag, restart, served, woken, appended, serve, take_of, picked, do_take, put_refusal, shifted, accept, put_of, do_put, do_look, do_sets, do_restart, idle, fresh, step}
use Rattle.rules.proofs.Claim.{in-range}
use Rattle.rules.proofs.Moves.{appended-holds, woken-holds}
use Rattle.rules.proofs.Bounds.{fresh-free}
use Rattle.rules.proofs.Keep.{PickIs, pick_is, AllSound, Allowed, allowed-enters, PutOk, put-ok, look-same, lag-same}
use Rattle.rules.proofs.Queues.{held-inside}
use Rattle.rules.proofs.Shift.{shifted-waiting, shifted-sound, shifted-order, shifted-allowed}

unfoldable pub Tied : State → Type 0
Tied s = (k : ℕ) → times k s.order ≡ (if holds (lane_at s k) then 1 else 0)

pub times-same : (j : ℕ) (js : List ℕ) → times j (without j js) ≡ 0
unfolding without
times-same j [] = refl
times-same j (i ∷ is) =
    go (eqb j i) refl (times-same j is)
  where
    go : (b : Bool) → eqb j i ≡ b → times j (without j is) ≡ 0 → times j (if b then without j is else i ∷ without j is) ≡ 0
    go true e h = h
    go false e h = simp (ne_eqb i j (λ q. false≢true (sym e ∙ eq-eqb j i (sym q)))) (omega arith)

pub times-other : (j k : ℕ) (js : List ℕ) → (j ≡ k → ⊥) → times k (without j js) ≡ times k js
unfolding without
times-other j k [] n = refl
times-other j k (i ∷ is) n =
    go (eqb j i) refl (times-other j k is n)
  where
    go : (b : Bool) → eqb j i ≡ b → times k (without j is) ≡ times k is → times k (if b then without j is else i ∷ without j is) ≡ times k (i ∷ is)
    go true e h = simp (ne_eqb i k (λ q. n (eqb-true j i e ∙ q))) (omega arith)
    go false e h = omega (arith, h)

-- ---- take

again : (b : Bool) (j k : ℕ) → times k (if b then j ∷ [] else []) ≡ (if b then (if eqb j k then 1 else 0) else 0)
again true j k = omega arith
again false j k = refl

one-if : (b : Bool) → ◌≡◌ {A = ℕ} (if b then (if true then 1 else 0) else 0) (if b then 1 else 0)
one-if true = refl
one-if false = refl

none-if : (b : Bool) → ◌≡◌ {A = ℕ} (if b then (if false then 1 else 0) else 0) 0
none-if true = refl
none-if false = refl

pub take_tied : (s : State) (o : Option Pick) → PickIs s o → Tied s → Tied (take_of s o).state
unfolding take_of serve Tied
take_tied s none h t k = t k
take_tied s (some p) h t k =
    let j = p.lane in
    let l = lane_at s j in
    set_cases (λ (m : Lane). times k (without j s.order ++ (if holds (served l) then j ∷ [] else [])) ≡ (if holds m then 1 else 0))
    s.lanes j k (served l) no_lane (held-inside s.lanes j p.first h.is_first)
    (λ e. rw (← e) (simp (times-append, again, times-same, eq-eqb j j refl, one-if) (omega arith)))
    (λ e. simp (times-append, again, times-other j k s.order e, ne_eqb j k e, none-if) (omega (arith, t k)))

-- ---- put

accept-tied : (s : State) (j : ℕ) (r : Rec) → AllSound s → Allowed s j r → Tied s → Tied (accept s j r)
unfolding accept Tied appended woken
accept-tied s j r w a t =
    if-ind Tied (holds (lane_at s j)) _ _
    (λ b k. set_cases (λ (m : Lane). times k s.order ≡ (if holds m then 1 else 0)) s.lanes j k (appended (lane_at s j) r) no_lane (in-range s.lanes j a.has)
    (λ e. rw (← e) (t j ∙ simp (b, appended-holds (lane_at s j) r (w j) (allowed-enters s j r a) b)))
    (λ e. t k))
    (λ b k. set_cases (λ (m : Lane). times k (s.order ++ (j ∷ [])) ≡ (if holds m then 1 else 0)) s.lanes j k (woken s.clock (lane_at s j) r) no_lane (in-range s.lanes j a.has)
    (λ e. let u : times j s.order ≡ 0 = t j ∙ simp b in rw (← e) (simp (times-append, eq-eqb j j refl, woken-holds s.clock (lane_at s j) r (w j) (allowed-enters s j r a) b) (omega arith)))
    (λ e. simp (times-append, ne_eqb j k e) (omega (arith, t k))))

shifted-tied : (s : State) → Tied s → Tied (shifted s)
unfolding Tied
shifted-tied s t k = ap (times k) (shifted-order s) ∙ t k ∙ ap (λ (w : Waiting). if some? (first w) then 1 else 0) (sym (shifted-waiting s k))

put-tied : (s : State) (j : ℕ) (r : Rec) (o : Option ℕ) → AllSound s → PutOk s j r o → Tied s → Tied (put_of s j r o).state
unfolding put_of
put-tied s j r none w a t = accept-tied (shifted s) j r (shifted-sound s w) (shifted-allowed s j r a) (shifted-tied s t)
put-tied s j r (some c) w a t = t

pub fresh-tied : (gs : List Setting) → Tied (fresh gs)
unfolding fresh Tied idle
fresh-tied gs k = rw (fresh-free gs k)

restart-tied : (s : State) → Tied s → Tied (do_restart s).state
unfolding do_restart
restart-tied s t = if-ind (λ (o : Outcome). Tied o.state) (any_holds s.lanes) _ _ (λ e. t) (λ e. fresh-tied (setup_of s))

pub step-tied : (s : State) (c : Call) → AllSound s → Tied s → Tied (step s c).state
unfolding step do_put do_take do_look do_sets
step-tied s (put j k m n) w t = put-tied s j (record { train = k; mark = m; len = n }) (put_refusal s j (record { train = k; mark = m; len = n })) w (put-ok s j (record { train = k; mark = m; len = n })) t
step-tied s take w t = take_tied s (picked s) (pick_is s) t
step-tied s look w t = subst Tied (sym (look-same s (picked s))) t
step-tied s sets w t = t
step-tied s (lag j) w t = subst Tied (sym (lag-same s j)) t
step-tied s restart w t = restart-tied s t
