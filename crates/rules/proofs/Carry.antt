-- A law of what waits in one lane, carried to lists of calls: whatever a record that enters and one that is handed out keep, and adds up, every stretch of calls
-- keeps. `Rel L w u xs`: as w became u the records xs were handed out. Assumes nothing.
use Prim.Native.Nat.{ℕ}
use mathlib.Core.Path.{◌≡◌, refl, sym, ap, subst}
use mathlib.Core.Option.{Option, none, some}
use mathlib.Core.List.{List, [], ◌∷◌, ◌++◌}
use lib.Dec.{ltb, eqb}
use lib.ListN.{set}
use borrow.Author.Tests.{eq-eqb, ne_eqb}
use Rattle.std.specs.Prelude.{if◌then◌else◌}
use Rattle.units.proofs.Bools.{if-ind}
use Rattle.units.proofs.Lists.{set_cases}
use Rattle.waiting.specs.Waiting.{Waiting, first, enter, hand_out, GoodWaiting}
use Rattle.rules.specs.State.{Rec, Setting, Lane, no_lane, State, first_of, holds, lane_at, any_holds}
use Rattle.rules.specs.Calls.{Call, put, take, look, sets, lag, restart, Reply, accepted, seen, lagged, refused, Outcome, no, ahead, shifted, entered, appended, woken, accept, put_of, do_put, served, serve, Pick, picked, take_of, do_take, look_of, do_look, do_sets, lag_of, do_lag, do_restart, step}
use Rattle.rules.specs.Runs.{after, trace, sent_in, of_lane, sent_of}
use Rattle.rules.proofs.Claim.{weight_of, in-range}
use Rattle.rules.proofs.Moves.{idle-first}
use Rattle.rules.proofs.Lowest.{none-holds}
use Rattle.rules.proofs.Keep.{AllSound, PickIs, pick_is, Allowed, PutOk, put-ok}
use Rattle.rules.proofs.Shift.{shifted-given, shifted-waiting, shifted-sound, shifted-allowed}
use Rattle.rules.proofs.Queues.{held-inside, served-waiting, step-passed}
use Rattle.rules.proofs.Sound.{step-sound}

-- while Hold is so of what waits
pub record Carries (Hold : Waiting → Type 0) (Rel : ℕ → Waiting → Waiting → List Rec → Type 0) : Type 0 where
  pub stays : (L : ℕ) (w : Waiting) → Rel L w w []
  pub enters : (L : ℕ) (w : Waiting) (r : Rec) → GoodWaiting L w → Hold w → Rel L w (enter L w r) []
  pub hands : (L : ℕ) (w : Waiting) (x : Rec) → GoodWaiting L w → first w ≡ some x → Hold w → Hold (hand_out L w) → Rel L w (hand_out L w) (x ∷ [])
  pub joins : (L : ℕ) (w u v : Waiting) (xs ys : List Rec) → Rel L w u xs → Rel L u v ys → Rel L w v (xs ++ ys)
  pub some_record : (L : ℕ) (w : Waiting) → GoodWaiting L w → first w ≡ none → Hold w → ⊥

module _ (k : ℕ) (Hold : Waiting → Type 0) (Rel : ℕ → Waiting → Waiting → List Rec → Type 0) (law : Carries Hold Rel) where
  abbrev waits_at : State → Waiting
  waits_at s = (lane_at s k).waiting

  abbrev longest_at : State → ℕ
  longest_at s = (lane_at s k).given.longest

  -- one call, from s to the outcome o
  Carried : State → Outcome → Type 0
  Carried s o = AllSound s → Hold (waits_at s) → Hold (waits_at o.state) → Rel (longest_at s) (waits_at s) (waits_at o.state) (of_lane k (sent_in o.reply))

  unchanged : (s : State) (x : Reply) → sent_in x ≡ none → Carried s (record { reply = x; state = s })
  unfolding Carried of_lane
  unchanged s x e w h h' = simp e (law.stays (longest_at s) (waits_at s))

  refused-carried : (n : ℕ) (s : State) → Carried s (no n s)
  unfolding sent_in
  refused-carried n s = unchanged s (refused n none) refl

  take-carried : (s : State) (o : Option Pick) → PickIs s o → Carried s (take_of s o)
  unfolding Carried take_of serve sent_in of_lane
  take-carried s none h w held = refused-carried 16 s w held
  take-carried s (some p) h w held =
      let j = p.lane in
      set_cases (λ (m : Lane). Hold m.waiting → Rel (longest_at s) (waits_at s) m.waiting (if eqb j k then p.first ∷ [] else []))
      s.lanes j k (served (lane_at s j)) no_lane (held-inside s.lanes j p.first h.is_first) (λ e. same e) (λ n. other n)
    where
      same : p.lane ≡ k → Hold (served (lane_at s p.lane)).waiting
          → Rel (longest_at s) (waits_at s) (served (lane_at s p.lane)).waiting (if eqb p.lane k then p.first ∷ [] else [])
      same e = rw (served-waiting (lane_at s p.lane), e, eq-eqb k k refl) (λ u. law.hands (longest_at s) (waits_at s) p.first (w k) (rw e at h.is_first) held u)

      other : (p.lane ≡ k → ⊥) → Hold (waits_at s) → Rel (longest_at s) (waits_at s) (waits_at s) (if eqb p.lane k then p.first ∷ [] else [])
      other n u = simp (ne_eqb p.lane k n) (law.stays (longest_at s) (waits_at s))

  module _ (s : State) (j : ℕ) (r : Rec) (before : ℕ) (ok : Allowed s j r) where
    -- any new lane j into which the record has entered
    replaced : (l : Lane) (v : ℕ) (order : List ℕ) → l.waiting ≡ entered (lane_at s j) r
        → Carried s (record { reply = accepted before; state = record { clock = v; lanes = set s.lanes j l; order = order } })
    unfolding Carried sent_in of_lane
    replaced l v order q w held =
        set_cases (λ (m : Lane). Hold m.waiting → Rel (longest_at s) (waits_at s) m.waiting []) s.lanes j k l no_lane (in-range s.lanes j ok.has)
        (λ e u. rw (q, e) (law.enters (longest_at s) (waits_at s) r (w k) held)) (λ n u. law.stays (longest_at s) (waits_at s))

    accept-carried : Carried s (record { reply = accepted before; state = accept s j r })
    unfolding accept appended woken
    accept-carried =
        if-ind (λ (x : State). Carried s (record { reply = accepted before; state = x })) (holds (lane_at s j)) _ _
        (λ e. replaced (appended (lane_at s j) r) _ _ refl) (λ e. replaced (woken s.clock (lane_at s j) r) _ _ refl)

  put-carried : (s : State) (j : ℕ) (r : Rec) (o : Option ℕ) → PutOk s j r o → Carried s (put_of s j r o)
  unfolding put_of Carried
  put-carried s j r none ok w held held' =
      let u = shifted s in
      let sent : List Rec = of_lane k (sent_in (accepted (ahead s j r.train))) in
      let v = accept u j r in
      subst (λ (L : ℕ). Rel L (waits_at s) (waits_at v) sent) (ap (λ (g : Setting). g.longest) (shifted-given s k))
      (subst (λ (x : Waiting). Rel (longest_at u) x (waits_at v) sent) (shifted-waiting s k)
      (accept-carried u j r (ahead s j r.train) (shifted-allowed s j r ok) (shifted-sound s w) (subst Hold (sym (shifted-waiting s k)) held) held'))
  put-carried s j r (some n) ok w held held' = refused-carried n s w held held'

  look-carried : (s : State) (o : Option Pick) → Carried s (look_of s o)
  unfolding look_of sent_in
  look-carried s none = refused-carried 16 s
  look-carried s (some p) = unchanged s (seen p.lane p.first.train p.first.mark p.first.len) refl

  lag-carried : (s : State) (j : ℕ) → Carried s (do_lag s j)
  unfolding do_lag sent_in
  lag-carried s j = if-ind (Carried s) (ltb (weight_of (lane_at s j)) 1) _ _ (λ e. refused-carried 11 s) (λ e. unchanged s (lagged (lag_of s.clock (lane_at s j))) refl)

  -- a restart that is not refused finds no record held
  restart-carried : (s : State) → Carried s (do_restart s)
  unfolding do_restart Carried
  restart-carried s =
      if-ind (Carried s) (any_holds s.lanes) _ _ (λ e. refused-carried 15 s)
      (λ e w held h. absurd (law.some_record (longest_at s) (waits_at s) (w k) (idle-first (first_of (lane_at s k)) (none-holds s.lanes e k)) held))

  step-carried : (s : State) (c : Call) → Carried s (step s c)
  unfolding step do_put do_take do_look do_sets sent_in
  step-carried s (put j i m n) = put-carried s j (record { train = i; mark = m; len = n }) _ (put-ok s j (record { train = i; mark = m; len = n }))
  step-carried s take = take-carried s (picked s) (pick_is s)
  step-carried s look = look-carried s (picked s)
  step-carried s sets = unchanged s _ refl
  step-carried s (lag j) = lag-carried s j
  step-carried s restart = restart-carried s

  -- ---- the stretch

  pub run-carried : (s : State) (mid : List Call) → AllSound s → ((p q : List Call) → p ++ q ≡ mid → Hold (lane_at (after s p) k).waiting)
      → Rel (lane_at s k).given.longest (lane_at s k).waiting (lane_at (after s mid) k).waiting (sent_of k (trace s mid))
  unfolding trace after sent_of Carried
  run-carried s [] w h = law.stays (longest_at s) (waits_at s)
  run-carried s (c ∷ cs) w h =
      let s' = (step s c).state in
      law.joins (longest_at s) (waits_at s) (waits_at s') (waits_at (after s' cs)) (of_lane k (sent_in (step s c).reply)) (sent_of k (trace s' cs))
      (step-carried s c w (h [] (c ∷ cs) refl) (h (c ∷ []) cs refl))
      (subst (λ (L : ℕ). Rel L (waits_at s') (waits_at (after s' cs)) (sent_of k (trace s' cs))) (ap (λ (g : Setting). g.longest) (step-passed k s c).given)
      (run-carried s' cs (step-sound s c w) (λ p q e. h (c ∷ p) q (ap (λ (y : List Call). c ∷ y) e))))
