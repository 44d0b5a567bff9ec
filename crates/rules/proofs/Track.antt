-- What one call of the endless rules does to the clock and to one lane's start: the numbers that R15.8 counts. Assumes nothing.
use Prim.Native.Nat.{ℕ, ◌+◌, ◌*◌, ◌≤◌}
use native.Mathlib.Omega.{arith}
use native.Mathlib.Nat.{le_refl}
use mathlib.Core.Path.{◌≡◌, refl, sym, ap, subst, ◌∙◌}
use mathlib.Core.Bool.{Bool, true, not, ◌&&◌, false≢true}
use mathlib.Core.Option.{Option, none, some}
use mathlib.Core.List.{List}
use lib.Dec.{ltb, eqb}
use lib.ListN.{set}
use borrow.Author.Tests.{ltb-true, eq-eqb, ne_eqb}
use Rattle.std.specs.Prelude.{if◌then◌else◌}
use Rattle.units.proofs.Bools.{if-ind, and_parts}
use Rattle.units.proofs.Lists.{set_cases}
use Rattle.rules.specs.State.{Rec, Lane, no_lane, State, charge, rate, start_r, some?, holds, lane_at, setup_of, any_holds}
use Rattle.rules.specs.Choice.{least_of}
use Rattle.rules.specs.Calls.{Call, put, take, look, sets, lag, restart, Reply, accepted, seen, lagged, refused, Outcome, no, put_refusal, ahead, appended, woken, accept, served, settled_at, settled, serve, Pick, picked, take_of, do_take, look_of, do_look, do_sets, lag_of, do_lag, do_restart}
use Rattle.rules.specs.Endless.{endless_put_of, endless_put, endless}
use Rattle.rules.specs.Runs.{sent_in}
use Rattle.rules.specs.Fair.{charged, charged_to}
use Rattle.rules.proofs.Claim.{weight_of, Queued, in-range}
use Rattle.rules.proofs.Serve.{served-ind}
use Rattle.rules.proofs.Lowest.{none-holds}
use Rattle.rules.proofs.Keep.{Kept, PickIs, pick_is, Allowed, PutOk, put-ok}
use Rattle.rules.proofs.Queues.{held-inside}
use Rattle.rules.proofs.SameSetup.{setting-lane}

-- From s, a call gives the outcome o. While lane k holds records the clock moves by 1,024 times what is sent or more, and the lane's start by c times what
-- is sent of it.
pub record Moved (k : ℕ) (s : State) (o : Outcome) : Type 0 where
  pub clock : holds (lane_at s k) ≡ true → s.clock + 1024 * charged (setup_of s) (sent_in o.reply) ≤ o.state.clock
  pub start : holds (lane_at s k) ≡ true → holds (lane_at o.state k) ≡ true
      → (lane_at o.state k).start ≡ (lane_at s k).start + rate (lane_at s k).given * charged_to (setup_of s) k (sent_in o.reply)

-- a call that changes nothing and sends nothing
unmoved : (k : ℕ) (s : State) (a : Reply) → sent_in a ≡ none → Moved k s (record { reply = a; state = s })
unfolding charged charged_to
unmoved k s a e = record { clock = λ h. simp e (omega arith); start = λ h h'. simp e (omega arith) }

refused-moved : (k n : ℕ) (s : State) → Moved k s (no n s)
unfolding sent_in
refused-moved k n s = unmoved k s (refused n none) refl

-- ---- take

pub settled-ge : (v : ℕ) (o : Option ℕ) → v ≤ settled_at v o
unfolding settled_at
settled-ge v none = le_refl v
settled-ge v (some r) = if-ind (λ (u : ℕ). v ≤ u) (ltb v r) r v (λ e. omega (arith, ltb-true v r e)) (λ e. le_refl v)

pub served-start : (l : Lane) → holds (served l) ≡ true → (served l).start ≡ l.finish
served-start l = served-ind (λ (m : Lane). holds m ≡ true → m.start ≡ l.finish) l (λ e t. absurd (false≢true (sym (ap some? e) ∙ t))) (λ r e t. refl)

take-moved : (M k : ℕ) (s : State) (o : Option Pick) → Kept M s → PickIs s o → Moved k s (take_of s o)
unfolding take_of serve settled sent_in charged charged_to
take-moved M k s none inv h = refused-moved k 16 s
take-moved M k s (some p) inv h =
    let j = p.lane in
    let l = lane_at s j in
    let n : ℕ = charge l.given p.first.len in
    let q : Queued l.given l.start l.finish (some p.first) = subst (Queued l.given l.start l.finish) h.is_first (inv.ok j).queued in
    record {
      clock = λ _. rw (setting-lane s j) (settled-ge (s.clock + 1024 * n) (least_of holds (set s.lanes j (served l))));
      start = λ _.
          rw (setting-lane s k)
          (set_cases
          (λ (m : Lane). holds m ≡ true → m.start ≡ (lane_at s k).start + rate (lane_at s k).given * (if eqb j k then charge (lane_at s k).given p.first.len else 0))
          s.lanes j k (served l) no_lane (held-inside s.lanes j p.first h.is_first)
          (λ e. rw (← e) (λ t. simp (eq-eqb j j refl) (omega (arith, served-start l t, q.1))))
          (λ e t. simp (ne_eqb j k e) (omega arith)));
    }

-- ---- put

module _ (k : ℕ) (s : State) (j : ℕ) (r : Rec) (a : Allowed s j r) where
  -- lane j is replaced by one that has the old start if it held records, and the clock does not fall
  replaced : (l : Lane) (v : ℕ) (order : List ℕ) → s.clock ≤ v → (holds (lane_at s j) ≡ true → l.start ≡ (lane_at s j).start)
      → Moved k s (record { reply = accepted (ahead s j r.train); state = record { clock = v; lanes = set s.lanes j l; order = order } })
  unfolding sent_in charged charged_to
  replaced l v order up same = record {
    clock = λ _. omega arith;
    start = λ held. set_cases (λ (x : Lane). holds x ≡ true → x.start ≡ (lane_at s k).start + rate (lane_at s k).given * 0) s.lanes j k l no_lane (in-range s.lanes j a.has)
        (λ e t. omega (arith, same (ap (λ (i : ℕ). holds (lane_at s i)) e ∙ held), ap (λ (i : ℕ). (lane_at s i).start) e))
        (λ e t. omega arith);
  }

  jump-up : (b : Bool) (u : ℕ) → s.clock ≤ (if b && ltb s.clock u then u else s.clock)
  jump-up b u =
      if-ind (λ (v : ℕ). s.clock ≤ v) (b && ltb s.clock u) u s.clock
      (λ e. omega (arith, ltb-true s.clock u (and_parts b (ltb s.clock u) e).1)) (λ e. le_refl s.clock)

  accept-moved : Moved k s (record { reply = accepted (ahead s j r.train); state = accept s j r })
  unfolding accept appended
  accept-moved =
      if-ind (λ (x : State). Moved k s (record { reply = accepted (ahead s j r.train); state = x })) (holds (lane_at s j)) _ _
      (λ e. replaced (appended (lane_at s j) r) _ _ (le_refl s.clock) (λ t. refl))
      (λ e. replaced (woken s.clock (lane_at s j) r) _ _ (jump-up (not (any_holds s.lanes)) (start_r (woken s.clock (lane_at s j) r))) (λ t. absurd (false≢true (sym e ∙ t))))

put-moved : (k : ℕ) (s : State) (j : ℕ) (r : Rec) (o : Option ℕ) → PutOk s j r o → Moved k s (endless_put_of s j r o)
unfolding endless_put_of
put-moved k s j r none a = accept-moved k s j r a
put-moved k s j r (some n) a = refused-moved k n s

-- ---- the other calls

look-moved : (k : ℕ) (s : State) (o : Option Pick) → Moved k s (look_of s o)
unfolding look_of sent_in
look-moved k s none = refused-moved k 16 s
look-moved k s (some p) = unmoved k s (seen p.lane p.first.train p.first.mark p.first.len) refl

lag-moved : (k : ℕ) (s : State) (j : ℕ) → Moved k s (do_lag s j)
unfolding do_lag sent_in
lag-moved k s j =
    if-ind (Moved k s) (ltb (weight_of (lane_at s j)) 1) _ _ (λ e. refused-moved k 11 s) (λ e. unmoved k s (lagged (lag_of s.clock (lane_at s j))) refl)

-- a restart that is not refused finds no record held
restart-moved : (k : ℕ) (s : State) → Moved k s (do_restart s)
unfolding do_restart
restart-moved k s =
    if-ind (Moved k s) (any_holds s.lanes) _ _ (λ e. refused-moved k 15 s)
    (λ e. record { clock = λ h. absurd (false≢true (sym (none-holds s.lanes e k) ∙ h)); start = λ h. absurd (false≢true (sym (none-holds s.lanes e k) ∙ h)) })

-- ---- every call

pub step-moved : (M k : ℕ) (s : State) (c : Call) → Kept M s → Moved k s (endless s c)
unfolding endless endless_put do_take do_look do_sets sent_in
step-moved M k s (put j i m n) inv = put-moved k s j (record { train = i; mark = m; len = n }) (put_refusal s j (record { train = i; mark = m; len = n })) (put-ok s j (record { train = i; mark = m; len = n }))
step-moved M k s take inv = take-moved M k s (picked s) inv (pick_is s)
step-moved M k s look inv = look-moved k s (picked s)
step-moved M k s sets inv = unmoved k s _ refl
step-moved M k s (lag j) inv = lag-moved k s j
step-moved M k s restart inv = restart-moved k s
