-- What one call does to each lane's setting and queue, from any state: the setting stays, and what was queued and what is accepted is what is handed
-- out and what is queued then. Assumes nothing.
use Prim.Native.Nat.{ℕ, zero, suc, ◌+◌, ◌<◌}
use native.Mathlib.Nat.{zero-lt-suc}
use native.Mathlib.Omega.{arith}
use mathlib.Core.Path.{◌≡◌, refl, sym, ap, ◌∙◌}
use mathlib.Core.Bool.{false, false≢true}
use mathlib.Core.Option.{Option, none, some}
use mathlib.Core.List.{List, [], ◌∷◌, ◌++◌, append-nil}
use lib.Dec.{ltb, eqb}
use lib.ListN.{length, get_or, set}
use borrow.Author.Tests.{eq-eqb, ne_eqb}
use Rattle.std.specs.Prelude.{if◌then◌else◌}
use Rattle.units.proofs.Bools.{if-ind}
use Rattle.units.proofs.Lists.{set_cases}
use Rattle.waiting.specs.Waiting.{Waiting, queue_of, bare, held}
use Rattle.waiting.proofs.Laws.{queue-enter, queue-hand, queue-none, queue-nothing, held-enter, held-hand, held_none, held-nothing}
use Rattle.rounds.specs.Round as round
use Rattle.rules.specs.State.{Rec, no_setting, Lane, no_lane, State, some?, first_of, holds, lane_at, setup_of, any_holds}
use Rattle.rules.specs.Calls.{Call, put, take, look, sets, lag, restart, Reply, accepted, seen, refused, lagged, Outcome, no, put_refusal, ahead, entered, appended, woken, accept, put_of, do_put, behind, served, serve, Pick, picked, take_of, do_take, look_of, do_look, do_sets, lag_of, do_lag, idle, fresh, do_restart, step, shifted}
use Rattle.rules.specs.Runs.{sent_in, offered_in, is_accepted, accepted_in, of_lane, of_train}
use Rattle.rules.proofs.Lists.{get_d_map}
use Rattle.rules.proofs.Claim.{weight_of, in-range}
use Rattle.rules.proofs.Serve.{served-ind}
use Rattle.rules.proofs.Moves.{idle-first}
use Rattle.rules.proofs.Lowest.{none-holds}
use Rattle.rules.proofs.Bounds.{idle-at}
use Rattle.rules.proofs.Keep.{AllSound, PickIs, pick_is, Allowed, allowed-enters, PutOk, put-ok}
use Rattle.rules.proofs.Shift.{shifted-given, shifted-waiting, shifted-sound, shifted-allowed}

-- a lane that holds a record is in the list
pub held-inside : (ls : List Lane) (j : ℕ) (r : Rec) → first_of (get_or ls j no_lane) ≡ some r → j < length ls
held-inside [] j r h = absurd (false≢true (ap some? h))
held-inside (l ∷ ls) zero r h = zero-lt-suc (length ls)
held-inside (l ∷ ls) (suc j) r h = omega (arith, held-inside ls j r h)

pub served-waiting : (l : Lane) → (served l).waiting ≡ behind l
served-waiting l = served-ind (λ (m : Lane). m.waiting ≡ behind l) l (λ e. refl) (λ r e. refl)

pub served-given : (l : Lane) → (served l).given ≡ l.given
served-given l = served-ind (λ (m : Lane). m.given ≡ l.given) l (λ e. refl) (λ r e. refl)

-- train t's queue of lane k, and how many records the lane holds
abbrev pub queue_at : State → ℕ → ℕ → List round.BareRec
queue_at s k t = queue_of (lane_at s k).waiting t

abbrev pub held_at : State → ℕ → ℕ
held_at s k = held (lane_at s k).waiting

-- one record's part in the order of a train
pub of_one : (t : ℕ) (r : Rec) → of_train t (r ∷ []) ≡ (if eqb r.train t then bare r ∷ [] else [])
unfolding of_train
of_one t r = append-nil (if eqb r.train t then bare r ∷ [] else [])

-- from s, the call c gives the outcome o: what that means for lane k
pub record Passed (k : ℕ) (s : State) (c : Call) (o : Outcome) : Type 0 where
  pub given : (lane_at o.state k).given ≡ (lane_at s k).given
  pub fifo : AllSound s → (t : ℕ) → queue_at s k t ++ of_train t (of_lane k (accepted_in (record { call = c; reply = o.reply }))) ≡ of_train t (of_lane k (sent_in o.reply)) ++ queue_at o.state k t
  pub count : AllSound s → held_at s k + length (of_lane k (accepted_in (record { call = c; reply = o.reply }))) ≡ length (of_lane k (sent_in o.reply)) + held_at o.state k

-- a call that changes nothing and neither accepts a record nor hands one out
unchanged : (k : ℕ) (s : State) (c : Call) (a : Reply) → is_accepted a ≡ false → sent_in a ≡ none → Passed k s c (record { reply = a; state = s })
unfolding of_lane of_train
unchanged k s c a e b = record { given = refl; fifo = λ w t. simp (e, b, append-nil); count = λ w. simp (e, b) (omega arith) }

refused-passed : (k n : ℕ) (s : State) (c : Call) → Passed k s c (no n s)
unfolding is_accepted sent_in
refused-passed k n s c = unchanged k s c (refused n none) refl refl

-- ---- take

take-passed : (k : ℕ) (s : State) (o : Option Pick) → PickIs s o → Passed k s take (take_of s o)
unfolding take_of serve is_accepted sent_in of_lane of_train
take-passed k s none h = refused-passed k 16 s take
take-passed k s (some p) h =
    let j = p.lane in
    let l = lane_at s j in
    let inside = held-inside s.lanes j p.first h.is_first in
    record {
      given = set_cases (λ (m : Lane). m.given ≡ (lane_at s k).given) s.lanes j k (served l) no_lane inside
          (λ e. rw (← e) (served-given l)) (λ n. refl);
      fifo = λ w t. set_cases (λ (m : Lane). queue_at s k t ++ [] ≡ of_train t (if eqb j k then p.first ∷ [] else []) ++ queue_of m.waiting t) s.lanes j k (served l) no_lane inside
          (λ e. rw (← e) (simp (append-nil, served-waiting, eq-eqb j j refl) (queue-hand l.given.longest l.waiting p.first (w j) h.is_first t)))
          (λ n. simp (append-nil, ne_eqb j k n));
      count = λ w. set_cases (λ (m : Lane). held_at s k + 0 ≡ length (if eqb j k then p.first ∷ [] else []) + held m.waiting) s.lanes j k (served l) no_lane inside
          (λ e. rw (← e) (simp (served-waiting, eq-eqb j j refl) (omega (arith, held-hand l.given.longest l.waiting p.first (w j) h.is_first))))
          (λ n. simp (ne_eqb j k n) (omega arith));
    }

-- ---- put

module _ (k : ℕ) (s : State) (j : ℕ) (r : Rec) (before : ℕ) (a : Allowed s j r) where
  -- any new lane j with the old setting, and r behind the old queue
  added : (l : Lane) (v : ℕ) (order : List ℕ) → l.given ≡ (lane_at s j).given → l.waiting ≡ entered (lane_at s j) r
      → Passed k s (put j r.train r.mark r.len) (record { reply = accepted before; state = record { clock = v; lanes = set s.lanes j l; order = order } })
  unfolding is_accepted sent_in offered_in of_lane of_train
  added l v order g q = record {
    given = set_cases (λ (m : Lane). m.given ≡ (lane_at s k).given) s.lanes j k l no_lane (in-range s.lanes j a.has) (λ e. rw (← e) g) (λ n. refl);
    fifo = λ w t. set_cases (λ (m : Lane). queue_at s k t ++ of_train t (if eqb j k then r ∷ [] else []) ≡ queue_of m.waiting t) s.lanes j k l no_lane (in-range s.lanes j a.has)
        (λ e. rw (← e) (simp (eq-eqb j j refl, q, of_one t r) (queue-enter (lane_at s j).given.longest (lane_at s j).waiting r (w j) (allowed-enters s j r a) t)))
        (λ n. simp (ne_eqb j k n, append-nil));
    count = λ w. set_cases (λ (m : Lane). held_at s k + length (if eqb j k then r ∷ [] else []) ≡ 0 + held m.waiting) s.lanes j k l no_lane (in-range s.lanes j a.has)
        (λ e. rw (← e) (simp (eq-eqb j j refl, q) (omega (arith, held-enter (lane_at s j).given.longest (lane_at s j).waiting r (w j) (allowed-enters s j r a)))))
        (λ n. simp (ne_eqb j k n) (omega arith));
  }

  accept-passed : Passed k s (put j r.train r.mark r.len) (record { reply = accepted before; state = accept s j r })
  unfolding accept appended woken
  accept-passed =
      if-ind (λ (x : State). Passed k s (put j r.train r.mark r.len) (record { reply = accepted before; state = x })) (holds (lane_at s j)) _ _
      (λ e. added (appended (lane_at s j) r) _ _ refl refl)
      (λ e. added (woken s.clock (lane_at s j) r) _ _ refl refl)

put-passed : (k : ℕ) (s : State) (j : ℕ) (r : Rec) (o : Option ℕ) → PutOk s j r o → Passed k s (put j r.train r.mark r.len) (put_of s j r o)
unfolding put_of
put-passed k s j r none a =
    let p = accept-passed k (shifted s) j r (ahead s j r.train) (shifted-allowed s j r a) in
    let x : List Rec = of_lane k (accepted_in (record { call = put j r.train r.mark r.len; reply = accepted (ahead s j r.train) })) in
    record {
      given = p.given ∙ shifted-given s k;
      fifo = λ w t. ap (λ (y : Waiting). queue_of y t ++ of_train t x) (sym (shifted-waiting s k)) ∙ p.fifo (shifted-sound s w) t;
      count = λ w. ap (λ (y : Waiting). held y + length x) (sym (shifted-waiting s k)) ∙ p.count (shifted-sound s w);
    }
put-passed k s j r (some n) a = refused-passed k n s (put j r.train r.mark r.len)

-- ---- the other calls

look-passed : (k : ℕ) (s : State) (o : Option Pick) → Passed k s look (look_of s o)
unfolding look_of is_accepted sent_in
look-passed k s none = refused-passed k 16 s look
look-passed k s (some p) = unchanged k s look (seen p.lane p.first.train p.first.mark p.first.len) refl refl

lag-passed : (k : ℕ) (s : State) (j : ℕ) → Passed k s (lag j) (do_lag s j)
unfolding do_lag is_accepted sent_in
lag-passed k s j =
    if-ind (Passed k s (lag j)) (ltb (weight_of (lane_at s j)) 1) _ _ (λ e. refused-passed k 11 s (lag j))
    (λ e. unchanged k s (lag j) (lagged (lag_of s.clock (lane_at s j))) refl refl)

pub restart-lane : (s : State) (k : ℕ) → lane_at (fresh (setup_of s)) k ≡ idle (lane_at s k).given
unfolding fresh
restart-lane s k = idle-at (setup_of s) k ∙ ap idle (get_d_map (λ (l : Lane). l.given) s.lanes k no_lane no_setting refl)

restart-passed : (k : ℕ) (s : State) → Passed k s restart (do_restart s)
unfolding do_restart idle is_accepted sent_in of_lane of_train
restart-passed k s =
    if-ind (Passed k s restart) (any_holds s.lanes) _ _ (λ e. refused-passed k 15 s restart)
    (λ e. record {
      given = ap (λ (l : Lane). l.given) (restart-lane s k);
      fifo = λ w t. simp (append-nil, queue-none (lane_at s k).given.longest (lane_at s k).waiting (w k) (free e) t)
          (sym (ap (λ (l : Lane). queue_of l.waiting t) (restart-lane s k) ∙ queue-nothing (lane_at s k).given.shared t));
      count = λ w. omega (arith, held_none (lane_at s k).given.longest (lane_at s k).waiting (w k) (free e), ap (λ (l : Lane). held l.waiting) (restart-lane s k), held-nothing (lane_at s k).given.shared);
    })
  where
    free : any_holds s.lanes ≡ false → first_of (lane_at s k) ≡ none
    free e = idle-first (first_of (lane_at s k)) (none-holds s.lanes e k)

-- ---- every call

pub step-passed : (k : ℕ) (s : State) (c : Call) → Passed k s c (step s c)
unfolding step do_put do_take do_look do_sets is_accepted sent_in
step-passed k s (put j i m n) = put-passed k s j (record { train = i; mark = m; len = n }) (put_refusal s j (record { train = i; mark = m; len = n })) (put-ok s j (record { train = i; mark = m; len = n }))
step-passed k s take = take-passed k s (picked s) (pick_is s)
step-passed k s look = look-passed k s (picked s)
step-passed k s sets = unchanged k s sets _ refl refl
step-passed k s (lag j) = lag-passed k s j
step-passed k s restart = restart-passed k s
