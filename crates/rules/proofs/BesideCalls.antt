-- The rules beside the endless rules: the shift of a put, and every call. Assumes nothing.
use Prim.Native.Nat.{ℕ, ◌+◌, ◌-◌, ◌*◌, ◌/◌, ◌≤◌}
use native.Mathlib.Omega.{arith}
use mathlib.Core.Path.{◌≡◌, refl, sym, ap, subst, ◌∙◌}
use mathlib.Core.Bool.{Bool, true, false}
use mathlib.Core.Option.{Option, none, some}
use lib.Dec.{leb}
use lib.ListN.{length, length-map}
use borrow.Author.Tests.{leb-true}
use Rattle.std.specs.Prelude.{if◌then◌else◌}
use Rattle.waiting.specs.Waiting.{Waiting, queue_of}
use Rattle.rules.specs.State.{clock_far, clock_step, clock_kept, Rec, State, holds, lane_at}
use Rattle.rules.specs.Calls.{Call, put, take, look, sets, lag, restart, accepted, put_refusal, taken_off, lowered, lower_all, shifted, accept, put_of, do_put, do_take, do_look, do_sets, do_lag, do_restart, step}
use Rattle.rules.specs.Endless.{endless_put_of, endless_put, endless, LaneBeside, Beside}
use Rattle.rules.proofs.Moves.{Sound, MayEnter}
use Rattle.rules.proofs.Keep.{AllSound, allowed-enters, PutOk, put-ok}
use Rattle.rules.proofs.Shift.{lowered-at, shifted-given, shifted-sound, shifted-allowed, taken_off-is, taken_off-le}
use Rattle.rules.proofs.Beside.{Same, Small, accept-built, look-built, made_of, refusal-same, take-built}
use Rattle.rules.proofs.BesideAnswers.{lag-built, restart-built, sets-built}

-- ---- the shift

-- what the shift asks of a state: no holding lane's S or F is below K. Every good state has it (proofs/GoodShift.antt).
abbrev pub Above : State → Type 0
Above s = (k : ℕ) → holds (lane_at s k) ≡ true → (taken_off s.clock ≤ (lane_at s k).start) × (taken_off s.clock ≤ (lane_at s k).finish)

module _ (n : ℕ) (s t : State) (b : Beside n s t) where
  lowered-beside : (k : ℕ) → k * clock_step ≤ s.clock
      → ((i : ℕ) → holds (lane_at s i) ≡ true → (k * clock_step ≤ (lane_at s i).start) × (k * clock_step ≤ (lane_at s i).finish))
      → Beside (n + k) (lower_all (k * clock_step) s) t
  unfolding lower_all lowered
  lowered-beside k le low = record {
    clock = omega (arith, b.clock);
    order = b.order;
    size = b.size ∙ sym (length-map s.lanes (lowered (k * clock_step)));
    lane = λ i. rw (lowered-at (k * clock_step) s i) (one i);
  }
    where
      one : (i : ℕ) → LaneBeside ((n + k) * clock_step) (s.clock - k * clock_step) (lowered (k * clock_step) (lane_at s i)) (lane_at t i)
      one i =
          let x = b.lane i in
          record {
            given = x.given;
            waiting = x.waiting;
            start = λ e. omega (arith, x.start e, low i e);
            finish = λ e. omega (arith, x.finish e, low i e);
            idle = λ e. omega (arith, x.idle e);
          }

  pub shifted-beside : (clock_far ≤ s.clock → Above s) → (m : ℕ) × Beside m (shifted s) t
  unfolding shifted
  shifted-beside above = go (leb clock_far s.clock) refl
    where
      go : (x : Bool) → leb clock_far s.clock ≡ x → (m : ℕ) × Beside m (if x then lower_all (taken_off s.clock) s else s) t
      go false e = (n, b)
      go true e =
          let far : clock_far ≤ s.clock = leb-true clock_far s.clock e in
          let k : ℕ = (s.clock - clock_kept) / clock_step in
          let is = taken_off-is s.clock in (
            n + k,
            subst (λ (d : ℕ). Beside (n + k) (lower_all d s) t) (sym is)
                (lowered-beside k (omega (arith, is, taken_off-le s.clock (omega arith))) (λ i h. omega (arith, is, above far i h))),
          )

-- ---- any call

small-shifted : (s : State) → Small s → Small (shifted s)
small-shifted s h k = rw (shifted-given s k) (h k)

module _ (n : ℕ) (s t : State) (b : Beside n s t) (small : Small s) where
  accept-beside : (j : ℕ) (r : Rec) → Sound (lane_at s j) → MayEnter (lane_at s j) r → Beside n (accept s j r) (accept t j r)
  accept-beside j r w a = subst (λ (x : State). Beside n (accept s j r) (accept x j r)) (sym (made_of n s t b)) (accept-built n s t.lanes b.size b.lane small j r w a)

module _ (n : ℕ) (s t : State) (b : Beside n s t) (small : Small s) (above : clock_far ≤ s.clock → Above s) (sound : AllSound s) where
  put-beside : (j : ℕ) (r : Rec) → Same (do_put s j r) (endless_put t j r)
  unfolding do_put endless_put put_of endless_put_of
  put-beside j r = rw refusal (go (put_refusal s j r) (put-ok s j r))
    where
      refusal : put_refusal t j r ≡ put_refusal s j r
      refusal =
          subst (λ (x : State). put_refusal x j r ≡ put_refusal s j r) (sym (made_of n s t b)) (refusal-same n s t.lanes b.size b.lane small j r)

      go : (o : Option ℕ) → PutOk s j r o → Same (put_of s j r o) (endless_put_of t j r o)
      go (some x) a = record { reply = refl; by = n; beside = b }
      go none a =
          let u = shifted-beside n s t b above in
          record {
            reply = ap (λ (w : Waiting). accepted (length (queue_of w r.train))) (sym (b.lane j).waiting);
            by = u.0;
            beside = accept-beside u.0 (shifted s) t u.1 (small-shifted s small) j r (shifted-sound s sound j) (allowed-enters (shifted s) j r (shifted-allowed s j r a));
          }

  -- every call on two states beside each other
  pub step-beside : (c : Call) → Same (step s c) (endless t c)
  unfolding step endless
  step-beside (put j k m x) = put-beside j (record { train = k; mark = m; len = x })
  step-beside take = subst (λ (x : State). Same (do_take s) (do_take x)) (sym (made_of n s t b)) (take-built n s t.lanes b.size b.lane small)
  step-beside look = subst (λ (x : State). Same (do_look s) (do_look x)) (sym (made_of n s t b)) (look-built n s t.lanes b.size b.lane small)
  step-beside sets = subst (λ (x : State). Same (do_sets s) (do_sets x)) (sym (made_of n s t b)) (sets-built n s t.lanes b.size b.lane small)
  step-beside (lag j) = subst (λ (x : State). Same (do_lag s j) (do_lag x j)) (sym (made_of n s t b)) (lag-built n s t.lanes b.size b.lane small j)
  step-beside restart = subst (λ (x : State). Same (do_restart s) (do_restart x)) (sym (made_of n s t b)) (restart-built n s t.lanes b.size b.lane small)
