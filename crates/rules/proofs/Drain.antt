-- No take is refused for the clock (R3.15), so a line can be emptied and begun anew: from any state that calls make from a fresh one, as many takes as records
-- are held hand each out, and restart is accepted then. Assumes nothing.
use Prim.Native.Nat.{ℕ, zero, suc, ◌<◌}
use native.Mathlib.Omega.{arith}
use mathlib.Core.Path.{◌≡◌, refl, ap}
use mathlib.Core.Bool.{true, false}
use mathlib.Core.Option.{Option, none, some}
use lib.ListN.{replicate}
use Rattle.units.specs.Plain.{sum}
use Rattle.units.proofs.Bools.{not-passed}
use Rattle.units.proofs.Lists.{sum-set, sum-zero}
use Rattle.waiting.specs.Waiting.{held}
use Rattle.waiting.proofs.Laws.{held-hand, held_none}
use Rattle.rules.specs.State.{no_lane, State, first_of, holds, lane_at, any_holds}
use Rattle.rules.specs.Calls.{take, taken, served, serve, Pick, picked, take_of, do_take, step}
use Rattle.rules.specs.Runs.{after}
use Rattle.rules.proofs.Lists.{le-sum}
use Rattle.rules.proofs.Moves.{idle-first, busy-first}
use Rattle.rules.proofs.Keep.{AllSound, PickIs, pick_is}
use Rattle.rules.proofs.Queues.{held-inside, served-waiting}
use Rattle.rules.proofs.RangeTake.{held_in}
use Rattle.rules.proofs.Live.{Live, nothing-held, some_holds}
use Rattle.rules.proofs.AlwaysGood.{Reached, step-reached, reached-good, reached-live}

abbrev pub held_by : State → ℕ
held_by s = sum held_in s.lanes

-- one lane holds at most what all hold
held-some : (s : State) → AllSound s → (k : ℕ) → holds (lane_at s k) ≡ true → 0 < held_by s
held-some s w k e =
    let x = busy-first (first_of (lane_at s k)) e in
    omega (arith, le-sum held_in s.lanes no_lane k (held-inside s.lanes k x.0 x.1), held-hand (lane_at s k).given.longest (lane_at s k).waiting x.0 (w k) x.1)

none_held : (s : State) → AllSound s → ((k : ℕ) → holds (lane_at s k) ≡ false) → held_by s ≡ 0
none_held s w h = sum-zero held_in s.lanes no_lane (λ k. held_none (lane_at s k).given.longest (lane_at s k).waiting (w k) (idle-first (first_of (lane_at s k)) (h k)))

-- a take while records are held hands one out
pub take-one : (s : State) (n : ℕ) → AllSound s → Live s → held_by s ≡ suc n → (j k m l : ℕ) × ((step s take).reply ≡ taken j k m l) × (held_by (step s take).state ≡ n)
unfolding step do_take take_of serve
take-one s n w live e = go (picked s) (pick_is s)
  where
    go : (o : Option Pick) → PickIs s o → (j k m l : ℕ) × ((take_of s o).reply ≡ taken j k m l) × (held_by (take_of s o).state ≡ n)
    go none h = absurd (omega (arith, none_held s w (nothing-held s live h)))
    go (some p) h = (
      p.lane,
      p.first.train,
      p.first.mark,
      p.first.len,
      refl,
      omega (
        arith,
        sum-set held_in s.lanes p.lane (served (lane_at s p.lane)) no_lane (held-inside s.lanes p.lane p.first h.is_first),
        held-hand (lane_at s p.lane).given.longest (lane_at s p.lane).waiting p.first (w p.lane) h.is_first,
        ap held (served-waiting (lane_at s p.lane)),
      ),
    )

-- as many takes as records are held leave none
pub drained : (s : State) (n : ℕ) → Reached s → held_by s ≡ n → any_holds (after s (replicate n take)).lanes ≡ false
unfolding after
drained s zero r e = not-passed (any_holds s.lanes) (λ h. let i = some_holds s.lanes h in omega (arith, held-some s (reached-good s r).waiting i.0 i.1))
drained s (suc n) r e = drained (step s take).state n (step-reached s take r) (take-one s n (reached-good s r).waiting (reached-live s r) e).5
