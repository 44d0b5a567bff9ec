-- What every call keeps of the clock's range (proofs/Range.antt), and that a take keeps it. Assumes nothing.
use Prim.Native.Nat.{ℕ, suc, ◌+◌, ◌*◌, ◌^◌, ◌≤◌, ◌<◌}
use native.Mathlib.Omega.{arith}
use native.Mathlib.Nat.{le_refl}
use mathlib.Core.Path.{◌≡◌, sym, ap, subst, ◌∙◌}
use mathlib.Core.Bool.{Bool, true}
use mathlib.Core.Option.{Option, none, some}
use mathlib.Core.List.{List}
use lib.Dec.{ltb}
use lib.ListN.{length, get_or, set, length-set}
use Rattle.std.specs.Prelude.{if◌then◌else◌}
use Rattle.units.specs.Plain.{sum}
use Rattle.waiting.specs.Waiting.{Waiting, held}
use Rattle.waiting.proofs.Laws.{held-hand}
use Rattle.rules.specs.State.{clock_far, lane_depth, Lane, State, charge, slot, start_r, holds, no_lane, lane_at}
use Rattle.rules.specs.Choice.{least_of}
use Rattle.rules.specs.Calls.{Pick, served, settled, settled_at, serve}
use Rattle.units.proofs.Round.{round-le}
use Rattle.units.proofs.Bools.{if-ind}
use Rattle.units.proofs.Lists.{sum-set}
use Rattle.rules.proofs.Lists.{set_all}
use Rattle.rules.proofs.Lane.{charge-mono}
use Rattle.rules.proofs.Claim.{LaneOk, Queued, in-range}
use Rattle.rules.proofs.Serve.{served-ok}
use Rattle.rules.proofs.Lowest.{Low, lowest}
use Rattle.rules.proofs.Keep.{Picked}
use Rattle.rules.proofs.Queues.{served-waiting, served-given}

abbrev pub held_in : Lane → ℕ
held_in l = held l.waiting

pub record LaneRange (l : Lane) : Type 0 where
  pub slot : slot l.given ≤ 2 ^ 31
  pub room : held_in l ≤ lane_depth

pub record Range (s : State) : Type 0 where
  pub lane : (k : ℕ) → LaneRange (lane_at s k)
  pub few : length s.lanes ≤ 64
  pub clock : s.clock + sum held_in s.lanes * 2 ^ 32 < clock_far + 2 ^ 44

-- what the invariant says of each lane alone (proofs/Claim.antt)
abbrev pub LanesOk : ℕ → State → Type 0
LanesOk M s = (k : ℕ) → LaneOk M s.clock (lane_at s k)

-- ---- take

settle-lt : (v b : ℕ) (ls : List Lane) (o : Option ℕ) → Low ls o → v < b → ((k : ℕ) → holds (get_or ls k no_lane) ≡ true → start_r (get_or ls k no_lane) < b) → settled_at v o < b
unfolding settled_at
settle-lt v b ls none h p f = p
settle-lt v b ls (some r) h p f = if-ind (λ (x : ℕ). x < b) (ltb v r) r v (λ e. omega (arith, f h.at h.is, h.start)) (λ e. p)

module _ (M : ℕ) (small : M < 2 ^ 32) (s : State) (p : Pick) (ok : LanesOk M s) (h : Picked s p) (r : Range s) where
  abbrev j : ℕ
  j = p.lane

  abbrev lj : Lane
  lj = lane_at s j

  abbrev ls' : List Lane
  ls' = set s.lanes j (served lj)

  q : Queued lj.given lj.start lj.finish (some p.first)
  q = subst (Queued lj.given lj.start lj.finish) h.is_first (ok j).queued

  inside : j < length s.lanes
  inside = in-range s.lanes j q.0

  lanes-ok : (k : ℕ) → LaneOk M s.clock (get_or ls' k no_lane)
  lanes-ok = set_all (LaneOk M s.clock) s.lanes j (served lj) no_lane (served-ok M s.clock s.clock lj p.first (ok j) q h.start (le_refl s.clock)) ok

  -- one record fewer is held
  one_less : held_in lj ≡ suc (held_in (served lj))
  one_less = held-hand lj.given.longest lj.waiting p.first (ok j).waiting h.is_first ∙ ap (λ (x : Waiting). suc (held x)) (sym (served-waiting lj))

  lanes-range : (k : ℕ) → LaneRange (get_or ls' k no_lane)
  lanes-range = set_all LaneRange s.lanes j (served lj) no_lane
      (record { slot = rw (served-given lj) (r.lane j).slot; room = omega (arith, (r.lane j).room, one_less) }) r.lane

  starts-lt : (k : ℕ) → holds (get_or ls' k no_lane) ≡ true → start_r (get_or ls' k no_lane) < s.clock + 2 ^ 32
  starts-lt k e =
      omega (
        arith,
        subst (λ (b : Bool). (if b then (get_or ls' k no_lane).start else (get_or ls' k no_lane).finish) < s.clock + 2 * slot (get_or ls' k no_lane).given) e (lanes-ok k).below,
        (lanes-range k).slot,
        round-le (slot (get_or ls' k no_lane).given) (get_or ls' k no_lane).start,
      )

  pub take_range : Range (serve s j p.first)
  unfolding serve settled
  take_range = record {
    lane = lanes-range;
    few = omega (arith, length-set s.lanes j (served lj), r.few);
    clock = omega (
      arith,
      r.clock,
      settle-lt (s.clock + 1024 * charge lj.given p.first.len) (s.clock + 2 ^ 32) ls' (least_of holds ls') (lowest ls')
          (omega (arith, (ok j).short, charge-mono lj.given p.first.len lj.given.longest q.2, small)) starts-lt,
      sum-set held_in s.lanes j (served lj) no_lane inside,
      one_less,
    );
  }
