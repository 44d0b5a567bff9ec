-- The rules beside the endless rules: sets, lag and restart. Assumes nothing.
use Prim.Native.Nat.{ℕ, ◌+◌, ◌*◌, max}
use mathlib.Core.Path.{◌≡◌, refl}
use mathlib.Core.Bool.{Bool, true, false}
use mathlib.Core.List.{List}
use lib.Dec.{ltb}
use lib.IntN.{sub_ℕ}
use lib.ListN.{length, get_or}
use Rattle.std.specs.Prelude.{if◌then◌else◌}
use Rattle.rules.specs.State.{clock_step, Lane, no_lane, State, holds, lane_at, setup_of, any_holds}
use Rattle.rules.specs.Sets.{ready, ineligible_ready, eligible_blocked, ineligible_blocked, groups}
use Rattle.rules.specs.Calls.{lagged, restarted, no, do_sets, lag_of, do_lag, fresh, do_restart}
use Rattle.rules.specs.Endless.{LaneBeside, Beside}
use Rattle.rules.proofs.Further.{sub-further, ByPlace, any_same, setup-same}
use Rattle.rules.proofs.FurtherSets.{word_same, ready-same, ineligible-ready-same, eligible-blocked-same, ineligible-blocked-same}
use Rattle.rules.proofs.Beside as beside
use Rattle.rules.proofs.Beside.{same_beside, Small, Same}

module _ (n : ℕ) (s : State) (ms : List Lane) (z : length ms ≡ length s.lanes)
    (lane : (k : ℕ) → LaneBeside (n * clock_step) s.clock (lane_at s k) (get_or ms k no_lane)) (small : Small s)
  where
    abbrev d : ℕ
    d = n * clock_step

    abbrev t : State
    t = record { clock = s.clock + d; lanes = ms; order = s.order }

    here : Beside n s t
    here = beside.here n s ms z lane small

    sees : ByPlace d s.lanes ms
    sees = beside.sees n s ms z lane small

    holds-t : (k : ℕ) → holds (get_or ms k no_lane) ≡ holds (lane_at s k)
    holds-t = beside.holds-t n s ms z lane small

    -- ---- sets, lag, restart

    pub sets-built : Same (do_sets s) (do_sets t)
    unfolding do_sets
    sets-built = record {
      reply = rw (
        word_same (ready (s.clock + d) ms) (ready s.clock s.lanes) groups (ready-same d s.clock s.lanes ms z sees),
        word_same (ineligible_ready (s.clock + d) ms) (ineligible_ready s.clock s.lanes) groups (ineligible-ready-same d s.clock s.lanes ms z sees),
        word_same (eligible_blocked (s.clock + d) ms) (eligible_blocked s.clock s.lanes) groups (eligible-blocked-same d s.clock s.lanes ms z sees),
        word_same (ineligible_blocked (s.clock + d) ms) (ineligible_blocked s.clock s.lanes) groups (ineligible-blocked-same d s.clock s.lanes ms z sees),
      );
      by = n;
      beside = here;
    }

    lag-same : (j : ℕ) → lag_of (s.clock + d) (get_or ms j no_lane) ≡ lag_of s.clock (lane_at s j)
    unfolding lag_of
    lag-same j = rw (holds-t j) (go (holds (lane_at s j)) refl)
      where
        l : Lane
        l = lane_at s j

        m : Lane
        m = get_or ms j no_lane

        go : (b : Bool) → holds l ≡ b → sub_ℕ (s.clock + d) (if b then m.start else max m.finish (s.clock + d)) ≡ sub_ℕ s.clock (if b then l.start else max l.finish s.clock)
        go true e = rw ((lane j).start e) (sub-further s.clock l.start d)
        go false e = rw ((lane j).idle e) (sub-further s.clock (max l.finish s.clock) d)

    pub lag-built : (j : ℕ) → Same (do_lag s j) (do_lag t j)
    unfolding do_lag
    lag-built j = rw (lag-same j, (lane j).given) (go (ltb (lane_at s j).given.weight 1))
      where
        go : (b : Bool)
            → Same (if b then no 11 s else record { reply = lagged (lag_of s.clock (lane_at s j)); state = s }) (if b then no 11 t else record { reply = lagged (lag_of s.clock (lane_at s j)); state = t })
        go true = record { reply = refl; by = n; beside = here }
        go false = record { reply = refl; by = n; beside = here }

    pub restart-built : Same (do_restart s) (do_restart t)
    unfolding do_restart
    restart-built = rw (any_same d s.lanes ms z sees, setup-same d s.lanes ms z sees) (go (any_holds s.lanes))
      where
        u : State
        u = fresh (setup_of s)

        go : (b : Bool) → Same (if b then no 15 s else record { reply = restarted; state = u }) (if b then no 15 t else record { reply = restarted; state = u })
        go true = record { reply = refl; by = n; beside = here }
        go false = record { reply = refl; by = 0; beside = same_beside u }
