-- On a good state take and look give 16 only where nothing is held. Assumes nothing.
use Prim.Native.Nat.{ℕ}
use mathlib.Core.Path.{◌≡◌}
use mathlib.Core.Bool.{false}
use mathlib.Core.Logic.{◌⊎◌, inl, inr}
use mathlib.Core.Option.{Option, none, some}
use native.Mathlib.Omega.{arith}
use Rattle.rules.specs.State.{holds, lane_at}
use Rattle.rules.specs.Calls.{refused, Pick, picked, take_of, look_of, do_take, do_look, step}
use Rattle.rules.specs.Refusals.{NothingHeld}
use Rattle.rules.proofs.Keep.{PickIs, pick_is}
use Rattle.rules.proofs.Live.{Live, nothing-held}

pub only-nothing-held : NothingHeld
unfolding NothingHeld Live step do_take do_look take_of look_of
only-nothing-held s g h = go (picked s) (pick_is s) h
  where
    live : Live s
    live = g.live

    go : (o : Option Pick) → PickIs s o → ((take_of s o).reply ≡ refused 16 none) ⊎ ((look_of s o).reply ≡ refused 16 none) → (k : ℕ) → holds (lane_at s k) ≡ false
    go none p h = nothing-held s live p
    go (some x) p (inl e) = let z : ◌≡◌ {A = ℕ} 0 1 = cc in absurd (omega arith)
    go (some x) p (inr e) = let z : ◌≡◌ {A = ℕ} 0 1 = cc in absurd (omega arith)
