-- What a host hears of a call on a good table is what the call answered. Assumes nothing.
use Prim.Native.Nat.{ℕ, ◌+◌, ◌^◌, ◌≤◌}
use native.Mathlib.Omega.{arith}
use mathlib.Core.Path.{◌≡◌, refl, ap}
use mathlib.Core.Bool.{Bool, true, false, not, ◌||◌}
use mathlib.Core.Option.{Option, none, some}
use lib.Dec.{ltb}
use lib.IntN.{ℤ, pos, negsuc}
use mir.Syntax.{w64}
use mir.Val.{SFits}
use mir.ValLaws.{to_z-of_z}
use Rattle.std.specs.Prelude.{if◌then◌else◌}
use Rattle.waiting.specs.Waiting.{full, known}
use Rattle.rules.specs.State.{Rec, State, lane_at, setup_of, any_holds}
use Rattle.rules.specs.Setup.{margin}
use Rattle.rules.specs.Good.{Good}
use Rattle.rules.specs.Calls.{Call, put, take, look, sets, lag, restart, Reply, lagged, restarted, no, Pick, picked, put_refusal, put_of, do_put, take_of, do_take, look_of, do_look, do_sets, lag_of, do_lag, do_restart, fresh, step}
use Rattle.engine.specs.LagRange.{Between}
use Rattle.rules.proofs.Figures.{framing-at}
use Rattle.engine.proofs.LagRange.{lag-range}
use Rattle.zenfrosta.specs.Crossing.{code, values}
use Rattle.zenfrosta.specs.Heard.{heard}

-- a reply is heard as it is
abbrev Heard : Call → Reply → Type 0
Heard c x = heard c (code x) (values x) ≡ x

lag-fits : (f : ℕ) (z : ℤ) → f ≤ 64 → Between (2 ^ 32) (2 ^ 32 + margin f) z → SFits w64 z
lag-fits f (pos n) most h = record { sfits = omega arith }
lag-fits f (negsuc n) most h = record { sfits = omega arith }

module _ (s : State) where
  heard-put : (j k m n : ℕ) → Heard (put j k m n) (step s (put j k m n)).reply
  unfolding step do_put put_refusal put_of heard
  heard-put j k m n =
      go (ltb (lane_at s j).given.weight 1) (known (lane_at s j).waiting k) (ltb n 1 || ltb (lane_at s j).given.longest n) (full (lane_at s j).waiting k)
      (lane_at s j).given.shared
    where
      r : Rec
      r = record { train = k; mark = m; len = n }

      -- a refusal's number by the tests in their order
      by : (a i b c d : Bool) → Option ℕ
      by a i b c d = if a then some 11 else (if not i then some 70 else (if b then some 12 else (if c then some (if d then 71 else 13) else none)))

      go : (a i b c d : Bool) → Heard (put j k m n) (put_of s j r (by a i b c d)).reply
      go true i b c d = refl
      go false false b c d = refl
      go false true true c d = refl
      go false true false true true = refl
      go false true false true false = refl
      go false true false false d = refl

  heard-take : Heard take (step s take).reply
  unfolding step do_take take_of heard
  heard-take = go (picked s)
    where
      go : (o : Option Pick) → Heard take (take_of s o).reply
      go none = refl
      go (some p) = refl

  heard-look : Heard look (step s look).reply
  unfolding step do_look look_of heard
  heard-look = go (picked s)
    where
      go : (o : Option Pick) → Heard look (look_of s o).reply
      go none = refl
      go (some p) = refl

  heard-lag : (j : ℕ) → Good s → Heard (lag j) (step s (lag j)).reply
  unfolding step do_lag heard
  heard-lag j g = go (ltb (lane_at s j).given.weight 1)
    where
      go : (b : Bool) → Heard (lag j) (if b then no 11 s else record { reply = lagged (lag_of s.clock (lane_at s j)); state = s }).reply
      go true = refl
      go false = ap lagged (to_z-of_z w64 (lag_of s.clock (lane_at s j)) (lag-fits (lane_at s j).given.framing (lag_of s.clock (lane_at s j)) (framing-at s g.setup j) (lag-range s g j).ends))

  heard-restart : Heard restart (step s restart).reply
  unfolding step do_restart heard
  heard-restart = go (any_holds s.lanes)
    where
      go : (b : Bool) → Heard restart (if b then no 15 s else record { reply = restarted; state = fresh (setup_of s) }).reply
      go true = refl
      go false = refl

  pub heard-back : Good s → (c : Call) → Heard c (step s c).reply
  unfolding step do_sets heard
  heard-back g (put j k m n) = heard-put j k m n
  heard-back g take = heard-take
  heard-back g look = heard-look
  heard-back g sets = refl
  heard-back g (lag j) = heard-lag j g
  heard-back g restart = heard-restart
