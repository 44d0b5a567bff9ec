-- A put's stores come to what the rules' `accept` gives. Assumes nothing.
use Prim.Native.Nat.{ℕ, ◌^◌, ◌<◌, max}
use native.Mathlib.Omega.{arith}
use mathlib.Core.Path.{◌≡◌, sym, ap, ◌∙◌}
use mathlib.Core.Bool.{true, false}
use mathlib.Core.List.{List, [], ◌∷◌, ◌++◌}
use lib.Dec.{ltb}
use lib.ListN.{set}
use borrow.Author.Tests.{ltb-true, ltb-false}
use Rattle.units.specs.Numbers.{round_down}
use Rattle.std.specs.Prelude.{if◌then◌else◌}
use Rattle.units.proofs.Bools.{if-ind}
use Rattle.rules.specs.State.{Rec, Lane, State, group, slot, start_r, holds, lane_at, any_holds}
use Rattle.rules.specs.Calls.{appended, woken, accept}
use Rattle.rules.proofs.Claim.{in-range}
use Rattle.rules.proofs.Keep.{Allowed}
use Rattle.table.specs.Layout.{cells, row_at}
use Rattle.table.specs.Means.{meant, with_clock, with_lane}
use Rattle.table.specs.declared.LaneRow.{LaneRow}
use Rattle.table.proofs.Rows.{weight-present}
use Rattle.table.proofs.Footprint.{lanes-many}
use Rattle.choice.specs.Known.{Known}
use Rattle.engine.proofs.RowIs.{RowIs, row_is}

-- ---- a lane that a put is allowed to

module _ (t : List ℕ) (known : Known t) (k : ℕ) (r : Rec) (a : Allowed (meant t) k r) where
  pub put_small : k < 64
  put_small = omega (arith, in-range (meant t).lanes k a.has, lanes-many t)

  pub put-row : RowIs (lane_at (meant t) k) (row_at (cells t) k)
  put-row = row_is t known.sound k put_small (weight-present (cells t) _ k put_small a.has)

-- ---- the two forms of `accept`

pub accept-busy : (s : State) (k : ℕ) (r : Rec) → holds (lane_at s k) ≡ true → accept s k r ≡ with_lane s k (appended (lane_at s k) r)
unfolding accept
accept-busy s k r e = simp e

module _ (s : State) (k : ℕ) (r : Rec) (e : holds (lane_at s k) ≡ false) where
  abbrev pub joined : State
  joined = record { clock = s.clock; lanes = set s.lanes k (woken s.clock (lane_at s k) r); order = s.order ++ (k ∷ []) }

  pub accept-beside : any_holds s.lanes ≡ true → accept s k r ≡ joined
  unfolding accept
  accept-beside h = simp (e, h)

  pub accept-alone : (x : ℕ) → any_holds s.lanes ≡ false → x ≡ max s.clock (start_r (woken s.clock (lane_at s k) r)) → accept s k r ≡ with_clock joined x
  unfolding accept
  accept-alone x h q =
      let R : ℕ = start_r (woken s.clock (lane_at s k) r) in
      simp (e, h) (ap (λ (v : ℕ). with_clock joined v) (jump s.clock R ∙ sym q))
    where
      jump : (v u : ℕ) → (if ltb v u then u else v) ≡ max v u
      jump v u = if-ind (λ (x : ℕ). x ≡ max v u) (ltb v u) u v (λ t. let lt = ltb-true v u t in omega arith) (λ t. let le = ltb-false v u t in omega arith)

-- R of a lane that wakes, by its row
pub woken-start : (v : ℕ) (l : Lane) (r : LaneRow) (e : Rec) (i : ℕ) → RowIs l r → i ≡ group l.given → holds l ≡ false → start_r (woken v l e) ≡ round_down (2 ^ i) (max r.time.0 v)
unfolding woken slot
woken-start v l r e i is grouped idle = rw (grouped, is.idle idle)
