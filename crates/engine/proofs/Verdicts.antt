-- A put's refusals in their order, test by test. Assumes nothing.
use Prim.Native.Nat.{ℕ, ◌≤◌, ◌<◌}
use native.Mathlib.Omega.{arith}
use mathlib.Core.Path.{◌≡◌}
use mathlib.Core.Bool.{Bool, true, false, or-true}
use mathlib.Core.Option.{none, some}
use lib.Dec.{ltb}
use borrow.Author.Tests.{lt-ltb, le-ltb}
use Rattle.std.specs.Prelude.{if◌then◌else◌}
use Rattle.waiting.specs.Waiting.{full, known}
use Rattle.rules.specs.State.{Rec, State, Lane, lane_at}
use Rattle.rules.specs.Calls.{put_refusal}

module _ (s : State) (j : ℕ) (r : Rec) where
  abbrev l : Lane
  l = lane_at s j

  pub no-lane : l.given.weight ≡ 0 → some 11 ≡ put_refusal s j r
  unfolding put_refusal
  no-lane w = simp (lt-ltb l.given.weight 1 (omega (arith, w)))

  module _ (w : 0 < l.given.weight) where
    pub no-train : known l.waiting r.train ≡ false → some 70 ≡ put_refusal s j r
    unfolding put_refusal
    no-train t = simp (le-ltb l.given.weight 1 w, t)

    module _ (t : known l.waiting r.train ≡ true) where
      pub empty-record : r.len ≡ 0 → some 12 ≡ put_refusal s j r
      unfolding put_refusal
      empty-record e = simp (le-ltb l.given.weight 1 w, t, lt-ltb r.len 1 (omega (arith, e)))

      pub too_long : l.given.longest < r.len → some 12 ≡ put_refusal s j r
      unfolding put_refusal
      too_long h = simp (le-ltb l.given.weight 1 w, t, lt-ltb l.given.longest r.len h, or-true (ltb r.len 1))

      module _ (some_bytes : 0 < r.len) (fits : r.len ≤ l.given.longest) where
        pub no_room_lem : (b : Bool) → l.given.shared ≡ b → full l.waiting r.train ≡ true → some (if b then 71 else 13) ≡ put_refusal s j r
        unfolding put_refusal
        no_room_lem b e h = simp (le-ltb l.given.weight 1 w, t, le-ltb r.len 1 some_bytes, le-ltb l.given.longest r.len fits, h, e)

        pub allowed : full l.waiting r.train ≡ false → none ≡ put_refusal s j r
        unfolding put_refusal
        allowed h = simp (le-ltb l.given.weight 1 w, t, le-ltb r.len 1 some_bytes, le-ltb l.given.longest r.len fits, h)
