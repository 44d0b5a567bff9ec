-- Lag lies between its ends, in every good state. Assumes nothing.
use Prim.Native.Nat.{ℕ, ◌+◌, ◌*◌, ◌^◌, ◌≤◌, ◌<◌, max}
use native.Mathlib.Omega.{arith}
use mathlib.Core.Path.{◌≡◌, refl, sym}
use mathlib.Core.Bool.{Bool, true, false, false≢true}
use mathlib.Core.Logic.{⊎_elim}
use mathlib.Core.Option.{Option, none, some}
use lib.IntN.{ℤ, pos, negsuc, sub_ℕ}
use borrow.Author.Tests.{lt-ltb, le-ltb}
use Rattle.units.proofs.Round.{round-le}
use Rattle.rules.specs.State.{Rec, Lane, State, slot, some?, first_of, holds, lane_at}
use Rattle.rules.specs.Setup.{margin}
use Rattle.rules.specs.Good.{Times, Good}
use Rattle.rules.specs.Calls.{lag_of}
use Rattle.rules.proofs.Lane.{slot-pos}
use Rattle.rules.proofs.Figures.{slot_at}
use Rattle.words.proofs.Runs.{le-or-lt}
use Rattle.engine.specs.LagRange.{Between, LagRange}

-- a difference lies above −low if the second is below the first and low, and below high if the first is below the second and high
sub-between : (v t low high : ℕ) → t < v + low → v < t + high → Between low high (sub_ℕ v t)
sub-between v t low high a b =
    ⊎_elim
    (λ (h : t ≤ v). rw (le-ltb v t h) (omega arith))
    (λ (h : v < t). rw (lt-ltb v t h) (omega arith))
    (le-or-lt t v)

-- wider ends
between-wider : (l h l' h' : ℕ) (z : ℤ) → l ≤ l' → h ≤ h' → Between l h z → Between l' h' z
between-wider l h l' h' (pos n) a b c = omega arith
between-wider l h l' h' (negsuc n) a b c = omega arith

holding-lag : (v : ℕ) (l : Lane) (o : Option Rec) → first_of l ≡ o → Times v l o → some? o ≡ true → Between (2 * slot l.given) (2 * slot l.given + margin l.given.framing) (lag_of v l)
unfolding lag_of
holding-lag v l none e n h = absurd (false≢true h)
holding-lag v l (some r) e n h = simp e (sub-between v l.start (2 * slot l.given) (2 * slot l.given + margin l.given.framing) n.1 (omega (arith, n.2, round-le (slot l.given) l.start)))

idle-lag : (v : ℕ) (l : Lane) (o : Option Rec) → first_of l ≡ o → Times v l o → some? o ≡ false → Between (2 * slot l.given) 1 (lag_of v l)
unfolding lag_of
idle-lag v l none e n h = simp e (sub-between v (max l.finish v) (2 * slot l.given) 1 (omega (arith, n, slot-pos l.given)) (omega arith))
idle-lag v l (some r) e n h = absurd (false≢true (sym h))

module _ (s : State) (g : Good s) (k : ℕ) where
  abbrev l : Lane
  l = lane_at s k

  two-slots : 2 * slot l.given ≤ 2 ^ 32
  two-slots = omega (arith, slot_at s g.setup k)

  holding-range : holds l ≡ true → Between (2 * slot l.given) (2 * slot l.given + margin l.given.framing) (lag_of s.clock l)
  holding-range = holding-lag s.clock l (first_of l) refl (g.numbers k)

  idle-range : holds l ≡ false → Between (2 * slot l.given) 1 (lag_of s.clock l)
  idle-range = idle-lag s.clock l (first_of l) refl (g.numbers k)

  any-range : (b : Bool) → holds l ≡ b → Between (2 ^ 32) (2 ^ 32 + margin l.given.framing) (lag_of s.clock l)
  any-range true h = between-wider (2 * slot l.given) (2 * slot l.given + margin l.given.framing) (2 ^ 32) (2 ^ 32 + margin l.given.framing) (lag_of s.clock l) two-slots (omega (arith, two-slots)) (holding-range h)
  any-range false h = between-wider (2 * slot l.given) 1 (2 ^ 32) (2 ^ 32 + margin l.given.framing) (lag_of s.clock l) two-slots (omega arith) (idle-range h)

  pub lag-range : LagRange s k
  lag-range = record { holding = holding-range; idle = idle-range; ends = any-range (holds l) refl }
