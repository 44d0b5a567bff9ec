-- Laws of a lane by its one clock word: each change that a call makes to a lane is a new clock word and a change of what waits. Assumes nothing.
use mathlib.Core.Path.{◌≡◌, refl, ap}
use mathlib.Core.Bool.{true, false≢true}
use Prim.Native.Nat.{ℕ, ◌+◌, ◌*◌, max}
use mathlib.Core.Option.{Option, none, some}
use Rattle.rules.specs.State.{Rec, Setting, charge, rate, some?}
use Rattle.waiting.specs.Waiting.{Waiting, none_waiting, first, enter, hand_out}
use Rattle.waiting.proofs.Laws.{first-nothing}
use Rattle.rules.specs.Calls as rules
use Rattle.rules.specs.Calls.{appended, woken, served, idle}
use Rattle.table.specs.Means.{timed_by_word}

-- ---- its parts

given_by_lem : (g : Setting) (x : ℕ) (w : Waiting) (o : Option Rec) → (rules.timed g x w o).given ≡ g
unfolding rules.timed
given_by_lem g x w none = refl
given_by_lem g x w (some r) = refl

waiting-by : (g : Setting) (x : ℕ) (w : Waiting) (o : Option Rec) → (rules.timed g x w o).waiting ≡ w
unfolding rules.timed
waiting-by g x w none = refl
waiting-by g x w (some r) = refl

start-by : (g : Setting) (x : ℕ) (w : Waiting) (o : Option Rec) → some? o ≡ true → (rules.timed g x w o).start ≡ x
unfolding rules.timed
start-by g x w none h = absurd (false≢true h)
start-by g x w (some r) h = refl

module _ (g : Setting) (x : ℕ) (w : Waiting) where
  pub timed-given : (timed_by_word g x w).given ≡ g
  unfolding timed_by_word
  timed-given = given_by_lem g x w (first w)

  pub timed-waiting : (timed_by_word g x w).waiting ≡ w
  unfolding timed_by_word
  timed-waiting = waiting-by g x w (first w)

  -- a holding lane's clock word is its S, and an idle one's is its F
  pub timed-start : some? (first w) ≡ true → (timed_by_word g x w).start ≡ x
  unfolding timed_by_word
  timed-start = start-by g x w (first w)

  pub timed-none : first w ≡ none → timed_by_word g x w ≡ record { given = g; start = 0; finish = x; waiting = w }
  unfolding timed_by_word rules.timed
  timed-none e = rw e

  pub timed-some : (r : Rec) → first w ≡ some r → timed_by_word g x w ≡ record { given = g; start = x; finish = x + charge g r.len * rate g; waiting = w }
  unfolding timed_by_word rules.timed
  timed-some r e = rw e

-- ---- changed by a call

appended-by : (g : Setting) (x : ℕ) (w : Waiting) (o : Option Rec) (r : Rec) → appended (rules.timed g x w o) r ≡ rules.timed g x (enter g.longest w r) o
unfolding rules.timed appended
appended-by g x w none r = refl
appended-by g x w (some y) r = refl

-- put on a holding lane: its first record stays
pub timed-appended : (g : Setting) (x : ℕ) (w : Waiting) (r : Rec) → first (enter g.longest w r) ≡ first w → appended (timed_by_word g x w) r ≡ timed_by_word g x (enter g.longest w r)
unfolding timed_by_word
timed-appended g x w r e = rw e (appended-by g x w (first w) r)

-- put on an idle lane
pub timed-woken : (g : Setting) (v x : ℕ) (w : Waiting) (r : Rec) → first w ≡ none → first (enter g.longest w r) ≡ some r → woken v (timed_by_word g x w) r ≡ timed_by_word g (max x v) (enter g.longest w r)
unfolding woken
timed-woken g v x w r None-first e = rw (timed-none g x w None-first, timed-some g (max x v) (enter g.longest w r) r e)

-- take: the new clock word is F, whether the lane holds more or not
pub timed-served : (g : Setting) (x : ℕ) (w : Waiting) (r : Rec) → first w ≡ some r → served (timed_by_word g x w) ≡ timed_by_word g (x + charge g r.len * rate g) (hand_out g.longest w)
unfolding timed_by_word served
timed-served g x w r e = ap served (timed-some g x w r e)

-- fresh
pub timed-idle : (g : Setting) → idle g ≡ timed_by_word g 0 (none_waiting g.shared)
unfolding idle
timed-idle g = rw (timed-none g 0 (none_waiting g.shared) (first-nothing g.shared))
