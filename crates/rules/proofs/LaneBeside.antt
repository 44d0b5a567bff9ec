-- One lane beside its twin by the endless rules, and what a put and a take make of both. Assumes nothing.
use Prim.Native.Nat.{ℕ, ◌+◌, ◌*◌, ◌≤◌}
use native.Mathlib.Omega.{arith}
use mathlib.Core.Path.{◌≡◌, refl, sym, ap, ◌∙◌}
use mathlib.Core.Bool.{true, false, false≢true}
use mathlib.Core.List.{List}
use mathlib.Core.Option.{Option, none, some}
use Rattle.waiting.specs.Waiting.{Waiting, first}
use Rattle.rules.specs.State.{clock_step, Rec, Setting, Lane, charge, rate, group, slot, some?, holds}
use Rattle.rules.specs.Choice.{least_of}
use Rattle.rules.specs.Calls.{appended, woken, timed, behind, served, settled}
use Rattle.rules.specs.Endless.{LaneBeside}
use Rattle.rules.proofs.Moves.{Sound, MayEnter, woken-holds, appended-holds}
use Rattle.rules.proofs.Track.{settled-ge}
use Rattle.rules.proofs.Further.{round-further, Sees}

-- ---- one lane

pub lane-sees : (n v : ℕ) (l m : Lane) → group l.given ≤ 31 → LaneBeside (n * clock_step) v l m → Sees (n * clock_step) l m
unfolding slot
lane-sees n v l m small b = record {
  given = b.given;
  waiting = b.waiting;
  start = λ e. rw (b.given, b.start e) (round-further (group l.given) l.start n small);
}

pub lane-later : (d v v' : ℕ) (l m : Lane) → v ≤ v' → LaneBeside d v l m → LaneBeside d v' l m
lane-later d v v' l m h b = record { given = b.given; waiting = b.waiting; start = b.start; finish = b.finish; idle = λ e. omega (arith, b.idle e) }

timed-beside : (d v x y : ℕ) (g : Setting) (w : Waiting) (o : Option Rec) → first w ≡ o → y ≡ x + d → LaneBeside d v (timed g x w o) (timed g y w o)
unfolding timed
timed-beside d v x y g w none is e = record {
  given = refl;
  waiting = refl;
  start = λ h. absurd (false≢true (sym (ap some? is) ∙ h));
  finish = λ h. absurd (false≢true (sym (ap some? is) ∙ h));
  idle = λ h. omega arith;
}
timed-beside d v x y g w (some r) is e = record {
  given = refl;
  waiting = refl;
  start = λ h. e;
  finish = λ h. omega arith;
  idle = λ h. absurd (false≢true (sym h ∙ ap some? is));
}

pub served-beside : (d v v' : ℕ) (l m : Lane) → holds l ≡ true → LaneBeside d v l m → LaneBeside d v' (served l) (served m)
unfolding served
served-beside d v v' l m h b = rw (b.given, b.waiting) (timed-beside d v' l.finish m.finish l.given (behind l) (first (behind l)) refl (b.finish h))

pub woken-beside : (d v v' : ℕ) (l m : Lane) (r : Rec) → Sound l → MayEnter l r → holds l ≡ false → LaneBeside d v l m → LaneBeside d v' (woken v l r) (woken (v + d) m r)
unfolding woken
woken-beside d v v' l m r w a h b = record {
  given = b.given;
  waiting = rw (b.given, b.waiting);
  start = λ e. b.idle h;
  finish = λ e. omega (arith, b.idle h, ap (λ (g : Setting). charge g r.len * rate g) b.given);
  idle = λ e. absurd (false≢true (sym e ∙ woken-holds v l r w a h));
}

pub appended-beside : (d v : ℕ) (l m : Lane) (r : Rec) → Sound l → MayEnter l r → holds l ≡ true → LaneBeside d v l m → LaneBeside d v (appended l r) (appended m r)
unfolding appended
appended-beside d v l m r w a h b = record {
  given = b.given;
  waiting = rw (b.given, b.waiting);
  start = λ e. b.start h;
  finish = λ e. b.finish h;
  idle = λ e. absurd (false≢true (sym e ∙ appended-holds l r w a h));
}

pub settled_up : (v : ℕ) (ls : List Lane) → v ≤ settled v ls
unfolding settled
settled_up v ls = settled-ge v (least_of holds ls)
