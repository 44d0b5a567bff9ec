-- How long a record waits, in figures. Assumes nothing.
use Prim.Native.Nat.{ℕ}
use native.Mathlib.Omega.{arith}
use mathlib.Core.Path.{◌≡◌, refl, ap}
use Rattle.rules.specs.State.{setting_at}
use Rattle.rules.specs.Setup.{framing_of, margin}
use Rattle.rules.specs.Waits.{worst_wait, worst_shared, OutBy, RecordsOut}
use Rattle.rules.specs.Examples.{session_lanes}
use Rattle.rules.specs.WaitExamples.{SessionFigures, Figures, QuietFigures, SharedFigures, HaltFigures, OutThen}
use Rattle.rules.proofs.Computes.{rules}
use Rattle.rules.proofs.Examples.{two_lanes_lem}
use Rattle.rules.proofs.Waits.{records-out}

pub session-figures : SessionFigures
unfolding SessionFigures rules worst_wait
session-figures = refl

pub figures : Figures
unfolding Figures rules worst_wait
figures = (refl, refl)

pub quiet-figures : QuietFigures
unfolding QuietFigures rules
quiet-figures = refl

pub shared-figures : SharedFigures
unfolding SharedFigures rules worst_wait worst_shared
shared-figures = refl

pub halt-figures : HaltFigures
unfolding HaltFigures rules worst_wait
halt-figures = refl

its-framing : framing_of session_lanes ≡ 0
unfolding framing_of
its-framing = refl

its-wait : worst_wait (margin 0) (setting_at session_lanes 0) 0 ≡ 17884
unfolding rules worst_wait
its-wait = refl

pub out-then : OutThen
unfolding OutThen RecordsOut OutBy
out-then calls past since rest r e much =
    (records-out session_lanes two_lanes_lem).0 calls past since rest 0 r 0 e refl (omega (arith, much, its-wait, ap (λ (h : ℕ). worst_wait (margin h) (setting_at session_lanes 0) 0) its-framing))
