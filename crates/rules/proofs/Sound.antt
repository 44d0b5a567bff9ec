-- What waits in each lane stays good, whatever the clocks are. Assumes nothing.
use Prim.Native.Nat.{ℕ}
use mathlib.Core.Path.{sym, subst}
use mathlib.Core.Option.{Option, none, some}
use mathlib.Core.List.{List}
use lib.ListN.{get_or}
use Rattle.units.proofs.Bools.{if-ind}
use Rattle.waiting.proofs.Laws.{good-nothing, good-enter, good-hand}
use Rattle.rules.specs.State.{Rec, Setting, no_lane, State, holds, lane_at, no_setting}
use Rattle.rules.specs.Calls.{Pick, Call, put_refusal, shifted, appended, woken, accept, put_of, served, serve, picked, take_of, idle, fresh, step}
use Rattle.rules.specs.Runs.{after}
use Rattle.rules.proofs.Lists.{set_all}
use Rattle.rules.proofs.Serve.{served-ind}
use Rattle.rules.proofs.Moves.{Sound}
use Rattle.rules.proofs.Bounds.{idle-at}
use Rattle.rules.proofs.Shift.{shifted-sound, shifted-allowed}
use Rattle.rules.proofs.Keep.{AllSound, Allowed, allowed-enters, PutOk, put-ok}
use Rattle.rules.proofs.EachCall.{each-call, each-run}

take-sound : (s : State) (o : Option Pick) → AllSound s → AllSound (take_of s o).state
unfolding take_of serve
take-sound s none w = w
take-sound s (some p) w =
    let l = lane_at s p.lane in
    let g = good-hand l.given.longest l.waiting (w p.lane) in
    set_all Sound s.lanes p.lane (served l) no_lane (served-ind Sound l (λ e. g) (λ r e. g)) w

accept-sound : (s : State) (j : ℕ) (r : Rec) → Allowed s j r → AllSound s → AllSound (accept s j r)
unfolding accept appended woken
accept-sound s j r a w =
    let l = lane_at s j in
    let g = good-enter l.given.longest l.waiting r (w j) (allowed-enters s j r a) in
    if-ind AllSound (holds l) _ _ (λ e. set_all Sound s.lanes j (appended l r) no_lane g w) (λ e. set_all Sound s.lanes j (woken s.clock l r) no_lane g w)

put-sound : (s : State) (j : ℕ) (r : Rec) (o : Option ℕ) → PutOk s j r o → AllSound s → AllSound (put_of s j r o).state
unfolding put_of
put-sound s j r none a w = accept-sound (shifted s) j r (shifted-allowed s j r a) (shifted-sound s w)
put-sound s j r (some n) a w = w

pub fresh-sound : (gs : List Setting) → AllSound (fresh gs)
unfolding fresh idle
fresh-sound gs k = subst Sound (sym (idle-at gs k)) (good-nothing _ (get_or gs k no_setting).shared)

pub step-sound : (s : State) (c : Call) → AllSound s → AllSound (step s c).state
step-sound = each-call AllSound fresh-sound (λ s j r w. put-sound s j r (put_refusal s j r) (put-ok s j r) w) (λ s w. take-sound s (picked s) w)

pub sound-run : (s : State) (cs : List Call) → AllSound s → AllSound (after s cs)
sound-run = each-run AllSound fresh-sound (λ s j r w. put-sound s j r (put_refusal s j r) (put-ok s j r) w) (λ s w. take-sound s (picked s) w)
