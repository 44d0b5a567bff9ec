-- A lane is kept as its setting says, shared or not, whatever the clocks are. Assumes nothing.
use Prim.Native.Nat.{ℕ}
use mathlib.Core.Path.{◌≡◌, sym, subst, ◌∙◌}
use mathlib.Core.Option.{Option, none, some}
use mathlib.Core.List.{List}
use Rattle.units.proofs.Bools.{if-ind}
use Rattle.waiting.specs.Waiting.{is_shared}
use Rattle.waiting.proofs.Sharing.{shared-nothing, shared-enter, shared-hand}
use Rattle.rules.specs.State.{Rec, Setting, setting_at, Lane, no_lane, State, holds, lane_at}
use Rattle.rules.specs.Calls.{Pick, Call, put_refusal, shifted, appended, woken, accept, put_of, served, serve, picked, take_of, idle, fresh, step}
use Rattle.rules.specs.Runs.{after}
use Rattle.rules.proofs.Lists.{set_all}
use Rattle.rules.proofs.Serve.{served-ind}
use Rattle.rules.proofs.Bounds.{idle-at}
use Rattle.rules.proofs.Shift.{shifted-given, shifted-waiting}
use Rattle.rules.proofs.EachCall.{each-call, each-run}

abbrev pub Kind : Lane → Type 0
Kind l = is_shared l.waiting ≡ l.given.shared

abbrev pub AllKind : State → Type 0
AllKind s = (k : ℕ) → Kind (lane_at s k)

take-kind : (s : State) (o : Option Pick) → AllKind s → AllKind (take_of s o).state
unfolding take_of serve
take-kind s none w = w
take-kind s (some p) w =
    let l = lane_at s p.lane in
    let g = shared-hand l.given.longest l.waiting ∙ w p.lane in
    set_all Kind s.lanes p.lane (served l) no_lane (served-ind Kind l (λ e. g) (λ r e. g)) w

accept-kind : (s : State) (j : ℕ) (r : Rec) → AllKind s → AllKind (accept s j r)
unfolding accept appended woken
accept-kind s j r w =
    let l = lane_at s j in
    let g = shared-enter l.given.longest l.waiting r ∙ w j in
    if-ind AllKind (holds l) _ _ (λ e. set_all Kind s.lanes j (appended l r) no_lane g w) (λ e. set_all Kind s.lanes j (woken s.clock l r) no_lane g w)

put-kind : (s : State) (j : ℕ) (r : Rec) (o : Option ℕ) → AllKind s → AllKind (put_of s j r o).state
unfolding put_of
put-kind s j r none w = accept-kind (shifted s) j r (λ k. rw (shifted-given s k, shifted-waiting s k) (w k))
put-kind s j r (some n) w = w

pub fresh-kind : (gs : List Setting) → AllKind (fresh gs)
unfolding fresh idle
fresh-kind gs k = subst Kind (sym (idle-at gs k)) (shared-nothing (setting_at gs k).shared)

pub step-kind : (s : State) (c : Call) → AllKind s → AllKind (step s c).state
step-kind = each-call AllKind fresh-kind (λ s j r w. put-kind s j r (put_refusal s j r) w) (λ s w. take-kind s (picked s) w)

pub kind-run : (s : State) (cs : List Call) → AllKind s → AllKind (after s cs)
kind-run = each-run AllKind fresh-kind (λ s j r w. put-kind s j r (put_refusal s j r) w) (λ s w. take-kind s (picked s) w)
