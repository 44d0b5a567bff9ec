-- A unit is drained and restarted. Assumes nothing.
use Prim.Native.Nat.{ℕ, zero, suc}
use native.Mathlib.Omega.{arith}
use mathlib.Core.Path.{◌≡◌, refl, sym, ap, subst, ◌∙◌}
use mathlib.Core.Bool.{false, false≢true}
use mathlib.Core.List.{List, [], ◌∷◌, ◌++◌}
use mathlib.Core.Option.{Option, none, some}
use lib.ListN.{replicate}
use Rattle.units.specs.Plain.{sum}
use Rattle.units.proofs.Bools.{if-ind}
use Rattle.units.proofs.Lists.{sum-zero}
use Rattle.waiting.specs.Waiting.{held}
use Rattle.waiting.proofs.Laws.{held_none}
use Rattle.rules.specs.State.{Setting, Lane, no_lane, State, first_of, some?, lane_at, any_holds}
use Rattle.rules.specs.Calls.{take, restart, restarted, refused, Pick, picked, take_of, do_take, fresh, step}
use Rattle.rules.specs.Runs.{after}
use Rattle.rules.proofs.Lowest.{none-holds}
use Rattle.rules.proofs.Moves.{idle-first}
use Rattle.rules.proofs.Keep.{AllSound, PickIs, pick_is}
use Rattle.rules.proofs.Sound.{fresh-sound, step-sound}
use Rattle.rules.proofs.Live.{holds-some}
use Rattle.rules.proofs.RangeTake.{held_in}
use Rattle.rules.proofs.Drain.{held_by, take-one, drained}
use Rattle.rules.proofs.AlwaysGood.{reached-good, reached-live}
use Rattle.pages.specs.Device.{Page, Device, fresh_device, in_force_of, DeviceCall, ruled, DeviceReply, answered, settled_device, device_step, device_step_by}
use Rattle.pages.specs.Offers.{DeviceEvent, device_after, device_after_by, device_trace, device_trace_by, event_of, Read, AllRead}
use Rattle.pages.specs.Claims.{RefusedKeeps}
use Rattle.pages.specs.Carried.{HandsOut}
use Rattle.pages.proofs.Run.{Run, fresh-none, step_run, run}
use Rattle.pages.proofs.Answers.{refused-keeps}
use Rattle.pages.proofs.Carried.{restart-yes}
use Rattle.paged.specs.Paged.{EncodesDevice}
use Rattle.scheduler.specs.Chain.{calls_of, Led}
use Rattle.scheduler.specs.Drained as specs
use Rattle.scheduler.specs.Drained.{Drained}
use Rattle.scheduler.proofs.Chains.{run-good, ran, led-run, led-ran}

-- ---- how many are held

free-count : (s : State) → AllSound s → any_holds s.lanes ≡ false → held_by s ≡ 0
free-count s w h =
    sum-zero held_in s.lanes no_lane (λ k. held_none (lane_at s k).given.longest (lane_at s k).waiting (w k) (idle-first (first_of (lane_at s k)) (none-holds s.lanes h k)))

-- a page that comes into force finds none held, and leaves none
settled-count : (s : State) (n : ℕ) (w : Option Page) → AllSound s → held_by (settled_device s n w).state ≡ held_by s
unfolding settled_device in_force_of
settled-count s n none sound = refl
settled-count s n (some p) sound =
    if-ind (λ (d : Device). held_by d.state ≡ held_by s) (any_holds s.lanes) _ _ (λ t. refl)
    (λ t. free-count (fresh p.settings) (fresh-sound p.settings) (fresh-none p.settings) ∙ sym (free-count s sound t))

module _ (gs : List Setting) where
  -- a take while records are held hands one out
  one_out : (past : List DeviceEvent) (d : Device) (n : ℕ) → Run gs past d → held_by d.state ≡ suc n
      → HandsOut (device_step d (ruled take)).reply × (held_by (device_step d (ruled take)).device.state ≡ n)
  unfolding device_step_by
  one_out past d n r h =
      let s = d.state in
      let sound = (reached-good s r.reached).waiting in
      let one = take-one s n sound (reached-live s r.reached) h in (
        record { lane = one.0; train = one.1; mark = one.2; len = one.3; is = ap answered one.4 },
        settled-count (step s take).state d.edition d.waiting (step-sound s take sound) ∙ one.5,
      )

  taken-run : (past : List DeviceEvent) (d : Device) → Run gs past d → Run gs (past ++ (event_of d (ruled take) ∷ [])) (device_step d (ruled take)).device
  unfolding Read
  taken-run past d r = step_run gs past d r (ruled take) tt

  -- each of as many takes as records are held does
  takes-hand-out : (n : ℕ) (before : List DeviceEvent) (d : Device) → Run gs before d → held_by d.state ≡ n
      → (past rest : List DeviceEvent) (e : DeviceEvent) → device_trace d (replicate n (ruled take)) ≡ past ++ e ∷ rest → HandsOut e.reply
  unfolding device_trace_by
  takes-hand-out zero before d r h [] rest e q = let z : ◌≡◌ {A = ℕ} 0 1 = cc in absurd (omega arith)
  takes-hand-out zero before d r h (x ∷ past) rest e q = let z : ◌≡◌ {A = ℕ} 0 1 = cc in absurd (omega arith)
  takes-hand-out (suc n) before d r h [] rest e q =
      let same : event_of d (ruled take) ≡ e = cc in
      subst (λ (y : DeviceEvent). HandsOut y.reply) same (one_out before d n r h).0
  takes-hand-out (suc n) before d r h (x ∷ past) rest e q =
      takes-hand-out n _ (device_step d (ruled take)).device (taken-run before d r) (one_out before d n r h).1 past rest e (cc)

  -- and then none is held
  emptied : (n : ℕ) (before : List DeviceEvent) (d : Device) → Run gs before d → held_by d.state ≡ n → any_holds (device_after d (replicate n (ruled take))).state.lanes ≡ false
  unfolding device_after_by after
  emptied zero before d r h = drained d.state zero r.reached h
  emptied (suc n) before d r h = emptied n _ (device_step d (ruled take)).device (taken-run before d r) (one_out before d n r h).1

-- ---- with nothing held

take_none : (d : Device) → any_holds d.state.lanes ≡ false → (device_step d (ruled take)).reply ≡ answered (refused 16 none)
unfolding device_step_by step do_take take_of
take_none d h = go (picked d.state) (pick_is d.state)
  where
    go : (o : Option Pick) → PickIs d.state o → answered (take_of d.state o).reply ≡ answered (refused 16 none)
    go none p = refl
    go (some x) p = absurd (false≢true (sym h ∙ holds-some d.state.lanes x.lane (ap some? p.is_first)))

-- the one call of a list, and the second of two
call-is : (d : Device) (e : DeviceEvent) (c : DeviceCall) (r : DeviceReply) → device_trace d (calls_of (e ∷ [])) ≡ e ∷ [] → e.call ≡ c → (device_step d c).reply ≡ r → e.reply ≡ r
unfolding device_trace_by
call-is d e c r q is h =
    let same : event_of d e.call ≡ e = cc in
    sym (ap (λ (y : DeviceEvent). y.reply) same) ∙ ap (λ (x : DeviceCall). (device_step d x).reply) is ∙ h

second_is : (gs : List Setting) (past : List DeviceEvent) (d : Device) → Run gs past d → (e f : DeviceEvent) → any_holds d.state.lanes ≡ false
    → device_trace d (calls_of (e ∷ f ∷ [])) ≡ e ∷ f ∷ [] → e.call ≡ ruled take → f.call ≡ ruled restart → f.reply ≡ answered restarted
unfolding device_trace_by RefusedKeeps
second_is gs past d r e f h q first again =
    let left : (device_step d e.call).device ≡ d =
    ap (λ (x : DeviceCall). (device_step d x).device) first ∙ refused-keeps d (run-good gs past d r) (ruled take) 16 none (take_none d h) in
    let rest : device_trace (device_step d e.call).device (calls_of (f ∷ [])) ≡ f ∷ [] = cc in
    call-is d f (ruled restart) (answered restarted) (subst (λ (x : Device). device_trace x (calls_of (f ∷ [])) ≡ f ∷ []) left rest) again (restart-yes d h)

all-takes : (n : ℕ) → AllRead (replicate n (ruled take))
unfolding AllRead Read
all-takes zero = tt
all-takes (suc n) = (tt, all-takes n)

pub drained-table : (gs : List Setting) (es : List DeviceEvent) (t : List ℕ) → Led gs es t → Drained t
unfolding Drained
drained-table gs es t l takes u ch same =
    let d = device_after (fresh_device gs) (calls_of es) in
    let at : Run gs es d = led-run gs es t l in
    let r = led-ran gs es t l takes u ch in
    let n : specs.held_in t ≡ held_by d.state = ap (λ (ls : List Lane). sum (λ (x : Lane). held x.waiting) ls) l.table.core.alike.lanes in
    let are : calls_of takes ≡ replicate (held_by d.state) (ruled take) = same ∙ ap (λ (k : ℕ). replicate k (ruled take)) n in
    let empty = device_after d (replicate (held_by d.state) (ruled take)) in
    let none_held : any_holds empty.state.lanes ≡ false = emptied gs (held_by d.state) es d at refl in
    let left : EncodesDevice u empty = subst (λ (cs : List DeviceCall). EncodesDevice u (device_after d cs)) are r.encodes in
    let end : Run gs (es ++ device_trace d (replicate (held_by d.state) (ruled take))) empty =
    run gs es d (replicate (held_by d.state) (ruled take)) at (all-takes (held_by d.state)) in
    record {
      hands_out = λ past rest e q. takes-hand-out gs (held_by d.state) es d at refl past rest e (sym (ap (device_trace d) are) ∙ r.events ∙ q);
      none_left = λ e v more is. call-is empty e (ruled take) (answered (refused 16 none)) (ran gs _ empty end left more).events is (take_none empty none_held);
      restarts = λ e v more is. call-is empty e (ruled restart) (answered restarted) (ran gs _ empty end left more).events is (restart-yes empty none_held);
      restarts_then = λ e f v more is again. second_is gs _ empty end e f none_held (ran gs _ empty end left more).events is again;
    }
