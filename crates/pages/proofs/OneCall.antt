-- One call: a waiting page, and which calls can bring it into force. Assumes nothing.
use Prim.Native.Nat.{ℕ, zero, suc, ◌≤◌}
use native.Mathlib.Omega.{arith}
use mathlib.Core.Path.{◌≡◌, refl, sym, ap, ◌∙◌}
use mathlib.Core.Bool.{Bool, true, false, false≢true}
use mathlib.Core.Option.{Option, none, some}
use lib.Dec.{leb, ltb}
use lib.ListN.{length, replicate}
use Rattle.units.proofs.Bools.{if-ind}
use Rattle.units.proofs.Lists.{sum-zero}
use Rattle.rules.specs.State.{Rec, no_lane, State, first_of, some?, holds, lane_at, any_holds}
use Rattle.rules.specs.Setup.{Setup}
use Rattle.rules.specs.Calls.{Call, put, take, look, sets, lag, restart, Outcome, put_refusal, put_of, do_put, Pick, picked, look_of, do_look, do_sets, do_lag, do_restart, step}
use Rattle.rules.specs.Runs.{after, Moving, sent_in, of_lane}
use Rattle.rules.proofs.Live.{Live, some_holds, holds-some}
use Rattle.rules.proofs.Queues.{step-passed, held_at}
use Rattle.waiting.proofs.Laws.{held_none, held-hand}
use Rattle.rules.proofs.Keep.{AllSound}
use Rattle.rules.proofs.Sound.{step-sound}
use Rattle.rules.proofs.Moves.{idle-first}
use Rattle.rules.proofs.Lowest.{none-holds}
use Rattle.rules.proofs.Range.{held_in}
use Rattle.rules.proofs.Drain.{held_by, take-one, drained}
use Rattle.rules.proofs.AlwaysGood.{Reached, step-reached, reached-good}
use Rattle.pages.specs.Device.{Page, Device, in_force_of, ruled, offer, unread, DeviceOutcome, settled_device, newest_edition, do_offer, device_step_by}
use Rattle.pages.specs.Offers.{device_after, Read, device_after_by}
use Rattle.pages.specs.Claims.{GoodPage}
use Rattle.pages.specs.OneCall.{KeepsPage, OnlyTake}
use Rattle.pages.proofs.Run.{above}

-- ---- the rule for a waiting page

abbrev Kept : Device → Type 0
Kept d = GoodPage d d.waiting

rule-keeps : (s t : State) (n : ℕ) (w : Option Page) → GoodPage (record { state = t; edition = n; waiting = w }) w → Kept (settled_device s n w)
unfolding settled_device GoodPage in_force_of
rule-keeps s t n none g = tt
rule-keeps s t n (some p) g = if-ind Kept (any_holds s.lanes) _ _ (λ h. (h, g.1, g.2)) (λ h. tt)

offer-keeps-page : (d : Device) → Kept d → (p : Page) → Setup p.settings → Kept (do_offer d p).device
unfolding do_offer GoodPage in_force_of
offer-keeps-page d g p s =
    if-ind (λ (o : DeviceOutcome). Kept o.device) (leb p.edition (newest_edition d.edition d.waiting)) _ _ (λ t. g)
    (λ t. if-ind (λ (o : DeviceOutcome). Kept o.device) (any_holds d.state.lanes) _ _ (λ u. (u, s, above d.edition p.edition d.waiting t)) (λ u. tt))

pub keeps-page : KeepsPage
unfolding KeepsPage device_step_by Read GoodPage
keeps-page d g (ruled c) r = rule-keeps (step d.state c).state d.state d.edition d.waiting g
keeps-page d g (offer p) r = offer-keeps-page d g p r
keeps-page d g (unread n at) r = g

-- ---- only take

put-sends : (s : State) (j : ℕ) (x : Rec) (o : Option ℕ) → sent_in (put_of s j x o).reply ≡ none
unfolding put_of sent_in
put-sends s j x none = refl
put-sends s j x (some n) = refl

look-sends : (s : State) (o : Option Pick) → sent_in (look_of s o).reply ≡ none
unfolding look_of sent_in
look-sends s none = refl
look-sends s (some p) = refl

sends_none : (s : State) (c : Call) → (c ≡ take → ⊥) → sent_in (step s c).reply ≡ none
unfolding step do_put do_look do_sets do_lag do_restart sent_in
sends_none s (put j k m n) h = put-sends s j (record { train = k; mark = m; len = n }) (put_refusal s j (record { train = k; mark = m; len = n }))
sends_none s take h = absurd (h refl)
sends_none s look h = look-sends s (picked s)
sends_none s sets h = refl
sends_none s (lag j) h = if-ind (λ (o : Outcome). sent_in o.reply ≡ none) (ltb (lane_at s j).given.weight 1) _ _ (λ e. refl) (λ e. refl)
sends_none s restart h = if-ind (λ (o : Outcome). sent_in o.reply ≡ none) (any_holds s.lanes) _ _ (λ e. refl) (λ e. refl)

more-held : (s t : State) (k : ℕ) → AllSound s → AllSound t → held_at s k ≤ held_at t k → holds (lane_at s k) ≡ true → holds (lane_at t k) ≡ true
more-held s t k v w h e = go (first_of (lane_at s k)) (first_of (lane_at t k)) refl refl
  where
    go : (x y : Option Rec) → first_of (lane_at s k) ≡ x → first_of (lane_at t k) ≡ y → holds (lane_at t k) ≡ true
    go x (some r) p q = ap some? q
    go none none p q = absurd (false≢true (sym (ap some? p) ∙ e))
    go (some r) none p q =
        absurd (omega (
          arith,
          h,
          held-hand (lane_at s k).given.longest (lane_at s k).waiting r (v k) p,
          held_none (lane_at t k).given.longest (lane_at t k).waiting (w k) q,
        ))

-- a call other than take leaves a record held
still-held : (s : State) (c : Call) → AllSound s → (c ≡ take → ⊥) → any_holds s.lanes ≡ true → any_holds (step s c).state.lanes ≡ true
unfolding of_lane
still-held s c w h e =
    let o = some_holds s.lanes e in
    let k = o.0 in
    let s' = (step s c).state in
    let none-sent : length (of_lane k (sent_in (step s c).reply)) ≡ 0 = ap (λ (m : Option Moving). length (of_lane k m)) (sends_none s c h) in
    holds-some s'.lanes k (more-held s s' k w (step-sound s c w) (omega (arith, (step-passed k s c).count w, none-sent)) o.1)

settled-held : (s : State) (n : ℕ) (w : Option Page) (d : Device) → GoodPage d w → (any_holds d.state.lanes ≡ true → any_holds s.lanes ≡ true)
    → settled_device s n w ≡ record { state = s; edition = n; waiting = w }
unfolding settled_device GoodPage
settled-held s n none d g h = refl
settled-held s n (some p) d g h = simp (h g.0)

pub only-take : OnlyTake
unfolding OnlyTake device_step_by
only-take d w g c h = settled-held (step d.state c).state d.edition d.waiting d g (still-held d.state c w h)

-- ---- a waiting page does come into force: by as many takes as records are held

held_one : (s : State) (n : ℕ) → AllSound s → held_by s ≡ suc n → any_holds s.lanes ≡ true
held_one s n w e = go (any_holds s.lanes) refl
  where
    go : (b : Bool) → any_holds s.lanes ≡ b → any_holds s.lanes ≡ true
    go true h = h
    go false h =
        absurd (omega (
          arith,
          e,
          sum-zero held_in s.lanes no_lane (λ k. held_none (lane_at s k).given.longest (lane_at s k).waiting (w k) (idle-first (first_of (lane_at s k)) (none-holds s.lanes h k))),
        ))

pub comes-in-force : (d : Device) (p : Page) (n : ℕ) → Reached d.state → d.waiting ≡ some p → held_by d.state ≡ suc n
    → device_after d (replicate (suc n) (ruled take)) ≡ in_force_of p
unfolding Live after device_after_by device_step_by settled_device
comes-in-force d p zero r w e =
    let one = take-one d.state zero (reached-good d.state r).waiting (reached-good d.state r).live e in
    let free : any_holds (step d.state take).state.lanes ≡ false = drained (step d.state take).state zero (step-reached d.state take r) one.5 in
    simp (w, free)
comes-in-force d p (suc n) r w e =
    let s' = (step d.state take).state in
    let one = take-one d.state (suc n) (reached-good d.state r).waiting (reached-good d.state r).live e in
    let any_held : any_holds s'.lanes ≡ true = held_one s' n (step-sound d.state take (reached-good d.state r).waiting) one.5 in
    let next : settled_device s' d.edition d.waiting ≡ record { state = s'; edition = d.edition; waiting = some p } = simp (w, any_held) in
    ap (λ (x : Device). device_after x (replicate (suc n) (ruled take))) next
    ∙ comes-in-force (record { state = s'; edition = d.edition; waiting = some p }) p n (step-reached d.state take r) refl one.5
