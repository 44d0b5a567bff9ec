-- How long one record waits, over lists with offers of pages: in a shared lane, from a point at which lag was asked, and counted in takes. Assumes nothing.
use Prim.Native.Nat.{ℕ, ◌+◌, ◌*◌, ◌≤◌, ◌<◌}
use native.Mathlib.Omega.{arith}
use native.Mathlib.Nat.{mul-le-mul_left}
use native.Mathlib.Decide.{dec_le}
use mathlib.Core.Path.{◌≡◌, ap, subst}
use mathlib.Core.Bool.{false}
use mathlib.Core.List.{List, [], ◌∷◌, ◌++◌}
use lib.ListN.{length}
use Rattle.rules.specs.State.{Rec, Setting, setting_at, charge, rate, slot}
use Rattle.rules.specs.Setup.{Setup, framing_of, margin}
use Rattle.rules.specs.Calls.{fresh}
use Rattle.rules.specs.Runs.{Event, trace, sent_in, of_lane, sent_of, of_train}
use Rattle.rules.specs.Fair.{charged_to, bytes_sent, bytes_sent_of}
use Rattle.rules.specs.Waits.{lags, NotYet, Out, worst_wait, worst_shared, FairFrom, takes_in}
use Rattle.rules.proofs.Bounds.{SetupOk}
use Rattle.rules.proofs.Waits.{rated}
use Rattle.rules.proofs.SharedWaits.{stretch-most, worst-shared}
use Rattle.rules.proofs.Lagging.{fair-from}
use Rattle.rules.proofs.Takes.{stretch-takes}
use Rattle.pages.specs.Device.{fresh_device, DeviceCall}
use Rattle.pages.specs.Offers.{DeviceEvent, device_trace, AllRead, of_rule, of_rules, in_force}
use Rattle.pages.specs.Claims.{InOnePart, FairPages, Demand3Pages}
use Rattle.pages.specs.Waits.{accepts_now, lags_now, WaitsSharedPages, OutBySharedPages, WaitsFromPages, WaitsFromByPages, OutByTakesPages}
use Rattle.pages.proofs.Stretch.{in-one-part}
use Rattle.pages.proofs.Fair.{demand3-pages}
use Rattle.pages.proofs.OneRecord.{joined, still-train, held, same-force, waits-of, out-more-of, train-inside, own-most, out_of}

module _ (gs : List Setting) (s : Setup gs) (cs : List DeviceCall) (a : AllRead cs) (past since rest : List DeviceEvent) (k : ℕ) (r : Rec) (n : ℕ)
    (e : device_trace (fresh_device gs) cs ≡ past ++ accepts_now k r n ∷ since ++ rest)
  where
    abbrev t : ℕ
    t = r.train

    abbrev g : List Setting
    g = in_force gs past

    abbrev begun : List DeviceEvent
    begun = past ++ accepts_now k r n ∷ []

    there : device_trace (fresh_device gs) cs ≡ begun ++ since ++ rest
    there = joined gs s cs a past since rest k r n e

    same : NotYet k r n (of_rules since) → in_force gs begun ≡ g
    same few = same-force gs s cs a past since rest k r n e few

    -- ---- a shared lane

    most-of : NotYet k r n (of_rules since) → bytes_sent_of g k (of_rules since) ≤ (1 + (setting_at g k).framing) * ((8 * n + 21) * (setting_at g k).longest)
    unfolding InOnePart
    most-of few =
        let x = in-one-part gs s cs a begun since rest there k (held gs s cs a past since rest k r n e few) in
        let h = in_force gs begun in
        subst (λ (y : List Setting). bytes_sent_of y k (of_rules since) ≤ (1 + (setting_at y k).framing) * ((8 * n + 21) * (setting_at y k).longest)) (same few)
        (stretch-most h (x.before ++ x.during) (trace (fresh h) x.before) (of_rules since) [] x.events k t n (train-inside gs s cs a past since rest k r n e)
        (x.trains k t (still-train gs s cs a past since rest k r n e few)) few)

    shared_of_lem : (M : List Setting → ℕ) → FairPages M → NotYet k r n (of_rules since) → bytes_sent g (of_rules since) < worst_shared (M g) (setting_at g k) n
    shared_of_lem M fair few =
        worst-shared (M g) (setting_at g k) n (bytes_sent g (of_rules since))
        (omega (arith, waits-of gs s cs a past since rest k r n e M fair few, mul-le-mul_left (rate (setting_at g k)) (most-of few)))

    out-shared-of : (M : List Setting → ℕ) → FairPages M → worst_shared (M g) (setting_at g k) n ≤ bytes_sent g (of_rules since) → Out k r (of_rules past) (of_rules since)
    out-shared-of M fair much =
        elim (dec_le (length (of_train t (sent_of k (of_rules since)))) n) [
          | yes few ↦ absurd (omega (arith, much, shared_of_lem M fair few))
          | no many ↦ out-more-of gs s cs a past since rest k r n e (omega arith)
        ]

    -- ---- counted in takes

    takes_of : NotYet k r n (of_rules since) → takes_in (of_rules since) ≤ bytes_sent g (of_rules since)
    unfolding InOnePart
    takes_of few =
        let h = held gs s cs a past since rest k r n e few in
        let x = in-one-part gs s cs a begun since rest there k h in
        let y = in_force gs begun in
        subst (λ (z : List Setting). takes_in (of_rules since) ≤ bytes_sent z (of_rules since)) (same few)
        (stretch-takes y x.setup (x.before ++ x.during) (trace (fresh y) x.before) (of_rules since) [] x.events k (x.holding k h))

    out-takes-of : (setting_at g k).shared ≡ false → worst_wait (margin (framing_of g)) (setting_at g k) n ≤ takes_in (of_rules since) → Out k r (of_rules past) (of_rules since)
    unfolding Demand3Pages
    out-takes-of alone much =
        elim (dec_le (length (of_train t (sent_of k (of_rules since)))) n) [
          | yes few ↦ out_of gs s cs a past since rest k r n e alone (λ (gs : List Setting). margin (framing_of gs)) demand3-pages (omega (arith, much, takes_of few))
          | no many ↦ out-more-of gs s cs a past since rest k r n e (omega arith)
        ]

-- ---- what lag adds

module _ (gs : List Setting) (s : Setup gs) (cs : List DeviceCall) (r-all : AllRead cs) (past since rest : List DeviceEvent) (k a b : ℕ) (r : Rec) (n : ℕ)
    (e : device_trace (fresh_device gs) cs ≡ past ++ accepts_now k r n ∷ lags_now k a b ∷ since ++ rest) (few : NotYet k r n (of_rules since))
  where
    abbrev all : List DeviceEvent
    all = lags_now k a b ∷ since

    abbrev force : List Setting
    force = in_force gs past

    -- a lag sends nothing
    few-all : NotYet k r n (of_rules all)
    unfolding of_rules of_rule sent_of sent_in of_lane
    few-all = few

    from-of : (M : List Setting → ℕ) → ((g : List Setting) → Setup g → SetupOk (M g) g)
        → 1024 * bytes_sent force (of_rules since) + a < rate (setting_at force k) * bytes_sent_of force k (of_rules since) + 2 * slot (setting_at force k) + M force + b
    unfolding InOnePart FairFrom of_rules of_rule
    from-of M ok =
        let h = held gs s cs r-all past all rest k r n e few-all in
        let begun = past ++ accepts_now k r n ∷ [] in
        let x = in-one-part gs s cs r-all begun all rest (joined gs s cs r-all past all rest k r n e) k h in
        let y = in_force gs begun in
        subst (λ (z : List Setting). 1024 * bytes_sent z (of_rules since) + a < rate (setting_at z k) * bytes_sent_of z k (of_rules since) + 2 * slot (setting_at z k) + M z + b)
        (same-force gs s cs r-all past all rest k r n e few-all)
        (fair-from (M y) y x.setup (ok y x.setup) (x.before ++ x.during) (trace (fresh y) x.before) (of_rules since) [] k a b x.events
        (λ p q pq. x.holding k h (lags k a b ∷ p) q (ap (λ (es : List Event). lags k a b ∷ es) pq)))

    own_of : (setting_at force k).shared ≡ false → bytes_sent_of force k (of_rules since) ≤ n * charge (setting_at force k) (setting_at force k).longest
    unfolding of_rules of_rule sent_in charged_to
    own_of alone = omega (arith, own-most gs s cs r-all past all rest k r n e alone few-all)

-- ---- the claims

pub waits-shared-pages : (M : List Setting → ℕ) → FairPages M → WaitsSharedPages M
unfolding WaitsSharedPages
waits-shared-pages M fair gs s cs a past since rest k r n e few = shared_of_lem gs s cs a past since rest k r n e M fair few

pub out-by-shared-pages : (M : List Setting → ℕ) → FairPages M → OutBySharedPages M
unfolding OutBySharedPages
out-by-shared-pages M fair gs s cs a past since rest k r n e much = out-shared-of gs s cs a past since rest k r n e M fair much

pub out-by-takes-pages : OutByTakesPages
unfolding OutByTakesPages
out-by-takes-pages gs s cs a past since rest k r n e alone much = out-takes-of gs s cs a past since rest k r n e alone much

pub waits-from-pages : (M : List Setting → ℕ) → ((g : List Setting) → Setup g → SetupOk (M g) g) → WaitsFromPages M
unfolding WaitsFromPages
waits-from-pages M ok gs s cs l past since rest k a b r n e few = from-of gs s cs l past since rest k a b r n e few M ok

pub waits-from-by-pages : (M : List Setting → ℕ) → ((g : List Setting) → Setup g → SetupOk (M g) g) → WaitsFromByPages M
unfolding WaitsFromByPages
waits-from-by-pages M ok gs s cs l past since rest k a b r n e alone few =
    let g = in_force gs past in
    omega (
      arith,
      from-of gs s cs l past since rest k a b r n e few M ok,
      rated (setting_at g k) n (bytes_sent_of g k (of_rules since)) (own_of gs s cs l past since rest k a b r n e few alone),
    )
