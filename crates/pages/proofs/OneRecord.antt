-- One record that was put, over lists with offers of pages: its lane holds it, its train keeps its order, and its lane waits no longer than it may. Assumes
-- nothing.
use Prim.Native.Nat.{ℕ, ◌+◌, ◌*◌, ◌≤◌, ◌<◌}
use native.Mathlib.Omega.{arith}
use native.Mathlib.Nat.{mul-le-mul_right}
use native.Mathlib.Decide.{dec_le}
use mathlib.Core.Path.{◌≡◌, refl, sym, ap, subst, ◌∙◌}
use mathlib.Core.Bool.{true, false}
use mathlib.Core.Option.{Option, none, some}
use mathlib.Core.List.{List, [], ◌∷◌, ◌++◌, append_assoc, append-nil}
use lib.ListN.{length, drop, length-append}
use Rattle.rounds.specs.Round as round
use Rattle.rounds.specs.Round.{train_count}
use Rattle.waiting.specs.Waiting.{bare, known}
use Rattle.waiting.proofs.Sharing.{known-train, known-inside}
use Rattle.rules.specs.State.{Rec, Setting, setting_at, State, charge, rate, slot, lane_at}
use Rattle.rules.specs.Setup.{Setup}
use Rattle.rules.specs.Calls.{put, accepted, put_refusal, put_of, do_put, fresh, step}
use Rattle.rules.specs.Runs.{Event, after, trace, accepted_of, sent_of, of_train}
use Rattle.rules.specs.Fair.{bytes_sent, bytes_sent_of}
use Rattle.rules.specs.Even.{HoldingTrain}
use Rattle.rules.specs.Waits.{accepts, queued, NotYet, Out, worst_wait}
use Rattle.rules.proofs.Keep.{PutOk, put-ok, allowed-enters}
use Rattle.rules.proofs.Sound.{fresh-sound, sound-run}
use Rattle.rules.proofs.Kind.{fresh-kind, kind-run}
use Rattle.rules.proofs.SameSetup.{setting-lane, setup_kept, fresh-setup}
use Rattle.rules.proofs.Queues.{queue_at}
use Rattle.rules.proofs.AlwaysGood.{reached-good}
use Rattle.rules.proofs.Runs.{split}
use Rattle.rules.proofs.Counts.{drop-front, goes_on, accepted-count, sent-count, put-accepts, put-sends, turn}
use Rattle.rules.proofs.Sent.{Fit, sent-fit, fit-train, bytes_most}
use Rattle.rules.proofs.Waits.{worst-is, rated}
use Rattle.pages.specs.Device.{Page, Device, fresh_device, DeviceCall, ruled, answered, device_step, device_step_by}
use Rattle.pages.specs.Offers.{DeviceEvent, event_of, device_trace, device_trace_by, AllRead, of_rule, of_rules, Held, in_force}
use Rattle.pages.specs.Claims.{HeldThroughout, OnePart, InOnePart, FairPages, SaysAheadPages, FreeAtChange}
use Rattle.pages.specs.Waits.{accepts_now}
use Rattle.pages.proofs.Events.{plain-append}
use Rattle.pages.proofs.Parts.{part-order}
use Rattle.pages.proofs.Run.{Run}
use Rattle.pages.proofs.Stretch.{stretch-of, in-one-part}
use Rattle.pages.proofs.Fair.{lane-held}
use Rattle.pages.proofs.Answers.{free-at-change}
use Rattle.pages.proofs.Ahead.{same-reply, says-ahead-pages}

module _ (gs : List Setting) (s : Setup gs) (cs : List DeviceCall) (a : AllRead cs) (past since rest : List DeviceEvent) (k : ℕ) (r : Rec) (n : ℕ)
    (e : device_trace (fresh_device gs) cs ≡ past ++ accepts_now k r n ∷ since ++ rest)
  where
    abbrev t : ℕ
    t = r.train

    abbrev pub front : List DeviceEvent
    front = past ++ accepts_now k r n ∷ []

    abbrev pub g : List Setting
    g = in_force gs past

    behind : device_trace (fresh_device gs) cs ≡ past ++ (accepts_now k r n ∷ (since ++ rest))
    behind = e ∙ append_assoc past (accepts_now k r n ∷ since) rest

    pub joined : device_trace (fresh_device gs) cs ≡ front ++ since ++ rest
    joined = e ∙ ap (λ (es : List DeviceEvent). es ++ rest) (sym (append_assoc past (accepts_now k r n ∷ []) since))

    told : length (of_train t (accepted_of k (of_rules past))) ≡ length (of_train t (sent_of k (of_rules past))) + n
    unfolding SaysAheadPages
    told = (says-ahead-pages gs s cs a past (since ++ rest) k t r.mark r.len n behind).0

    rules-front : (p : List DeviceEvent) → of_rules (past ++ accepts_now k r n ∷ p) ≡ of_rules past ++ accepts k r n ∷ of_rules p
    unfolding of_rules of_rule
    rules-front p = plain-append past (accepts_now k r n ∷ p)

    -- ---- its lane holds a record

    pub still-train : NotYet k r n (of_rules since) → (p q : List DeviceEvent) → p ++ q ≡ since → HoldingTrain k t (of_rules (front ++ p))
    still-train few p q h =
        subst (HoldingTrain k t) (sym (ap of_rules (append_assoc past (accepts_now k r n ∷ []) p) ∙ rules-front p))
        (omega (
          arith,
          few,
          told,
          sent-count k t (of_rules past) (accepts k r n ∷ of_rules p),
          ap (λ (x : List Rec). length (of_train t x)) (put-sends k r n (of_rules p)),
          accepted-count k t (of_rules past) (accepts k r n ∷ of_rules p),
          ap length (put-accepts k r n (of_rules p)),
          ap (λ (es : List DeviceEvent). length (of_train t (sent_of k (of_rules es)))) (sym h)
              ∙ ap (λ (es : List Event). length (of_train t (sent_of k es))) (plain-append p q)
              ∙ sent-count k t (of_rules p) (of_rules q),
        ))

    pub held : NotYet k r n (of_rules since) → HeldThroughout k front since
    held few = lane-held gs s cs a front since rest joined k t (still-train few)

    pub same-force : NotYet k r n (of_rules since) → in_force gs front ≡ g
    unfolding FreeAtChange
    same-force few =
        ap (λ (p : Page). p.settings)
        ((free-at-change gs s cs a past (since ++ rest) (accepts_now k r n) behind).0 k (subst (Held k) (append-nil front) (held few [] since refl)))

    pub waits-of : (M : List Setting → ℕ) → FairPages M → NotYet k r n (of_rules since)
        → 1024 * bytes_sent g (of_rules since) < rate (setting_at g k) * bytes_sent_of g k (of_rules since) + 4 * slot (setting_at g k) + M g
    unfolding FairPages
    waits-of M fair few =
        subst (λ (x : List Setting). 1024 * bytes_sent x (of_rules since) < rate (setting_at x k) * bytes_sent_of x k (of_rules since) + 4 * slot (setting_at x k) + M x) (same-force few)
        (fair gs s cs a front since rest joined k (held few))

    -- ---- the order of its train

    abbrev order-at : List Event → Type 0
    order-at es = of_train t (accepted_of k es) ≡ of_train t (sent_of k es) ++ queued k t es

    queued-at : (es : List DeviceEvent) (more : List DeviceEvent) → device_trace (fresh_device gs) cs ≡ es ++ more → order-at (of_rules es)
    queued-at es more f =
        let x = stretch-of gs s cs a es [] more (f ∙ ap (λ (y : List DeviceEvent). y ++ more) (sym (append-nil es))) in
        let o = part-order (of_rules es) x.device.state x.run.part k t in
        o ∙ ap (λ (q : List round.BareRec). of_train t (sent_of k (of_rules es)) ++ q)
        (sym (ap (drop (length (of_train t (sent_of k (of_rules es))))) o ∙ drop-front (of_train t (sent_of k (of_rules es))) (queue_at x.device.state k t)))

    pub turn-of : (length (queued k t (of_rules past)) ≡ n)
        × (of_train t (sent_of k (of_rules since)) ++ queued k t (of_rules (past ++ accepts_now k r n ∷ since)) ≡ queued k t (of_rules past) ++ bare r ∷ of_train t (accepted_of k (of_rules since)))
    turn-of =
        let before = queued-at past (accepts_now k r n ∷ (since ++ rest)) behind in
        let later = queued-at (past ++ accepts_now k r n ∷ since) rest e in
        let q' = queued k t (of_rules (past ++ accepts_now k r n ∷ since)) in (
          omega (arith, told, ap length before, length-append (of_train t (sent_of k (of_rules past))) (queued k t (of_rules past))),
          turn k r n (of_rules past) (of_rules since) (queued k t (of_rules past)) q' before
              (subst (λ (es : List Event). of_train t (accepted_of k es) ≡ of_train t (sent_of k es) ++ q') (rules-front since) later),
        )

    -- more records of its train than were queued before it were handed out
    pub out-more-of : n < length (of_train t (sent_of k (of_rules since))) → Out k r (of_rules past) (of_rules since)
    out-more-of many =
        goes_on (of_train t (sent_of k (of_rules since))) (queued k t (of_rules (past ++ accepts_now k r n ∷ since))) (queued k t (of_rules past)) (of_train t (accepted_of k (of_rules since))) (bare r)
        turn-of.1 (omega (arith, many, turn-of.0))

    -- the unit that took it: its lane knows the train
    record Took : Type 0 where
      device : Device
      run : Run gs past device
      knows : known (lane_at device.state k).waiting t ≡ true

    took : Took
    unfolding device_trace_by device_step_by step do_put put_of
    took =
        let y = stretch-of gs s cs a past (accepts_now k r n ∷ []) (since ++ rest) (behind ∙ sym (append_assoc past (accepts_now k r n ∷ []) (since ++ rest))) in
        record { device = y.device; run = y.run; knows = go y.device y.calls y.is }
      where
        put-known : (d : State) → (o : Option ℕ) → PutOk d k r o → (put_of d k r o).reply ≡ accepted n → known (lane_at d k).waiting t ≡ true
        put-known d none ok f = (allowed-enters d k r ok).train
        put-known d (some c) ok f = let z : ◌≡◌ {A = ℕ} 0 1 = cc in absurd (omega arith)

        go : (d : Device) (cs : List DeviceCall) → device_trace d cs ≡ accepts_now k r n ∷ [] → known (lane_at d.state k).waiting t ≡ true
        go d [] f = let z : ◌≡◌ {A = ℕ} 0 1 = cc in absurd (omega arith)
        go d (c ∷ cs) f =
            let first : event_of d c ≡ accepts_now k r n = cc in
            let reply : (device_step d (ruled (put k t r.mark r.len))).reply ≡ answered (accepted n)
            = subst (λ (c : DeviceCall). (device_step d c).reply ≡ answered (accepted n)) (ap (λ (y : DeviceEvent). y.call) first) (ap (λ (y : DeviceEvent). y.reply) first) in
            put-known d.state (put_refusal d.state k r) (put-ok d.state k r) (same-reply _ _ reply)

    pub train-inside : t < train_count
    train-inside = known-inside (lane_at took.device.state k).waiting t took.knows

    -- ---- of a lane that is not shared

    module _ (alone : (setting_at g k).shared ≡ false) where
      train-zero : t ≡ 0
      train-zero =
          let d = took.device in
          let setting : (lane_at d.state k).given ≡ setting_at g k = sym (setting-lane d.state k) ∙ ap (λ (p : Page). setting_at p.settings k) took.run.page in
          known-train (lane_at d.state k).waiting t ((reached-good d.state took.run.reached).kind k ∙ ap (λ (x : Setting). x.shared) setting ∙ alone) took.knows

      pub own-most : NotYet k r n (of_rules since) → bytes_sent_of g k (of_rules since) ≤ n * charge (setting_at g k) (setting_at g k).longest
      unfolding InOnePart
      own-most few =
          let x = subst (λ (h : List Setting). FittedIn h) (same-force few) (fitted (in-one-part gs s cs a front since rest joined k (held few))) in
          let few' : length (sent_of k (of_rules since)) ≤ n
          = omega (arith, few, fit-train (setting_at g k) (sent_of k (of_rules since)) alone x, ap (λ (i : ℕ). length (of_train i (sent_of k (of_rules since)))) train-zero) in
          omega (arith, bytes_most g k (of_rules since) x, mul-le-mul_right (charge (setting_at g k) (setting_at g k).longest) few')
        where
          FittedIn : List Setting → Type 0
          FittedIn h = Fit (setting_at h k) (sent_of k (of_rules since))

          fitted : OnePart gs front since → FittedIn (in_force gs front)
          fitted x =
              let h = in_force gs front in
              let all = split (fresh h) (x.before ++ x.during) (trace (fresh h) x.before ++ of_rules since) [] x.events in
              let two = split (fresh h) all.calls (trace (fresh h) x.before) (of_rules since) all.past_is in
              let u = after (fresh h) two.calls in
              let given : (lane_at u k).given ≡ setting_at h k = sym (setting-lane u k) ∙ ap (λ (y : List Setting). setting_at y k) (setup_kept (fresh h) two.calls ∙ fresh-setup h) in
              rw (given, two.rest_is) at (sent-fit k u two.more (sound-run (fresh h) two.calls (fresh-sound h)) (kind-run (fresh h) two.calls (fresh-kind h)))

      pub by-of : (M : List Setting → ℕ) → FairPages M → NotYet k r n (of_rules since) → bytes_sent g (of_rules since) < worst_wait (M g) (setting_at g k) n
      by-of M fair few =
          (worst-is (M g) (setting_at g k) n (bytes_sent g (of_rules since))).0 (omega (arith, waits-of M fair few, rated (setting_at g k) n (bytes_sent_of g k (of_rules since)) (own-most few)))

      pub out_of : (M : List Setting → ℕ) → FairPages M → worst_wait (M g) (setting_at g k) n ≤ bytes_sent g (of_rules since) → Out k r (of_rules past) (of_rules since)
      out_of M fair much =
          elim (dec_le (length (of_train t (sent_of k (of_rules since)))) n) [
            | yes few ↦ absurd (omega (arith, much, by-of M fair few))
            | no many ↦ out-more-of (omega arith)
          ]
