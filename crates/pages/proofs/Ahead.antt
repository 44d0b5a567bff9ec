-- The number that an accepted put answers, over changes of setup. Assumes nothing.
use Prim.Native.Nat.{ℕ, ◌+◌, ◌<◌}
use native.Mathlib.Omega.{arith}
use mathlib.Core.Path.{◌≡◌, sym, ap, subst, ◌∙◌}
use mathlib.Core.Bool.{Bool}
use mathlib.Core.List.{List, [], ◌∷◌, append_assoc}
use lib.ListN.{length, length-append}
use Rattle.std.specs.Prelude.{if◌then◌else◌}
use Rattle.rounds.specs.Round.{train_depth}
use Rattle.waiting.specs.Waiting.{lane_depth}
use Rattle.rules.specs.State.{Rec, Setting, setting_at, lane_at}
use Rattle.rules.specs.Calls.{put, Reply, accepted, put_refusal, do_put, step}
use Rattle.rules.specs.Runs.{accepted_of, sent_of, of_train}
use Rattle.rules.proofs.Keep.{put-ok}
use Rattle.rules.proofs.Queues.{queue_at}
use Rattle.rules.proofs.SameSetup.{setting-lane}
use Rattle.rules.proofs.Ahead.{put-says}
use Rattle.rules.proofs.AlwaysGood.{reached-good}
use Rattle.pages.specs.Device.{Page, Device, DeviceCall, ruled, answered, device_step, device_step_by}
use Rattle.pages.specs.Offers.{DeviceEvent, event_of, device_trace, device_trace_by, of_rules, in_force}
use Rattle.pages.specs.Claims.{SaysAheadPages}
use Rattle.pages.proofs.Parts.{part-order}
use Rattle.pages.proofs.Run.{Run}
use Rattle.pages.proofs.Stretch.{stretch-of}

pub same-reply : (a b : Reply) → answered a ≡ answered b → a ≡ b
same-reply a b e = cc

pub says-ahead-pages : SaysAheadPages
unfolding SaysAheadPages device_trace_by device_step_by step do_put
says-ahead-pages gs s cs a past rest j t m l n x =
    let y = stretch-of gs s cs a past (e ∷ []) rest (x ∙ sym (append_assoc past (e ∷ []) rest)) in
    go y.device y.calls y.run y.is
  where
    e : DeviceEvent
    e = record { call = ruled (put j t m l); reply = answered (accepted n) }

    r : Rec
    r = record { train = t; mark = m; len = l }

    go : (d : Device) (cs : List DeviceCall) → Run gs past d → device_trace d cs ≡ e ∷ []
        → (length (of_train t (accepted_of j (of_rules past))) ≡ length (of_train t (sent_of j (of_rules past))) + n) × (n < (if (setting_at (in_force gs past) j).shared then train_depth else lane_depth))
    go d [] run f = let z : ◌≡◌ {A = ℕ} 0 1 = cc in absurd (omega arith)
    go d (c ∷ cs) run f =
        let first : event_of d c ≡ e = cc in
        let told : (device_step d (ruled (put j t m l))).reply ≡ answered (accepted n)
        = subst (λ (c : DeviceCall). (device_step d c).reply ≡ answered (accepted n)) (ap (λ (y : DeviceEvent). y.call) first) (ap (λ (y : DeviceEvent). y.reply) first) in
        let says = put-says d.state j r n (put_refusal d.state j r) (put-ok d.state j r) (same-reply _ _ told) in
        let order = part-order (of_rules past) d.state run.part j t in
        let setting : (lane_at d.state j).given ≡ setting_at (in_force gs past) j
        = sym (setting-lane d.state j) ∙ ap (λ (p : Page). setting_at p.settings j) run.page in
        let kind = (reached-good d.state run.reached).kind j ∙ ap (λ (g : Setting). g.shared) setting in (
          omega (arith, ap length order, length-append (of_train t (sent_of j (of_rules past))) (queue_at d.state j t), says.0),
          subst (λ (b : Bool). n < (if b then train_depth else lane_depth)) kind says.1,
        )
